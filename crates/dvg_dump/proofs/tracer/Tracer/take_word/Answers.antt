use Rattle.std.proofs.Common.{ap, sym, refl, ◌∙◌}
use Rattle.dvg_dump.specs.Tracing.{Trail}
use Rattle.dvg_dump.proofs.TracerTells.{held_word, recorded_word}
use Rattle.dvg_dump.proofs.tracer.Tracer.take_word.Goals as goal

pub returns-in-Some : goal.returns-in-Some
returns-in-Some g c =
    let old = c.args.self.now in
    recorded_word c.tell.result c.in-Some.read c.completed.result c.args.address c.args.word _ old _ _ c.requires c.in-Some.is
    (ap {A = Trail} (λ t. record t { address = c.began-self-inside.result }) c.self.view_is ∙ ap (λ a. record old { address = a }) c.began-self-inside.ensures) (ap (λ t. t.held) (sym c.self.view_is))
    c.completed.ensures.found c.completed.ensures.first c.tell.ensures

pub returns-in-None : goal.returns-in-None
returns-in-None g c =
    let old = c.args.self.now in
    held_word c.completed.result c.args.address c.args.word _ old _ _ c.requires c.in-None.is
    (ap {A = Trail} (λ t. record t { address = c.began-self-inside.result }) c.self.view_is ∙ ap (λ a. record old { address = a }) c.began-self-inside.ensures) (ap (λ t. t.held) (sym c.self.view_is))
    c.completed.ensures.found c.completed.ensures.first refl
