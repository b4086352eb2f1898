use Rattle.std.proofs.Common.{[], ◌∷◌, None, refl, ap, ◌∙◌, subst}
use Rattle.dvg_gen.specs.Told.{Start}
use Rattle.dvg_device.specs.Devices.{Held, Turned, Generator}
use Rattle.dvg_device.specs.Generators.{wanting}
use Rattle.dvg_device.specs.Replies.{number_of}
use Rattle.test_facts.proofs.Opening.{begins, opens, wants_zero}
use Rattle.test_facts.proofs.numbered.wants_word_zero.Goals as goal

pub returns : goal.returns
returns c =
    let first = opens c.new-device.result c.turn-opened.new.self c.turn-opened.result c.new-device.ensures c.turn-opened.ensures.turned in
    let next = begins c.turn-opened.new.self c.turn-started.new.self c.turn-started.result first.1 first.2 first.3 c.turn-started.ensures.turned in
    let there = next.3 ∙ ap (λ (d : Held). record d { open_part = Generator next.1 }) first.3 in
    let told = next.2 in
    let last = subst (λ d. Turned d 16 c.turn.new.self c.turn.result) there c.turn.ensures.turned in
    let wants_low = last.1.2.1 (Start ∷ []) None told in
    let zero = last.2 ∙ ap number_of (wants_low ∙ ap (λ address. wanting address None) (wants_zero told.run told.leaves)) in
    rw (first.0, next.0, zero) refl
