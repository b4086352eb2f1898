use Rattle.std.proofs.Common.{◌∙◌, ap, refl}
use Rattle.std.specs.Prelude.{set, Some}
use Rattle.dvg_frame.specs.own.Pairs.{place_index}
use Rattle.dvg_frame.proofs.Notes.{put_noted}
use Rattle.dvg_frame.proofs.checking.table.Table.put.Goals as goal

pub returns-clause-table : goal.returns-clause-table
returns-clause-table c =
    put_noted c.self.inside.round c.number_of.result c.self.inside.notes c.args.place (record { words = c.args.drawn.words; round = c.self.inside.round; end = c.args.drawn.end; returns = c.args.drawn.returns; calls = c.args.drawn.calls }) c.number_of.ensures.value refl
    ∙ ap (λ table. set table (place_index c.args.place) (Some c.args.drawn)) c.self.view_is
