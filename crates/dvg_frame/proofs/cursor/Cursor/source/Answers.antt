use Rattle.std.proofs.Common.{ap, subst, sym}
use Rattle.std.specs.Prelude.{◌≤◌, ◌*◌}
use Rattle.dvg_frame.specs.Layout.{size}
use Rattle.dvg_frame.specs.Left.{CursorState}
use Rattle.dvg_frame.proofs.cursor.Cursor.source.Goals as goal

pub returns-clause-source : goal.returns-clause-source
returns-clause-source c = (
  sym (ap (λ (cursor : CursorState). cursor.draft) c.self.view_is),
  sym (ap (λ (cursor : CursorState). cursor.half) c.self.view_is),
)

pub returns-clause-left : goal.returns-clause-left
returns-clause-left c =
    subst (λ n. n ≤ 2 * size c.self.inside.draft) (ap (λ (cursor : CursorState). cursor.left) c.self.view_is)
    c.self.invariant.left
