use Rattle.std.proofs.Common.{◌≡◌, sym, ◌∙◌, arith}
use Rattle.dvg_game_check.specs.declared.note.Slot.TheVariants.{Any}
use Rattle.dvg_game_check.proofs.Slots.{serve_more, serve_fails, serve_short, serve_done}
use Rattle.dvg_game_check.proofs.follow.serve.Goals as goal
use Rattle.dvg_game_check.proofs.follow.serve.Goals.{then-known-i-via-then-known-i, then-known-i-via-else-known-i+then-not-serves}

pub returns-then-known-i : goal.returns-then-known-i
returns-then-known-i c =
    elim c.then-known-i.branch [
      | then-known-i-via-then-known-i w ↦
          sym (sym c.loop-i.invariant ∙ serve_short c.args.new.now c.args.known.now c.loop-i.i Any (omega arith) (omega arith))
      | then-known-i-via-else-known-i+then-not-serves w ↦
          sym (sym c.loop-i.invariant ∙ serve_fails c.args.new.now c.args.known.now c.loop-i.i _ _ (omega arith) (omega arith)
          (sym w.serves.ensures ∙ w.if-not-serves.true))
    ]

pub loop-i-preserved : goal.loop-i-preserved
loop-i-preserved c =
    serve_more c.args.new.now c.args.known.now c.loop-i.i _ _ (omega arith) (omega arith)
    (sym c.serves.ensures ∙ c.if-not-serves.false) ∙ c.loop-i.invariant

pub returns : goal.returns
returns c = sym (sym c.loop-i.invariant ∙ serve_done c.args.new.now c.args.known.now c.loop-i.i (omega arith))
