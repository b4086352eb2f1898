use Rattle.std.proofs.Common.{◌≡◌, length, inl, refl, subst, arith}
use Rattle.dvg_log.specs.declared.event.Event.TheVariants.{ResetAll}
use Rattle.dvg_world.specs.Standing.{AddsLine, KeepsHeadlineAfter, shown_in}
use Rattle.dvg_device.proofs.happening.reset_all.Goals as goal

pub returns : goal.returns
returns c =
    let bytes = c.copy_from.ensures in
    let entry = c.reset_all.result in
    let later = c.reset_all.new.self in
    let count : length c.args.staged.now ≡ 2048 = omega arith in
    rw count (inl (record {
      entry = entry;
      stands = subst (λ bytes. AddsLine c.args.world.now (ResetAll bytes) (shown_in later entry) later) bytes
          c.reset_all.ensures.stands;
      headline = subst (λ bytes. KeepsHeadlineAfter c.args.world.now (ResetAll bytes) (shown_in later entry)) bytes
          c.reset_all.ensures.headline;
      picture = λ none. c.reset_all.ensures.picture;
      answered = refl;
    }))
