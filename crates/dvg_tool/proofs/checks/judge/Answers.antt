use Rattle.std.proofs.Common.{ap, ◌∙◌}
use Rattle.dvg_frame.specs.Layout.{size}
use Rattle.dvg_tool.proofs.checks.judge.Goals as goal

pub returns-in-Ok-check-clause-said : goal.returns-in-Ok-check-clause-said
returns-in-Ok-check-clause-said g c =
    let (accepts, same, bound) = c.in-Ok-check.ensures in
    let rom = c.in-Ok-new.ensures.bytes ∙ c.as_slice.ensures.value in
    let ops = c.ops.ensures.value in
    record {
      F = c.in-Ok.drafted.draft;
      R = c.in-Ok.drafted.rom.items;
      gives = c.in-Ok.ensures.gives;
      said = (
        rw ops at (rw rom at accepts),
        c.len_words.ensures.value ∙ ap size (same ∙ ops),
        rw (← c.bound.ensures.value) at (rw ops at (rw rom at bound)),
      );
    }

pub returns-clause-said : goal.returns-clause-said
returns-clause-said g c =
    let rom = c.in-Ok-new.ensures.bytes ∙ c.as_slice.ensures.value in
    let ops = c.ops.ensures.value in
    record {
      F = c.in-Ok.drafted.draft;
      R = c.in-Ok.drafted.rom.items;
      gives = c.in-Ok.ensures.gives;
      said = rw ops at (rw rom at c.in-Err-check.ensures);
    }
