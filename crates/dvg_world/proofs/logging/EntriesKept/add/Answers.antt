use Rattle.std.proofs.Common.{rules, ◌≡◌, ◌+◌, ◌-◌, ◌<◌, ◌≤◌, ◌∷◌, ◌++◌, [], arith}
use Rattle.std.specs.Prelude.{option_to_list, vec_capacity, vec_len}
use Rattle.dvg_world.specs.own.Entries.{entry_count}
use Rattle.dvg_world.proofs.EntriesKept.{few_kept, kept_more}
use Rattle.dvg_world.proofs.logging.EntriesKept.add.Goals.{in-Some, in_default}
use Rattle.dvg_world.proofs.logging.EntriesKept.add.Goals as goal

pub push_reserved-requires-2 : goal.push_reserved-requires-2
push_reserved-requires-2 g c =
    let before = c.args.self.now in
    let few = few_kept before.kept.items in
    let some = c.requires.some in
    let room : entry_count before.kept.items + c.args.times ≤ vec_capacity before.kept =
    search rules in
    let low : vec_len before.kept < vec_capacity before.kept = omega (arith, few, some, room) in
    elim c.match-drew.branch [
      | in-Some w ↦ search rules
      | in_default w ↦ search rules
    ]

pub returns-clause-kept : goal.returns-clause-kept
returns-clause-kept g c picture drawn event log kept =
    let before = c.args.self.now in
    let times = c.args.times in
    let room : entry_count before.kept.items + times ≤ 65536 = search rules in
    let kept_now = c.push_reserved-2.new.self.items in
    let drawn_now = c.match-drew.self.drawn.items in
    let more : kept_now ≡ before.kept.items ++ record { entry = c.args.entry; again = times - 1 } ∷ [] =
    search rules in
    let later : drawn_now ≡ before.drawn.items ++ option_to_list c.args.drew =
    elim c.match-drew.branch [
      | in-Some w ↦ search rules
      | in_default w ↦ search rules
    ] in
    kept_more before.kept.items kept_now before.drawn.items drawn_now c.args.entry picture c.args.drew times event log
    drawn kept.0 kept.1 c.requires.some room more later
