use Rattle.std.proofs.Common.{◌≡◌, ◌+◌, ◌++◌, List, map, replicate, vec_capacity, vec_len}
use Rattle.dvg_gen.specs.declared.stroke.Stroke.{Stroke}
use Rattle.dvg_log.specs.Entries.{map_entry, shown_of}
use Rattle.dvg_world.proofs.runs.OwnEntriesAllocKeeper.keep_alike.Given as goal

abbrev pub invariant-loop-again : goal.invariant-loop-again
invariant-loop-again g l = record {
  kept : (picture : List Stroke) → map shown_of l.self.entries.items
      ≡ map shown_of l.fn.self.entries.items ++ replicate l._again (map_entry (λ _. picture) l.entry);
  len : vec_len l.self.entries ≡ vec_len l.fn.self.entries + l._again;
  capacity : vec_capacity l.self.entries ≡ vec_capacity l.fn.self.entries;
}
