use Rattle.std.proofs.Common.{◌≡◌, [], ◌∷◌, ◌++◌, append_assoc, ap, arith, map, replicate, sym, ◌∙◌}
use Rattle.std.proofs.lemmas.List.{map-append, replicate-append-replicate}
use Rattle.dvg_log.specs.Entries.{map_entry, shown_of}
use Rattle.dvg_world.proofs.EntriesKept.{lines_alike}
use Rattle.dvg_world.proofs.EntriesDrew.{owned_none, undrawn_as}
use Rattle.dvg_world.proofs.runs.OwnEntriesAllocKeeper.keep_alike.Goals as goal

pub loop-again-preserved : goal.loop-again-preserved
loop-again-preserved g c = record {
  kept = λ picture.
      ap (map shown_of) c.push_reserved.ensures.items
      ∙ map-append shown_of c.loop-again.self.entries.items _
      ∙ ap (λ front. front ++ shown_of c.with.result ∷ []) (c.loop-again.invariant.kept picture)
      ∙ ap (λ entry. (map shown_of c.args.self.now.entries.items ++ replicate c.loop-again._again (map_entry (λ _. picture) c.args.entry)) ++ entry ∷ [])
      (ap shown_of c.with.ensures ∙ owned_none c.args.entry picture c.new.result (undrawn_as c.args.entry picture c.requires.undrawn))
      ∙ append_assoc (map shown_of c.args.self.now.entries.items) (replicate c.loop-again._again (map_entry (λ _. picture) c.args.entry)) (map_entry (λ _. picture) c.args.entry ∷ [])
      ∙ ap (λ more. map shown_of c.args.self.now.entries.items ++ more) (replicate-append-replicate c.loop-again._again 1 (map_entry (λ _. picture) c.args.entry));
  len = (let len = c.loop-again.invariant.len in let more = c.push_reserved.ensures.len in omega (arith, len, more));
  capacity = c.push_reserved.ensures.capacity ∙ c.loop-again.invariant.capacity;
}

pub returns-clause-kept : goal.returns-clause-kept
returns-clause-kept g c picture event log kept =
    let shown = map_entry (λ _. picture) c.args.entry in
    let all : c.loop-again._again ≡ c.args.times = omega arith in
    c.loop-again.invariant.kept picture
    ∙ ap (λ n. map shown_of c.args.self.now.entries.items ++ replicate n shown) all
    ∙ ap (λ front. front ++ replicate c.args.times shown) kept
    ∙ sym (lines_alike c.args.times event shown log)
