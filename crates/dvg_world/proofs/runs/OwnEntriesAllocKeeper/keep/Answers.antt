use Rattle.std.proofs.Common.{[], ◌∷◌, ◌++◌, ap, map, ◌∙◌}
use Rattle.std.proofs.lemmas.List.{map-append}
use Rattle.dvg_log.specs.Entries.{shown_of}
use Rattle.dvg_world.specs.Keeping.{entries_in}
use Rattle.dvg_world.proofs.runs.OwnEntriesAllocKeeper.keep.Goals as goal

pub returns-clause-kept : goal.returns-clause-kept
returns-clause-kept g c event log kept count =
    ap (map shown_of) c.push_reserved.ensures.items
    ∙ map-append shown_of c.args.self.now.entries.items _
    ∙ ap (λ front. front ++ shown_of c.own.result ∷ []) kept
    ∙ ap (λ entry. entries_in log ++ entry ∷ []) c.own.ensures.shown
