use Rattle.std.proofs.Common.{◌∙◌}
use Rattle.dvg_frame.proofs.Tabled.{keeps_same, put_entries, put_has, put_keeps}
use Rattle.dvg_frame.proofs.checking.bounds.put_drawn.Goals as goal

pub returns-in-None-clause-entries : goal.returns-in-None-clause-entries
returns-in-None-clause-entries c = λ F R entries known.
    put_entries _ _ _ _ c.requires (c.at.ensures ∙ c.in-None.is) c.put.ensures.size c.put.ensures.table F R entries
    known

pub returns-in-None-clause-kept : goal.returns-in-None-clause-kept
returns-in-None-clause-kept c =
    put_keeps _ _ _ _ c.requires (c.at.ensures ∙ c.in-None.is) c.put.ensures.size c.put.ensures.table

pub returns-in-None-clause-has : goal.returns-in-None-clause-has
returns-in-None-clause-has c =
    put_has _ _ _ _ c.requires (c.at.ensures ∙ c.in-None.is) c.put.ensures.size c.put.ensures.table

pub returns-in-Some-clause-entries : goal.returns-in-Some-clause-entries
returns-in-Some-clause-entries c = λ F R entries known. entries

pub returns-in-Some-clause-kept : goal.returns-in-Some-clause-kept
returns-in-Some-clause-kept c = keeps_same _

pub returns-in-Some-clause-has : goal.returns-in-Some-clause-has
returns-in-Some-clause-has c = (c.requires, c.at.ensures ∙ c.in-Some.is)
