use Rattle.dvg_logs.proofs.tears_all.Telling.tell.Goals as goal

pub returns-in-Found-clause-tear : goal.returns-in-Found-clause-tear
returns-in-Found-clause-tear g c = λ none. rw c.in-Found.is (c.tell_found.ensures.tear c.in-Found.field-0 none)

pub returns-in-Found-clause-last : goal.returns-in-Found-clause-last
returns-in-Found-clause-last g c = rw c.in-Found.is (c.tell_found.ensures.last c.in-Found.field-0)
