use Rattle.std.proofs.Common.{[], subst}
use Rattle.dvg_log.specs.declared.entry.Entry.TheVariants.{Done, Fetched, Low}
use Rattle.dvg_log.specs.declared.event.Event.TheVariants.{Fetch}
use Rattle.dvg_logs.specs.MomentLines.{TearsSo}
use Rattle.dvg_logs.specs.MomentLogs.{judged_log}
use Rattle.dvg_logs.proofs.MomentLines.{quiet_more, sound_more}
use Rattle.dvg_logs.proofs.moment_lines.MomentLinesLineJudge.find.Goals as goal

pub returns-in-Low-clause-none : goal.returns-in-Low-clause-none
returns-in-Low-clause-none c = λ said log so are none. rw c.in-Low.is
    (sound_more said Fetch (Low c.in-Low.address c.in-Low.byte) log (λ contradicts. c.contradicted.ensures.none none ((c.contradicts_low-contradicts.ensures (judged_log log) so.stands).1 contradicts)) are)

pub returns-in-Fetched-clause-none : goal.returns-in-Fetched-clause-none
returns-in-Fetched-clause-none c = λ said log so are none. rw c.in-Fetched.is
    (sound_more said Fetch (Fetched c.in-Fetched.address c.in-Fetched.word) log (λ contradicts. c.contradicted-in-Fetched.ensures.none none ((c.contradicts_word-contradicts.ensures.fetched (judged_log log) so.stands).1 contradicts)) are)

pub returns-in-None-clause-none : goal.returns-in-None-clause-none
returns-in-None-clause-none c = λ said log so are none. rw c.in-Halted.is
    (sound_more said Fetch (Done 0 0 []) log (subst (λ tear. TearsSo tear (judged_log log)) c.in-None.is so.tear) are)

pub returns-in_default : goal.returns-in_default
returns-in_default c = record {
  found = λ log so at few. tt;
  none = λ said log so are none. quiet_more c.args.logged said log c.in_default.not-Low c.in_default.not-Fetched c.in_default.not-Halted are;
  some = λ said log so at few are. tt;
}
