use Rattle.std.proofs.Common.{rules}
use Rattle.std.specs.Io.KnownBytes.{Appends}
use Rattle.dvg_print.specs.MomentVerdicts.{moment_verdict_text}
use Rattle.dvg_io.specs.Watching.{BeginsToWrite, stream_of}
use Rattle.dvg_read.specs.Texts.{lines}
use Rattle.dvg_logs.proofs.Tellings.{begun_more, judges_end, wrote_more}
use Rattle.dvg_logs.proofs.tears_all.Telling.tell_end.Goals as goal

pub returns-then-is_err-clause-ends : goal.returns-then-is_err-clause-ends
returns-then-is_err-clause-ends g c = λ base old text told.
    let verdict = c.of_all-verdict.result in
    let now = g.W.Write.contents (stream_of c.args.writer.now) in
    let new = g.W.Write.contents (stream_of c.write_verdict.new.writer) in
    let begun : BeginsToWrite (moment_verdict_text verdict) now new = search rules in
    let judges = judges_end base c.args.self.now.torn told.tears verdict c.at_end.result text told.are told.torn_is c.of_all-verdict.ensures (c.at_end.ensures base told.tears (lines text) told.holds) in
    (told.tears, verdict, judges, begun_more verdict told.tears old now new told.wrote begun)

pub returns-clause-ends : goal.returns-clause-ends
returns-clause-ends g c = λ base old text told.
    let verdict = c.of_all-verdict.result in
    let now = g.W.Write.contents (stream_of c.args.writer.now) in
    let new = g.W.Write.contents (stream_of c.write_verdict.new.writer) in
    let wrote : Appends now new (moment_verdict_text verdict) = search rules in
    let judges = judges_end base c.args.self.now.torn told.tears verdict c.at_end.result text told.are told.torn_is c.of_all-verdict.ensures (c.at_end.ensures base told.tears (lines text) told.holds) in
    (told.tears, judges, wrote_more verdict told.tears old now new told.wrote wrote)
