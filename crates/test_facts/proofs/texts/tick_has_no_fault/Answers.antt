use Rattle.std.proofs.Common.{subst}
use Rattle.std.specs.Prelude.{IfErr}
use Rattle.dvg_read.specs.TraceGives.{StopsReading}
use Rattle.test_facts.proofs.Clients.{no_fault_in}
use Rattle.test_facts.proofs.texts.tick_has_no_fault.Goals as goal

pub returns : goal.returns
returns c = no_fault_in c.read_trace.result (subst (λ text. IfErr c.read_trace.result (λ fault. StopsReading fault text)) c.requires c.read_trace.ensures.fault)
