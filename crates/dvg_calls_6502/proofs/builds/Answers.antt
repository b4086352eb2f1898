use Rattle.std.proofs.Common.{refl}
use Rattle.dvg_calls_6502.proofs.Building.{put_takes}
use Rattle.dvg_calls_6502.proofs.BuildCalls.{puts_refuse, open_refuses, close_refuses}
use Rattle.dvg_calls_6502.proofs.Pairing.{pair_takes, labs_takes}
use Rattle.dvg_calls_6502.proofs.OpenAndClose.{open_is_taken, close_takes, idle_ticks, run_returns}
use Rattle.dvg_calls_6502.proofs.VectorBuilds.{vector_takes, vector_refuses}
use Rattle.dvg_calls_6502.proofs.VectorDraws.{vector_draws}
use Rattle.dvg_calls_6502.proofs.BuildScript.{builds_script}
use Rattle.dvg_calls_6502.proofs.IdleTicks.{idle_ticks_all}
use Rattle.dvg_calls_6502.proofs.builds.Goals as goal

pub returns : goal.returns
returns c = record {
  opens = open_is_taken;
  puts = put_takes;
  pairs = pair_takes;
  labs = labs_takes;
  vector = vector_takes;
  no_vector = vector_refuses;
  no_room = puts_refuse;
  no_rest = open_refuses;
  no_frame = close_refuses;
  vector_draws = vector_draws;
  some_vectors = (refl, refl, refl);
  closes = close_takes;
  idles = idle_ticks;
  runs = run_returns;
  idles_all = idle_ticks_all;
  script = builds_script;
}
