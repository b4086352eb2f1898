-- The memory that a trace begins with.
use Rattle.std.proofs.Common.{ℕ, ◌<◌, arith}
use Rattle.std.proofs.lemmas.List.{length-replicate}
use Rattle.std.proofs.lemmas.List.Elements.{All-replicate}
use Rattle.dvg_mem.specs.Memory.{IsImage}
use Rattle.dvg_tool.specs.Plays.{zeros}

pub zeros_are_image : IsImage zeros
zeros_are_image = record { count = length-replicate {A = ℕ} 2048 0; bytes = All-replicate (λ byte. byte < 256) 2048 0 (omega arith) }
