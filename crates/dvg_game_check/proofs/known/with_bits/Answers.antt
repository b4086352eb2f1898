use Rattle.std.proofs.Common.{◌+◌, ◌∙◌, ap, sym}
use Rattle.dvg_game_words.specs.Brings.{with_bits}
use Rattle.dvg_game_check.specs.Brought.{known_meant}
use Rattle.dvg_game_check.proofs.Knows.{masked_twice}
use Rattle.dvg_game_check.proofs.known.with_bits.Goals as goal

pub returns-in-Masked : goal.returns-in-Masked
returns-in-Masked c rom =
    masked_twice (λ y. rom (c.in-Masked.base + y)) c.in-Masked.old c.args.mask
    ∙ ap (λ k. with_bits c.args.mask (known_meant rom k)) (sym c.in-Masked.is)
