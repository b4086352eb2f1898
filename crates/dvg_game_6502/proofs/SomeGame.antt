-- A program whose bytes meet the premises of the laws, and a play of it.
use Rattle.std.proofs.Common.{◌≡◌, ℕ, zero, suc, ◌-◌, ◌/◌, ◌%◌, ◌<◌, Bool, true, false, List, [], ◌∷◌, refl, arith}
use Rattle.std.proofs.Common.{leb-true}
use Rattle.std.specs.Prelude.{◌&&◌, nat_lt, if◌then◌else◌}
use Rattle.dvg_calls_6502.specs.Code.{code}
use Rattle.dvg_calls_6502.specs.Processor.{Cpu}
use Rattle.dvg_game_rules.specs.Checker.{first, places}
use Rattle.dvg_game_rules.specs.Written.{of_list, rom_of, found, notes_of, note, nmi_note}
use Rattle.dvg_game_rules.proofs.Facts.{both_true}
use Rattle.dvg_game_6502.specs.Play.{Begins, begins, does}
use Rattle.dvg_game_6502.specs.SomeGame.{bytes, vectors, rows, rom, notes, start, IsFine, Plays}

pub is_fine : IsFine
unfolding places of_list rom_of found notes_of note nmi_note bytes vectors rows rom notes
is_fine other = (refl, refl, refl, refl)

-- each byte of it is one
abbrev all_small : List ℕ → Bool
all_small [] = true
all_small (x ∷ xs) = nat_lt x 256 && all_small xs

item_small : (other : ℕ) (xs : List ℕ) (n : ℕ) → other < 256 → all_small xs ≡ true → of_list other xs n < 256
unfolding of_list
item_small other [] n small all = small
item_small other (x ∷ xs) zero small all = leb-true (suc x) 256 (both_true (nat_lt x 256) (all_small xs) all).0
item_small other (x ∷ xs) (suc n) small all =
    item_small other xs n small (both_true (nat_lt x 256) (all_small xs) all).1

row_small : (n : ℕ) → all_small (of_list [] bytes n) ≡ true
unfolding of_list bytes
row_small zero = refl
row_small (suc n) = refl

pub rom_small : (other : ℕ → ℕ) → ((b : ℕ) → other b < 256) → (b : ℕ) → rom other b < 256
unfolding rom rom_of vectors
rom_small other small b = by (nat_lt b 0x6800) (nat_lt b first) (nat_lt b 0x7FFA) (nat_lt b 0x8000)
  where
    by : (t u v w : Bool) → (if t then other b else if u then of_list 0 code (b - 0x6800)
        else if v then of_list 0xFF (of_list [] bytes ((b - first) / 64)) ((b - first) % 64)
        else if w then of_list 0 vectors (b - 0x7FFA) else other b) < 256
    by true u v w = small b
    by false true v w = item_small 0 code (b - 0x6800) (omega arith) refl
    by false false true w = item_small 0xFF (of_list [] bytes ((b - first) / 64)) ((b - first) % 64) (omega arith)
        (row_small ((b - first) / 64))
    by false false false true = item_small 0 vectors (b - 0x7FFA) (omega arith) refl
    by false false false false = small b

-- after its TXS
unfoldable pub begun : (ℕ → ℕ) → Cpu
begun other = record {
  a = 0;
  x = 0;
  y = 0;
  s = 255;
  pc = start;
  n = false;
  z = false;
  c = false;
  v = false;
  d = false;
  i = false;
  mem = rom other;
  flags = λ n. 0;
  log = [];
}

pub it_begins : (other : ℕ → ℕ) → ((b : ℕ) → other b < 256) → Begins (rom other) start (begun other)
unfolding begun
it_begins other small = record {
  loaded = λ b low high. refl;
  entry = refl;
  stack = refl;
  bytes = record { a = omega arith; x = omega arith; y = omega arith; s = omega arith; mem = rom_small other small };
}

pub plays : Plays
unfolding of_list rom_of bytes vectors rom begun
plays other small =
    let one = begins (begun other) 0 (it_begins other small) in
    let two = does (λ n. 0) one refl (omega arith) in
    let three = does (λ n. 0) two refl (omega arith) in
    (_, three, refl)
