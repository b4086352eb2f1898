-- Each of these sentences has runs: the ROM, whatever stands beside it, and the vector ROM are bytes, so that it can be
-- powered.
use Rattle.std.proofs.Common.{◌≡◌, inl, ℕ, zero, suc, ◌-◌, ◌/◌, ◌%◌, ◌<◌, Bool, true, false, List, [], ◌∷◌, refl}
use Rattle.std.proofs.Common.{leb-true, lit<}
use Rattle.std.specs.Prelude.{◌&&◌, nat_lt, if◌then◌else◌, All, length}
use Rattle.std.proofs.lemmas.List.Elements.{All-cons, All-nil}
use Rattle.dvg_mem.specs.Memory.{IsRom}
use Rattle.dvg_calls_6502.specs.Code.{code}
use Rattle.dvg_game_rules.specs.Checker.{first}
use Rattle.dvg_game_rules.specs.Written.{of_list, rom_of}
use Rattle.dvg_game_rules.specs.First as first_game
use Rattle.dvg_game_rules.specs.Bat as bat_game
use Rattle.dvg_game_rules.specs.Asteroid as asteroid_game
use Rattle.dvg_game_rules.specs.Rocks as rocks_game
use Rattle.dvg_game_rules.specs.TestRom as test_rom_game
use Rattle.dvg_game_rules.proofs.Facts.{both_true}
use Rattle.dvg_closed_board.specs.FirstContent as first_content
use Rattle.dvg_closed_board.specs.BatContent as bat_content
use Rattle.dvg_closed_board.specs.AsteroidContent as asteroid_content
use Rattle.dvg_closed_board.specs.RocksContent as rocks_content
use Rattle.dvg_closed_board.specs.TestRomContent as test_rom_content
use Rattle.dvg_game_cells.specs.Whole.{powers}
use Rattle.dvg_closed_cells.specs.Closed.{CanBePowered, PoweredOn}

abbrev all_small : List ℕ → Bool
all_small [] = true
all_small (x ∷ xs) = nat_lt x 256 && all_small xs

abbrev each_small : List (List ℕ) → Bool
each_small [] = true
each_small (x ∷ xs) = all_small x && each_small xs

are_bytes : (xs : List ℕ) → all_small xs ≡ true → All (λ b. b < 256) xs
are_bytes [] all = All-nil (λ b. b < 256)
are_bytes (x ∷ xs) all = let two = both_true (nat_lt x 256) (all_small xs) all in
    All-cons (λ b. b < 256) x xs (leb-true (suc x) 256 two.0) (are_bytes xs two.1)

item_small : (other : ℕ) (xs : List ℕ) (n : ℕ) → other < 256 → all_small xs ≡ true → of_list other xs n < 256
unfolding of_list
item_small other [] n small all = small
item_small other (x ∷ xs) zero small all = leb-true (suc x) 256 (both_true (nat_lt x 256) (all_small xs) all).0
item_small other (x ∷ xs) (suc n) small all =
    item_small other xs n small (both_true (nat_lt x 256) (all_small xs) all).1

row_small : (rows : List (List ℕ)) (n : ℕ) → each_small rows ≡ true → all_small (of_list [] rows n) ≡ true
unfolding of_list
row_small [] n all = refl
row_small (x ∷ xs) zero all = (both_true (all_small x) (each_small xs) all).0
row_small (x ∷ xs) (suc n) all = row_small xs n (both_true (all_small x) (each_small xs) all).1

rom_small : (rows : List (List ℕ)) (vectors : List ℕ) → each_small rows ≡ true → all_small vectors ≡ true
    → (other : ℕ → ℕ) → ((b : ℕ) → other b < 256) → (b : ℕ) → rom_of rows vectors other b < 256
unfolding rom_of
rom_small rows vectors fine few other small b = by (nat_lt b 0x6800) (nat_lt b first) (nat_lt b 0x7FFA) (nat_lt b 0x8000)
  where
    by : (t u v w : Bool) → (if t then other b else if u then of_list 0 code (b - 0x6800)
        else if v then of_list 0xFF (of_list [] rows ((b - first) / 64)) ((b - first) % 64)
        else if w then of_list 0 vectors (b - 0x7FFA) else other b) < 256
    by true u v w = small b
    by false true v w = item_small 0 code (b - 0x6800) (lit< tt) refl
    by false false true w = item_small 0xFF (of_list [] rows ((b - first) / 64)) ((b - first) % 64) (lit< tt)
        (row_small rows ((b - first) / 64) fine)
    by false false false true = item_small 0 vectors (b - 0x7FFA) (lit< tt) few
    by false false false false = small b

powered : (R : List ℕ) (rom : (ℕ → ℕ) → ℕ → ℕ) → IsRom R
    → ((other : ℕ → ℕ) → ((b : ℕ) → other b < 256) → (b : ℕ) → rom other b < 256) → PoweredOn R rom
powered R rom is_rom rom_in other image held work calm small is_image same held_in work_in =
    powers work calm is_rom is_image same held_in work_in (rom_in other small)

rom_bytes : (R : List ℕ) → length R ≡ 2048 → all_small R ≡ true → IsRom R
rom_bytes R count all = record { count = inl count; bytes = are_bytes R all }

first_powered : PoweredOn first_content.shapes first_game.rom
unfolding first_content.shapes first_game.rom first_game.bytes first_game.vectors
first_powered = powered first_content.shapes first_game.rom (rom_bytes first_content.shapes refl refl)
    (rom_small first_game.bytes first_game.vectors refl refl)

bat_powered : PoweredOn bat_content.shapes bat_game.rom
unfolding bat_content.shapes bat_game.rom bat_game.bytes bat_game.vectors
bat_powered = powered bat_content.shapes bat_game.rom (rom_bytes bat_content.shapes refl refl)
    (rom_small bat_game.bytes bat_game.vectors refl refl)

asteroid_powered : PoweredOn asteroid_content.shapes asteroid_game.rom
unfolding asteroid_content.shapes asteroid_game.rom asteroid_game.bytes asteroid_game.vectors
asteroid_powered = powered asteroid_content.shapes asteroid_game.rom (rom_bytes asteroid_content.shapes refl refl)
    (rom_small asteroid_game.bytes asteroid_game.vectors refl refl)

rocks_powered : PoweredOn rocks_content.shapes rocks_game.rom
unfolding rocks_content.shapes rocks_game.rom rocks_game.bytes rocks_game.vectors
rocks_powered = powered rocks_content.shapes rocks_game.rom (rom_bytes rocks_content.shapes refl refl)
    (rom_small rocks_game.bytes rocks_game.vectors refl refl)

test_rom_powered : PoweredOn test_rom_content.shapes test_rom_game.rom
unfolding test_rom_content.shapes test_rom_game.rom test_rom_game.bytes test_rom_game.vectors
test_rom_powered = powered test_rom_content.shapes test_rom_game.rom (rom_bytes test_rom_content.shapes refl refl)
    (rom_small test_rom_game.bytes test_rom_game.vectors refl refl)

pub can_be_powered : CanBePowered
can_be_powered = (first_powered, bat_powered, asteroid_powered, rocks_powered, test_rom_powered)
