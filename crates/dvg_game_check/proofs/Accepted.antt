-- The parts of what accepts a program.
use Rattle.std.proofs.Common.{◌≡◌, ℕ, ◌+◌, ◌&&◌, ◌⊎◌, inl, inr, Bool, true, false, refl, sym, ◌∙◌, ap, if◌then◌else◌, List}
use Rattle.std.proofs.lemmas.Bool.{eqb-false}
use Rattle.std.specs.Prelude.{Option}
use Rattle.dvg_game_words.specs.Code.{code}
use Rattle.dvg_game_words.specs.Checker.{Notes, accepts, accepts_game, all_under, boot_most, boots, fine_at, first, interrupts, noted, places}
use Rattle.dvg_game_words.specs.Checker.{stand_at, starts}
use Rattle.dvg_game_words.specs.Machine.{nmi_vector, reset_vector, word_at}
use Rattle.dvg_game_check.specs.declared.program.TheConstants.{DRIVER}
use Rattle.dvg_game_check.specs.Program.{has_driver, way, BootsTo}
use Rattle.dvg_game_check.specs.Rules.{HasBytes}
use Rattle.dvg_game_check.proofs.Way.{way_once}

all_five : (a b c d e : Bool) → a ≡ true → b ≡ true → c ≡ true → d ≡ true → e ≡ true → ((a && (b && c)) && (d && e)) ≡ true
all_five a b c d e f g h i j = rw (f, g, h, i, j)

no_first : (a b c x : Bool) → a ≡ false → ((a && (b && c)) && x) ≡ false
no_first a b c x h = rw h

no_second : (a b c x : Bool) → b ≡ false → ((a && (b && c)) && x) ≡ false
no_second true b c x h = rw h
no_second false b c x h = refl

no_third : (a b c x : Bool) → c ≡ false → ((a && (b && c)) && x) ≡ false
no_third true true c x h = rw h
no_third true false c x h = refl
no_third false b c x h = refl

no_fourth : (x d e : Bool) → d ≡ false → (x && (d && e)) ≡ false
no_fourth true d e h = rw h
no_fourth false d e h = refl

no_fifth : (x d e : Bool) → e ≡ false → (x && (d && e)) ≡ false
no_fifth true true e h = h
no_fifth true false e h = refl
no_fifth false d e h = refl

module _ (rom : ℕ → ℕ) (start : ℕ) (notes : Notes) where
  abbrev pub all_fine : Bool
  all_fine = all_under places (λ i. fine_at notes rom (first + i) (noted notes (first + i)))

  pub accepted : starts (noted notes start) ≡ true → interrupts (noted notes (word_at rom nmi_vector)) ≡ true
      → all_fine ≡ true → has_driver rom ≡ true → way boot_most rom (word_at rom reset_vector) start ≡ true
      → accepts rom start notes ≡ true
  unfolding has_driver way
  accepted s i a d w =
      all_five (starts (noted notes start)) (interrupts (noted notes (word_at rom nmi_vector))) all_fine
      (stand_at code rom 0x6800) (boots boot_most rom (word_at rom reset_vector) start) s i a d w

  pub no_start : starts (noted notes start) ≡ false → accepts rom start notes ≡ false
  no_start h =
      no_first (starts (noted notes start)) (interrupts (noted notes (word_at rom nmi_vector))) all_fine
      (stand_at code rom 0x6800 && boots boot_most rom (word_at rom reset_vector) start) h

  pub no_nmi : interrupts (noted notes (word_at rom nmi_vector)) ≡ false → accepts rom start notes ≡ false
  no_nmi h =
      no_second (starts (noted notes start)) (interrupts (noted notes (word_at rom nmi_vector))) all_fine
      (stand_at code rom 0x6800 && boots boot_most rom (word_at rom reset_vector) start) h

  pub not_fine : all_fine ≡ false → accepts rom start notes ≡ false
  not_fine h =
      no_third (starts (noted notes start)) (interrupts (noted notes (word_at rom nmi_vector))) all_fine
      (stand_at code rom 0x6800 && boots boot_most rom (word_at rom reset_vector) start) h

  pub no_driver : has_driver rom ≡ false → accepts rom start notes ≡ false
  unfolding has_driver
  no_driver h =
      no_fourth (accepts_game rom start notes) (stand_at code rom 0x6800)
      (boots boot_most rom (word_at rom reset_vector) start) h

  pub no_way : way boot_most rom (word_at rom reset_vector) start ≡ false → accepts rom start notes ≡ false
  unfolding way
  no_way h =
      no_fifth (accepts_game rom start notes) (stand_at code rom 0x6800)
      (boots boot_most rom (word_at rom reset_vector) start) h

-- where a reset leads to one start, it leads to no other one
pub no_other : (rom : ℕ → ℕ) (start other : ℕ) (notes : Notes)
    → way boot_most rom (word_at rom reset_vector) start ≡ true → starts (noted notes start) ≡ false
    → accepts rom other notes ≡ false
no_other rom start other notes w s = by (way boot_most rom (word_at rom reset_vector) other) refl
  where
    by : (b : Bool) → way boot_most rom (word_at rom reset_vector) other ≡ b → accepts rom other notes ≡ false
    by true e =
        no_start rom other notes (ap (λ n. starts (noted notes n))
        (way_once boot_most rom (word_at rom reset_vector) other start e w) ∙ s)
    by false e = no_way rom other notes e

pub driver_is : (rom : ℕ → ℕ) → stand_at DRIVER.now rom 0x6800 ≡ has_driver rom
unfolding has_driver
driver_is rom = ap (λ bytes. stand_at bytes rom 0x6800) same
  where
    same : DRIVER.now ≡ code
    same = refl
