-- What is accepted, told one by one.
use Rattle.std.proofs.Common.{◌≡◌, ℕ, zero, suc, ◌+◌, ◌-◌, ◌<◌, ◌≤◌, ◌&&◌, Bool, true, false, refl, sym, ◌∙◌, ap, subst, arith}
use Rattle.std.specs.Prelude.{Option, None, Some, List, if◌then◌else◌}
use Rattle.dvg_game_words.specs.Code.{code}
use Rattle.dvg_game_words.specs.Checker.{Notes, accepts, accepts_game, all_under, boot_most, boots, fine_at, first, interrupts, is_code, noted, places}
use Rattle.dvg_game_words.specs.Checker.{stand_at, starts}
use Rattle.dvg_game_words.specs.Machine.{nmi_vector, reset_vector, word_at}
use Rattle.dvg_game_check.specs.declared.note.Note.{Note}
use Rattle.dvg_game_check.specs.Least.{AreUnder, IsGame, IsLeast}
use Rattle.dvg_game_check.specs.Program.{BootsTo, HasNone, way}
use Rattle.dvg_game_check.specs.Rules.{HasBytes, notes_in}
use Rattle.dvg_game_check.proofs.Loops.{under}
use Rattle.dvg_game_check.proofs.States.{from_first}
use Rattle.dvg_game_check.proofs.Suited.{both}
use Rattle.dvg_game_check.proofs.Way.{way_once}

pub game_of : (rom : ℕ → ℕ) (start : ℕ) (notes : Notes) → accepts rom start notes ≡ true → IsGame rom start notes
game_of rom start notes h =
    let all = all_under places (λ i. fine_at notes rom (first + i) (noted notes (first + i))) in
    let nmi = interrupts (noted notes (word_at rom nmi_vector)) in
    let one = both (accepts_game rom start notes) (stand_at code rom 0x6800 && boots boot_most rom (word_at rom reset_vector) start) h in
    let two = both (starts (noted notes start)) (nmi && all) one.0 in
    let three = both nmi all two.1 in
    record { begins = two.0; nmi = three.0; fine = λ at. each at three.1 (is_code at) refl }
  where
    each : (at : ℕ) → all_under places (λ i. fine_at notes rom (first + i) (noted notes (first + i))) ≡ true
        → (b : Bool) → is_code at ≡ b → fine_at notes rom at (noted notes at) ≡ true
    each at all false e = ap (λ b. fine_at notes rom at (if b then notes at else None)) e
    each at all true e =
        let range = from_first at e in
        let n : first + (at - first) ≡ at = omega (arith, range.0) in
        let less : at - first < places = omega (arith, range.0, range.1) in
        sym (ap (λ a. fine_at notes rom a (noted notes a)) n)
        ∙ under places (λ i. fine_at notes rom (first + i) (noted notes (first + i))) all (at - first) less

pub boots_of : (rom : ℕ → ℕ) (start : ℕ) (notes : Notes) → accepts rom start notes ≡ true
    → way boot_most rom (word_at rom reset_vector) start ≡ true
unfolding way
boots_of rom start notes h =
    let boot = boots boot_most rom (word_at rom reset_vector) start in
    let one = both (accepts_game rom start notes) (stand_at code rom 0x6800 && boot) h in
    (both (stand_at code rom 0x6800) boot one.1).1

-- where what is found of all that is accepted can't be, nothing is
pub has_none : (bytes : List ℕ) (made : List (Option Note)) (start : ℕ) → IsLeast bytes made start → BootsTo bytes start
    → ((rom : ℕ → ℕ) (notes : Notes) → HasBytes bytes rom → IsGame rom start notes → AreUnder (notes_in made) notes → ⊥)
    → HasNone bytes
has_none bytes made start least boots forced rom other notes has = by (accepts rom other notes) refl
  where
    by : (b : Bool) → accepts rom other notes ≡ b → accepts rom other notes ≡ false
    by false e = e
    by true e =
        let same = way_once boot_most rom (word_at rom reset_vector) start other (boots rom has) (boots_of rom other notes e) in
        let f : accepts rom start notes ≡ true = ap (λ s. accepts rom s notes) same ∙ e in
        absurd (forced rom notes has (game_of rom start notes f) (least rom notes has f))
