-- What is put is the script's next writes.
use Rattle.std.proofs.Common.{◌≡◌, suc, ◌+◌, ◌-◌, [], ◌∷◌, ◌++◌, length, ap, ◌∙◌}
use Rattle.std.proofs.Common.{arith, Some}
use Rattle.std.specs.Prelude.{option_and_then}
use Rattle.dvg_frame.specs.Bytes.{addressed}
use Rattle.dvg_driver.specs.declared.action.Action.TheVariants.{Wrote}
use Rattle.dvg_driver.specs.Script.{Did, word_zero}
use Rattle.dvg_driver.specs.Place.{Writing, place_of_life, next_place}
use Rattle.dvg_driver.proofs.Places.{with_left-append, write_fits}
use Rattle.dvg_calls_6502.specs.Processor.{Writes}
use Rattle.dvg_calls_6502.specs.Build.{put_items, written, BuildsScript}
use Rattle.dvg_calls_6502.proofs.LifeByAccesses.{append_items, shown_both}

pub builds_script : BuildsScript
builds_script a [] rest half first life low place =
    let e : a - 0x4000 ≡ a + 0 - 0x4000 = omega arith in
    (tt, place ∙ ap (λ p. Some (Writing (addressed p rest ++ word_zero half first))) e)
builds_script a (byte ∷ bytes) rest half first life low place =
    let item = Did (Wrote (a - 0x4000) byte) in
    let s : suc (a - 0x4000) ≡ suc a - 0x4000 = omega (arith, low) in
    let one : place_of_life (item ∷ life)
    ≡ Some (Writing (addressed (suc a - 0x4000) (bytes ++ rest) ++ word_zero half first)) =
    ap (option_and_then (λ p. next_place p item)) place
    ∙ write_fits (a - 0x4000) byte (addressed (suc (a - 0x4000)) (bytes ++ rest) ++ word_zero half first)
    ∙ ap Some (with_left-append (addressed (suc (a - 0x4000)) (bytes ++ rest)) half first)
    ∙ ap (λ p. Some (Writing (addressed p (bytes ++ rest) ++ word_zero half first))) s in
    let more = builds_script (suc a) bytes rest half first (item ∷ life) (omega (arith, low)) one in
    let here : a ≡ 0x4000 + (a - 0x4000) = omega (arith, low) in
    let end : suc a + length bytes - 0x4000 ≡ a + suc (length bytes) - 0x4000 = omega arith in (
      shown_both (put_items (suc a) bytes) (item ∷ []) (written (suc a) bytes) (Writes a byte ∷ []) more.0
          (ap (λ p. Writes p byte ∷ []) here, tt),
      ap place_of_life (append_items (put_items (suc a) bytes) (item ∷ []) life) ∙ more.1
          ∙ ap (λ p. Some (Writing (addressed p rest ++ word_zero half first))) end,
    )
