-- All clocks since power-up.
use Rattle.std.proofs.Common.{◌≡◌, ℕ, zero, suc, ◌<◌, Bool, true, false, not, List, [], ◌∷◌, Option, None, refl, ap, ◌∙◌, arith}
use Rattle.std.specs.Prelude.{All, nat_eq, if◌then◌else◌, is_some}
use Rattle.std.proofs.lemmas.List.Elements.{All-head, All-tail}
use Rattle.dvg_gen.specs.declared.stroke.Stroke.{Stroke}
use Rattle.dvg_gen.specs.Bytes.{Met}
use Rattle.dvg_gen.specs.Machine.{HasTaken}
use Rattle.dvg_gen.specs.Told.{Told}
use Rattle.dvg_gen.proofs.GeneratorAfterHistory.{stands_new}
use Rattle.dvg_cells_core.specs.Cells.{bit}
use Rattle.dvg_cells_core.specs.Core.{Core, Pins, zeros}
use Rattle.dvg_cells_core.proofs.Machines.{machine_of, kept}
use Rattle.dvg_cells_core.specs.Refines.{ArePins, after, drew, Hears, powers, clocks, Said, Agrees, CoreRefines}
use Rattle.dvg_cells_core.proofs.RegistersFit.{Fits, Stepped}
use Rattle.dvg_cells_core.proofs.Clocks.{step}

-- one clock of any core that fits
pub one : (core : Core) (pins : Pins) (drew : List Stroke) (history : List Told) (low : Option ℕ) → Fits core → ArePins pins
    → HasTaken (machine_of core drew) history low → Stepped pins core drew history low
one core pins drew history low fits are after =
    step core.at core.done core.fault core.stroke core.x0 core.y0 core.x core.y core.z core.first core.low core.depth core.s0 core.s1
    core.s2 core.s3 core.scale pins.din drew fits.x fits.y fits.scale fits.low are.din core.second fits.second fits.first fits.depth
    history low core.is_open core.high pins.reset pins.start pins.valid pins.hole fits.opened fits.high are.reset are.start are.valid
    are.hole after

pub record Stands (list : List Pins) : Type 0 where
  pub history : List Told
  pub low : Option ℕ
  pub found : Option Met
  pub hears : Hears list history low found
  pub stands : HasTaken (machine_of (after list) (drew list)) history low
  pub fits : Fits (after list)
  pub said : Said found (after list) (drew list) stands.run

-- one clock more
abbrev pub stand_next : (pins : Pins) (list : List Pins) → ArePins pins → Stands list → Stands (pins ∷ list)
stand_next pins list are was =
    let did = one (after list) pins (drew list) was.history was.low was.fits are was.stands in
    record {
      history = did.history';
      low = did.low';
      found = did.found;
      hears = clocks was.hears did.tells;
      stands = did.stands;
      fits = did.fits;
      said = did.said;
    }

pub stand : (list : List Pins) → All ArePins list → Stands list
stand [] all = record {
  history = [];
  low = None;
  found = None;
  hears = powers;
  stands = stands_new (machine_of zeros []) refl refl refl;
  fits = omega arith;
  said = (refl, refl, refl);
}
stand (pins ∷ list) all = stand_next pins list (All-head ArePins pins list all) (stand list (All-tail ArePins pins list all))

pub halted_is : (b : Bool) → (if b then 1 else 0) ≡ bit (not (not b))
halted_is true = refl
halted_is false = refl

pub high_is : (high low : ℕ) → high < 2 → high ≡ bit (is_some (kept high low))
high_is zero low small = refl
high_is (suc zero) low small = refl
high_is (suc (suc n)) low small = absurd (omega arith)

abbrev pub agrees_of : (list : List Pins) → Stands list → Agrees list
agrees_of list is =
    let core = after list in
    record {
      history = is.history;
      low = is.low;
      found = is.found;
      hears = is.hears;
      run = is.stands.run;
      leaves = is.stands.leaves;
      halted = halted_is (nat_eq core.is_open 0) ∙ ap (λ b. bit (not b)) is.stands.stands.is_open;
      beam = is.stands.stands.beam;
      at = λ opened. (is.stands.stands.running opened).at;
      high = λ opened. high_is core.high core.low is.fits.high ∙ ap (λ (l : Option ℕ). bit (is_some l)) is.stands.low;
      lines = λ opened. (is.stands.stands.running opened).strokes;
      said = is.said;
    }

pub refines : CoreRefines
refines list all = agrees_of list (stand list all)
