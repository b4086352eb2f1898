-- The cells of core/dvg_pace.v as yosys reads them: made by core/cells dvg_pace.
use Rattle.std.specs.Prelude.{ℕ}
use Rattle.dvg_cells_core.specs.Cells.{both, mux, none, sub, part, joined}

-- Yosys 0.23, digest 0521bb9a3ae27d97

-- the registers
pub record Pace : Type 0 where
  -- 1 bit
  pub ready : ℕ
  -- 1 bit
  pub placing : ℕ
  -- 2 bits
  pub left : ℕ

-- the pins that are driven from outside
pub record Pins : Type 0 where
  -- 1 bit
  pub tick : ℕ
  -- 1 bit
  pub start : ℕ
  -- 1 bit
  pub takes : ℕ
  -- 1 bit
  pub ends : ℕ
  -- 1 bit
  pub jsrl : ℕ
  -- 1 bit
  pub labs : ℕ
  -- 1 bit
  pub going : ℕ

-- at power-up
abbrev pub zeros : Pace
zeros =
    record {
      ready = 0;
      placing = 0;
      left = 0;
    }

-- the pin `steps`
abbrev pub steps : Pace → Pins → ℕ
steps pace pins =
    let rests : ℕ = none pace.left in
    both pins.tick rests

-- the pin `hold`
abbrev pub hold : Pace → ℕ
hold pace =
    none pace.ready

-- the pin `places`
abbrev pub places : Pace → Pins → ℕ
places pace pins =
    both pins.tick pace.placing

-- the pin `rests`
abbrev pub rests : Pace → ℕ
rests pace =
    none pace.left

-- the registers after a clock
abbrev pub clock : Pace → Pins → Pace
clock pace pins =
    let rests : ℕ = none pace.left in
    let n2 : ℕ = none pins.going in
    let n1 : ℕ = both rests n2 in
    let n7 : ℕ = mux pins.tick 0 pace.placing in
    let n8 : ℕ = mux pins.labs 1 n7 in
    let n9 : ℕ = mux pins.tick n1 pace.ready in
    let n10 : ℕ = mux pins.takes 0 n9 in
    let n11 : ℕ = mux pins.start 0 n10 in
    let n12 : ℕ = sub 2 pace.left 1 in
    let n3 : ℕ = mux rests pace.left n12 in
    let n4 : ℕ = mux pins.tick n3 pace.left in
    let n13 : ℕ = mux pins.ends 1 0 in
    let n14 : ℕ = mux pins.jsrl 2 n13 in
    let n5 : ℕ = mux pins.takes n14 n4 in
    let n6 : ℕ = mux pins.start 1 n5 in
    record {
      ready = n11;
      placing = n8;
      left = n6;
    }
