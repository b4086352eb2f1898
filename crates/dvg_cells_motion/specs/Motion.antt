-- The cells of core/dvg_motion.v as yosys reads them: made by core/cells dvg_motion.
use Rattle.std.specs.Prelude.{ℕ}
use Rattle.dvg_cells_core.specs.Cells.{add, both, mux, ne, none, shl, some, sub, part, joined}

-- Yosys 0.23, digest 8aecf6a88d5ec16a

-- the registers
pub record Motion : Type 0 where
  -- 12 bits
  pub x : ℕ
  -- 12 bits
  pub y : ℕ
  -- 11 bits
  pub count : ℕ
  -- 11 bits
  pub last : ℕ
  -- 10 bits
  pub rate_x : ℕ
  -- 10 bits
  pub rate_y : ℕ
  -- 1 bit
  pub back_x : ℕ
  -- 1 bit
  pub back_y : ℕ
  -- 4 bits
  pub bright : ℕ

-- the pins that are driven from outside
pub record Pins : Type 0 where
  -- 1 bit
  pub tick : ℕ
  -- 1 bit
  pub places : ℕ
  -- 12 bits
  pub to_x : ℕ
  -- 12 bits
  pub to_y : ℕ
  -- 1 bit
  pub vec : ℕ
  -- 4 bits
  pub sum : ℕ
  -- 1 bit
  pub dx_sign : ℕ
  -- 1 bit
  pub dy_sign : ℕ
  -- 10 bits
  pub dx : ℕ
  -- 10 bits
  pub dy : ℕ
  -- 4 bits
  pub z : ℕ

-- at power-up
abbrev pub zeros : Motion
zeros =
    record {
      x = 0;
      y = 0;
      count = 0;
      last = 0;
      rate_x = 0;
      rate_y = 0;
      back_x = 0;
      back_y = 0;
      bright = 0;
    }

-- the pin `going`
abbrev pub going : Motion → ℕ
going motion =
    ne motion.count motion.last

-- the pin `dac_x`
abbrev pub dac_x : Motion → ℕ
dac_x motion =
    (part 0 10 motion.x)

-- the pin `dac_y`
abbrev pub dac_y : Motion → ℕ
dac_y motion =
    (part 0 10 motion.y)

-- the pin `lit`
abbrev pub lit : Motion → ℕ
lit motion =
    let n6 : ℕ = none (part 10 1 motion.x) in
    let n7 : ℕ = none (part 10 1 motion.y) in
    let going : ℕ = ne motion.count motion.last in
    let n8 : ℕ = some motion.bright in
    let n4 : ℕ = both going n8 in
    let n5 : ℕ = both n4 n6 in
    both n5 n7

-- the pin `shown_z`
abbrev pub shown_z : Motion → ℕ
shown_z motion =
    let n6 : ℕ = none (part 10 1 motion.x) in
    let n7 : ℕ = none (part 10 1 motion.y) in
    let going : ℕ = ne motion.count motion.last in
    let n8 : ℕ = some motion.bright in
    let n4 : ℕ = both going n8 in
    let n5 : ℕ = both n4 n6 in
    let lit : ℕ = both n5 n7 in
    mux lit motion.bright 0

-- the registers after a clock
abbrev pub clock : Motion → Pins → Motion
clock motion pins =
    let n1 : ℕ = add 11 motion.count 1 in
    let n2 : ℕ = add 12 motion.x 1 in
    let n3 : ℕ = add 12 motion.y 1 in
    let going : ℕ = ne motion.count motion.last in
    let steps : ℕ = both going pins.tick in
    let n18 : ℕ = mux pins.vec pins.z motion.bright in
    let n19 : ℕ = mux pins.places motion.bright n18 in
    let n20 : ℕ = mux pins.vec pins.dy_sign motion.back_y in
    let n21 : ℕ = mux pins.places motion.back_y n20 in
    let n22 : ℕ = mux pins.vec pins.dx_sign motion.back_x in
    let n23 : ℕ = mux pins.places motion.back_x n22 in
    let n24 : ℕ = mux pins.vec pins.dy motion.rate_y in
    let n25 : ℕ = mux pins.places motion.rate_y n24 in
    let n26 : ℕ = mux pins.vec pins.dx motion.rate_x in
    let n27 : ℕ = mux pins.places motion.rate_x n26 in
    let n30 : ℕ = mux steps n1 motion.count in
    let n31 : ℕ = mux pins.vec 0 n30 in
    let n9 : ℕ = mux pins.places motion.count n31 in
    let n32 : ℕ = shl 11 2 pins.sum in
    let n28 : ℕ = mux pins.vec n32 motion.last in
    let n29 : ℕ = mux pins.places motion.last n28 in
    let n33 : ℕ = sub 12 motion.x 1 in
    let n34 : ℕ = sub 12 motion.y 1 in
    let n43 : ℕ = mux (part 9 1 motion.count) 0 (part 0 1 motion.rate_x) in
    let n40 : ℕ = mux (part 8 1 motion.count) n43 (part 1 1 motion.rate_x) in
    let n41 : ℕ = mux (part 7 1 motion.count) n40 (part 2 1 motion.rate_x) in
    let n42 : ℕ = mux (part 6 1 motion.count) n41 (part 3 1 motion.rate_x) in
    let n37 : ℕ = mux (part 5 1 motion.count) n42 (part 4 1 motion.rate_x) in
    let n38 : ℕ = mux (part 4 1 motion.count) n37 (part 5 1 motion.rate_x) in
    let n39 : ℕ = mux (part 3 1 motion.count) n38 (part 6 1 motion.rate_x) in
    let n35 : ℕ = mux (part 2 1 motion.count) n39 (part 7 1 motion.rate_x) in
    let n36 : ℕ = mux (part 1 1 motion.count) n35 (part 8 1 motion.rate_x) in
    let bit_x : ℕ = mux (part 0 1 motion.count) n36 (part 9 1 motion.rate_x) in
    let n52 : ℕ = mux (part 9 1 motion.count) 0 (part 0 1 motion.rate_y) in
    let n49 : ℕ = mux (part 8 1 motion.count) n52 (part 1 1 motion.rate_y) in
    let n50 : ℕ = mux (part 7 1 motion.count) n49 (part 2 1 motion.rate_y) in
    let n51 : ℕ = mux (part 6 1 motion.count) n50 (part 3 1 motion.rate_y) in
    let n46 : ℕ = mux (part 5 1 motion.count) n51 (part 4 1 motion.rate_y) in
    let n47 : ℕ = mux (part 4 1 motion.count) n46 (part 5 1 motion.rate_y) in
    let n48 : ℕ = mux (part 3 1 motion.count) n47 (part 6 1 motion.rate_y) in
    let n44 : ℕ = mux (part 2 1 motion.count) n48 (part 7 1 motion.rate_y) in
    let n45 : ℕ = mux (part 1 1 motion.count) n44 (part 8 1 motion.rate_y) in
    let bit_y : ℕ = mux (part 0 1 motion.count) n45 (part 9 1 motion.rate_y) in
    let n53 : ℕ = mux motion.back_x n33 n2 in
    let n14 : ℕ = mux bit_x n53 motion.x in
    let n15 : ℕ = mux steps n14 motion.x in
    let n16 : ℕ = mux pins.vec motion.x n15 in
    let n17 : ℕ = mux pins.places pins.to_x n16 in
    let n54 : ℕ = mux motion.back_y n34 n3 in
    let n10 : ℕ = mux bit_y n54 motion.y in
    let n11 : ℕ = mux steps n10 motion.y in
    let n12 : ℕ = mux pins.vec motion.y n11 in
    let n13 : ℕ = mux pins.places pins.to_y n12 in
    record {
      x = n17;
      y = n13;
      count = n9;
      last = n29;
      rate_x = n27;
      rate_y = n25;
      back_x = n23;
      back_y = n21;
      bright = n19;
    }
