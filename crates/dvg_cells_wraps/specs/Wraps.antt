-- The cells of core/dvg_core.v with DVG_WRAPS as yosys reads them: made by core/cells dvg_wraps.
use Rattle.std.specs.Prelude.{ℕ}
use Rattle.dvg_cells_core.specs.Cells.{add, both, either, eq, lt, mux, none, shl, some, sub, part, joined}
use Rattle.dvg_cells_core.specs.Core.{Pins}

-- Yosys 0.23, digest fd82676271f91204

-- the registers
pub record Wraps : Type 0 where
  -- 12 bits
  pub at : ℕ
  -- 1 bit
  pub high : ℕ
  -- 1 bit
  pub done : ℕ
  -- 2 bits
  pub fault : ℕ
  -- 1 bit
  pub stroke : ℕ
  -- 21 bits
  pub x0 : ℕ
  -- 21 bits
  pub y0 : ℕ
  -- 21 bits
  pub x : ℕ
  -- 21 bits
  pub y : ℕ
  -- 4 bits
  pub z : ℕ
  -- 1 bit
  pub is_open : ℕ
  -- 1 bit
  pub second : ℕ
  -- 16 bits
  pub first : ℕ
  -- 8 bits
  pub low : ℕ
  -- 12 bits
  pub s0 : ℕ
  -- 12 bits
  pub s1 : ℕ
  -- 12 bits
  pub s2 : ℕ
  -- 12 bits
  pub s3 : ℕ
  -- 4 bits
  pub scale : ℕ

-- at power-up
abbrev pub zeros : Wraps
zeros =
    record {
      at = 0;
      high = 0;
      done = 0;
      fault = 0;
      stroke = 0;
      x0 = 0;
      y0 = 0;
      x = 0;
      y = 0;
      z = 0;
      is_open = 0;
      second = 0;
      first = 0;
      low = 0;
      s0 = 0;
      s1 = 0;
      s2 = 0;
      s3 = 0;
      scale = 0;
    }

-- the pin `halted`
abbrev pub halted : Wraps → ℕ
halted wraps =
    none wraps.is_open

-- the pin `ends`
abbrev pub ends : Wraps → Pins → ℕ
ends wraps pins =
    let n9 : ℕ = both wraps.is_open pins.valid in
    let n14 : ℕ = none pins.hole in
    let takes : ℕ = both n9 n14 in
    let whole : ℕ = both takes wraps.high in
    let n15 : ℕ = none pins.reset in
    let n10 : ℕ = both whole n15 in
    let n16 : ℕ = none pins.start in
    let obeys : ℕ = both n10 n16 in
    let n20 : ℕ = none wraps.second in
    let op : ℕ = mux wraps.second (part 12 4 wraps.first) (part 4 4 pins.din) in
    let n31 : ℕ = lt op 11 in
    let is_first : ℕ = both n20 n31 in
    let n17 : ℕ = none is_first in
    both obeys n17

-- the pin `jsrl`
abbrev pub jsrl : Wraps → Pins → ℕ
jsrl wraps pins =
    let n9 : ℕ = both wraps.is_open pins.valid in
    let n14 : ℕ = none pins.hole in
    let takes : ℕ = both n9 n14 in
    let whole : ℕ = both takes wraps.high in
    let n15 : ℕ = none pins.reset in
    let n10 : ℕ = both whole n15 in
    let n16 : ℕ = none pins.start in
    let obeys : ℕ = both n10 n16 in
    let n22 : ℕ = none wraps.second in
    let op : ℕ = mux wraps.second (part 12 4 wraps.first) (part 4 4 pins.din) in
    let n5 : ℕ = eq op 12 in
    let is_jsrl : ℕ = both n22 n5 in
    both obeys is_jsrl

-- the pin `labs`
abbrev pub labs : Wraps → Pins → ℕ
labs wraps pins =
    let n9 : ℕ = both wraps.is_open pins.valid in
    let n14 : ℕ = none pins.hole in
    let takes : ℕ = both n9 n14 in
    let whole : ℕ = both takes wraps.high in
    let n15 : ℕ = none pins.reset in
    let n10 : ℕ = both whole n15 in
    let n16 : ℕ = none pins.start in
    let obeys : ℕ = both n10 n16 in
    let op : ℕ = mux wraps.second (part 12 4 wraps.first) (part 4 4 pins.din) in
    let n30 : ℕ = lt op 10 in
    let n19 : ℕ = none n30 in
    let is_labs : ℕ = both wraps.second n19 in
    both obeys is_labs

-- the pin `vec`
abbrev pub vec : Wraps → Pins → ℕ
vec wraps pins =
    let n9 : ℕ = both wraps.is_open pins.valid in
    let n14 : ℕ = none pins.hole in
    let takes : ℕ = both n9 n14 in
    let whole : ℕ = both takes wraps.high in
    let n15 : ℕ = none pins.reset in
    let n10 : ℕ = both whole n15 in
    let n16 : ℕ = none pins.start in
    let obeys : ℕ = both n10 n16 in
    let n25 : ℕ = none wraps.second in
    let op : ℕ = mux wraps.second (part 12 4 wraps.first) (part 4 4 pins.din) in
    let n8 : ℕ = eq op 15 in
    let is_svec : ℕ = both n25 n8 in
    let n29 : ℕ = lt op 10 in
    let is_vctr : ℕ = both wraps.second n29 in
    let is_vec : ℕ = either is_vctr is_svec in
    both obeys is_vec

-- the pin `sum`
abbrev pub sum : Wraps → Pins → ℕ
sum wraps pins =
    let n3 : ℕ = add 4 (joined 1 (part 3 1 pins.din) (part 3 1 wraps.low)) 2 in
    let op : ℕ = mux wraps.second (part 12 4 wraps.first) (part 4 4 pins.din) in
    let n29 : ℕ = lt op 10 in
    let is_vctr : ℕ = both wraps.second n29 in
    let local_scale : ℕ = mux is_vctr op n3 in
    add 4 wraps.scale local_scale

-- the pin `dx_sign`
abbrev pub dx_sign : Wraps → Pins → ℕ
dx_sign wraps pins =
    let op : ℕ = mux wraps.second (part 12 4 wraps.first) (part 4 4 pins.din) in
    let n29 : ℕ = lt op 10 in
    let is_vctr : ℕ = both wraps.second n29 in
    mux is_vctr (part 2 1 pins.din) (part 2 1 wraps.low)

-- the pin `dy_sign`
abbrev pub dy_sign : Wraps → Pins → ℕ
dy_sign wraps pins =
    let op : ℕ = mux wraps.second (part 12 4 wraps.first) (part 4 4 pins.din) in
    let n29 : ℕ = lt op 10 in
    let is_vctr : ℕ = both wraps.second n29 in
    mux is_vctr (part 10 1 wraps.first) (part 2 1 pins.din)

-- the pin `dx`
abbrev pub dx : Wraps → Pins → ℕ
dx wraps pins =
    let op : ℕ = mux wraps.second (part 12 4 wraps.first) (part 4 4 pins.din) in
    let n29 : ℕ = lt op 10 in
    let is_vctr : ℕ = both wraps.second n29 in
    mux is_vctr (joined 8 wraps.low (part 0 2 pins.din)) (joined 8 0 (part 0 2 wraps.low))

-- the pin `dy`
abbrev pub dy : Wraps → Pins → ℕ
dy wraps pins =
    let op : ℕ = mux wraps.second (part 12 4 wraps.first) (part 4 4 pins.din) in
    let n29 : ℕ = lt op 10 in
    let is_vctr : ℕ = both wraps.second n29 in
    mux is_vctr (part 0 10 wraps.first) (joined 8 0 (part 0 2 pins.din))

-- the pin `vec_z`
abbrev pub vec_z : Wraps → Pins → ℕ
vec_z wraps pins =
    let op : ℕ = mux wraps.second (part 12 4 wraps.first) (part 4 4 pins.din) in
    let n29 : ℕ = lt op 10 in
    let is_vctr : ℕ = both wraps.second n29 in
    mux is_vctr (part 4 4 pins.din) (part 4 4 wraps.low)

-- the registers after a clock
abbrev pub clock : Wraps → Pins → Wraps
clock wraps pins =
    let after : ℕ = add 12 wraps.at 1 in
    let n3 : ℕ = add 4 (joined 1 (part 3 1 pins.din) (part 3 1 wraps.low)) 2 in
    let n9 : ℕ = both wraps.is_open pins.valid in
    let n11 : ℕ = both wraps.is_open pins.valid in
    let n12 : ℕ = both n11 pins.hole in
    let n14 : ℕ = none pins.hole in
    let takes : ℕ = both n9 n14 in
    let whole : ℕ = both takes wraps.high in
    let n18 : ℕ = none wraps.high in
    let n13 : ℕ = both takes n18 in
    let n20 : ℕ = none wraps.second in
    let n21 : ℕ = none wraps.second in
    let n22 : ℕ = none wraps.second in
    let n23 : ℕ = none wraps.second in
    let n24 : ℕ = none wraps.second in
    let n25 : ℕ = none wraps.second in
    let n34 : ℕ = mux n12 3 0 in
    let n35 : ℕ = mux pins.start 0 n34 in
    let n36 : ℕ = mux pins.reset 0 n35 in
    let n76 : ℕ = mux n13 pins.din wraps.low in
    let n77 : ℕ = mux n12 wraps.low n76 in
    let n78 : ℕ = mux pins.start wraps.low n77 in
    let n79 : ℕ = mux pins.reset wraps.low n78 in
    let n129 : ℕ = mux whole 0 wraps.high in
    let n130 : ℕ = mux n13 1 n129 in
    let n131 : ℕ = mux n12 0 n130 in
    let n132 : ℕ = mux pins.start 0 n131 in
    let n133 : ℕ = mux pins.reset 0 n132 in
    let op : ℕ = mux wraps.second (part 12 4 wraps.first) (part 4 4 pins.din) in
    let n4 : ℕ = eq op 11 in
    let n5 : ℕ = eq op 12 in
    let n6 : ℕ = eq op 13 in
    let n7 : ℕ = eq op 14 in
    let n8 : ℕ = eq op 15 in
    let is_halt : ℕ = both n21 n4 in
    let is_jsrl : ℕ = both n22 n5 in
    let is_rtsl : ℕ = both n23 n6 in
    let is_jmpl : ℕ = both n24 n7 in
    let is_svec : ℕ = both n25 n8 in
    let goes_on : ℕ = none is_halt in
    let n26 : ℕ = either is_jsrl is_jmpl in
    let n29 : ℕ = lt op 10 in
    let is_vctr : ℕ = both wraps.second n29 in
    let is_vec : ℕ = either is_vctr is_svec in
    let n30 : ℕ = lt op 10 in
    let n19 : ℕ = none n30 in
    let is_labs : ℕ = both wraps.second n19 in
    let n31 : ℕ = lt op 11 in
    let is_first : ℕ = both n20 n31 in
    let n37 : ℕ = mux whole is_halt 0 in
    let n38 : ℕ = mux n13 0 n37 in
    let n39 : ℕ = mux n12 0 n38 in
    let n40 : ℕ = mux pins.start 0 n39 in
    let n41 : ℕ = mux pins.reset 0 n40 in
    let n42 : ℕ = mux is_labs (part 4 4 pins.din) wraps.scale in
    let n43 : ℕ = mux whole n42 wraps.scale in
    let n44 : ℕ = mux n13 wraps.scale n43 in
    let n45 : ℕ = mux n12 wraps.scale n44 in
    let n46 : ℕ = mux pins.start wraps.scale n45 in
    let n47 : ℕ = mux pins.reset wraps.scale n46 in
    let n48 : ℕ = mux is_jsrl wraps.s2 wraps.s3 in
    let n49 : ℕ = mux is_rtsl wraps.s0 n48 in
    let n50 : ℕ = mux whole n49 wraps.s3 in
    let n51 : ℕ = mux n13 wraps.s3 n50 in
    let n52 : ℕ = mux n12 wraps.s3 n51 in
    let n53 : ℕ = mux pins.start wraps.s3 n52 in
    let n54 : ℕ = mux pins.reset wraps.s3 n53 in
    let n55 : ℕ = mux is_jsrl wraps.s1 wraps.s2 in
    let n56 : ℕ = mux is_rtsl wraps.s3 n55 in
    let n57 : ℕ = mux whole n56 wraps.s2 in
    let n58 : ℕ = mux n13 wraps.s2 n57 in
    let n59 : ℕ = mux n12 wraps.s2 n58 in
    let n60 : ℕ = mux pins.start wraps.s2 n59 in
    let n61 : ℕ = mux pins.reset wraps.s2 n60 in
    let n62 : ℕ = mux is_jsrl wraps.s0 wraps.s1 in
    let n63 : ℕ = mux is_rtsl wraps.s2 n62 in
    let n64 : ℕ = mux whole n63 wraps.s1 in
    let n65 : ℕ = mux n13 wraps.s1 n64 in
    let n66 : ℕ = mux n12 wraps.s1 n65 in
    let n67 : ℕ = mux pins.start wraps.s1 n66 in
    let n68 : ℕ = mux pins.reset wraps.s1 n67 in
    let n69 : ℕ = mux is_jsrl after wraps.s0 in
    let n70 : ℕ = mux is_rtsl wraps.s1 n69 in
    let n71 : ℕ = mux whole n70 wraps.s0 in
    let n72 : ℕ = mux n13 wraps.s0 n71 in
    let n73 : ℕ = mux n12 wraps.s0 n72 in
    let n74 : ℕ = mux pins.start wraps.s0 n73 in
    let n75 : ℕ = mux pins.reset wraps.s0 n74 in
    let n80 : ℕ = mux is_first (joined 8 wraps.low pins.din) wraps.first in
    let n81 : ℕ = mux whole n80 wraps.first in
    let n82 : ℕ = mux n13 wraps.first n81 in
    let n83 : ℕ = mux n12 wraps.first n82 in
    let n84 : ℕ = mux pins.start wraps.first n83 in
    let n85 : ℕ = mux pins.reset wraps.first n84 in
    let n86 : ℕ = mux is_halt wraps.second is_first in
    let n87 : ℕ = mux whole n86 wraps.second in
    let n88 : ℕ = mux n13 wraps.second n87 in
    let n89 : ℕ = mux n12 wraps.second n88 in
    let n90 : ℕ = mux pins.start 0 n89 in
    let n91 : ℕ = mux pins.reset wraps.second n90 in
    let n92 : ℕ = mux whole goes_on wraps.is_open in
    let n93 : ℕ = mux n13 wraps.is_open n92 in
    let n94 : ℕ = mux n12 0 n93 in
    let n95 : ℕ = mux pins.start 1 n94 in
    let n96 : ℕ = mux pins.reset 0 n95 in
    let n103 : ℕ = mux is_labs (joined 9 0 (part 0 12 wraps.first)) wraps.y in
    let n110 : ℕ = mux is_labs (joined 9 0 (joined 8 wraps.low (part 0 4 pins.din))) wraps.x in
    let n117 : ℕ = mux is_vec wraps.y wraps.y0 in
    let n118 : ℕ = mux whole n117 wraps.y0 in
    let n119 : ℕ = mux n13 wraps.y0 n118 in
    let n120 : ℕ = mux n12 wraps.y0 n119 in
    let n121 : ℕ = mux pins.start wraps.y0 n120 in
    let n122 : ℕ = mux pins.reset wraps.y0 n121 in
    let n123 : ℕ = mux is_vec wraps.x wraps.x0 in
    let n124 : ℕ = mux whole n123 wraps.x0 in
    let n125 : ℕ = mux n13 wraps.x0 n124 in
    let n126 : ℕ = mux n12 wraps.x0 n125 in
    let n127 : ℕ = mux pins.start wraps.x0 n126 in
    let n128 : ℕ = mux pins.reset wraps.x0 n127 in
    let dx : ℕ = mux is_vctr (joined 8 wraps.low (part 0 2 pins.din)) (joined 8 0 (part 0 2 wraps.low)) in
    let dy : ℕ = mux is_vctr (part 0 10 wraps.first) (joined 8 0 (part 0 2 pins.din)) in
    let vec_z : ℕ = mux is_vctr (part 4 4 pins.din) (part 4 4 wraps.low) in
    let n32 : ℕ = some vec_z in
    let n97 : ℕ = mux is_vec vec_z wraps.z in
    let n98 : ℕ = mux whole n97 wraps.z in
    let n99 : ℕ = mux n13 wraps.z n98 in
    let n100 : ℕ = mux n12 wraps.z n99 in
    let n101 : ℕ = mux pins.start wraps.z n100 in
    let n102 : ℕ = mux pins.reset wraps.z n101 in
    let n140 : ℕ = mux is_vec n32 0 in
    let n141 : ℕ = mux whole n140 0 in
    let n142 : ℕ = mux n13 0 n141 in
    let n143 : ℕ = mux n12 0 n142 in
    let n144 : ℕ = mux pins.start 0 n143 in
    let n33 : ℕ = mux pins.reset 0 n144 in
    let n149 : ℕ = mux is_rtsl wraps.s0 after in
    let n150 : ℕ = mux n26 (joined 8 wraps.low (part 0 4 pins.din)) n149 in
    let n134 : ℕ = mux is_halt wraps.at n150 in
    let n135 : ℕ = mux whole n134 wraps.at in
    let n136 : ℕ = mux n13 wraps.at n135 in
    let n137 : ℕ = mux n12 wraps.at n136 in
    let n138 : ℕ = mux pins.start 0 n137 in
    let n139 : ℕ = mux pins.reset wraps.at n138 in
    let local_scale : ℕ = mux is_vctr op n3 in
    let sum : ℕ = add 4 wraps.scale local_scale in
    let n27 : ℕ = lt sum 10 in
    let n28 : ℕ = lt sum 10 in
    let n145 : ℕ = shl 21 dx sum in
    let n146 : ℕ = shl 21 dy sum in
    let mx : ℕ = mux n27 n145 0 in
    let n1 : ℕ = add 21 wraps.x mx in
    let n147 : ℕ = sub 21 wraps.x mx in
    let my : ℕ = mux n28 n146 0 in
    let n2 : ℕ = add 21 wraps.y my in
    let n148 : ℕ = sub 21 wraps.y my in
    let dx_sign : ℕ = mux is_vctr (part 2 1 pins.din) (part 2 1 wraps.low) in
    let vx : ℕ = mux dx_sign n147 n1 in
    let n111 : ℕ = mux is_vec vx n110 in
    let n112 : ℕ = mux whole n111 wraps.x in
    let n113 : ℕ = mux n13 wraps.x n112 in
    let n114 : ℕ = mux n12 wraps.x n113 in
    let n115 : ℕ = mux pins.start wraps.x n114 in
    let n116 : ℕ = mux pins.reset wraps.x n115 in
    let dy_sign : ℕ = mux is_vctr (part 10 1 wraps.first) (part 2 1 pins.din) in
    let vy : ℕ = mux dy_sign n148 n2 in
    let n104 : ℕ = mux is_vec vy n103 in
    let n105 : ℕ = mux whole n104 wraps.y in
    let n106 : ℕ = mux n13 wraps.y n105 in
    let n107 : ℕ = mux n12 wraps.y n106 in
    let n108 : ℕ = mux pins.start wraps.y n107 in
    let n109 : ℕ = mux pins.reset wraps.y n108 in
    record {
      at = n139;
      high = n133;
      done = n41;
      fault = n36;
      stroke = n33;
      x0 = n128;
      y0 = n122;
      x = n116;
      y = n109;
      z = n102;
      is_open = n96;
      second = n91;
      first = n85;
      low = n79;
      s0 = n75;
      s1 = n68;
      s2 = n61;
      s3 = n54;
      scale = n47;
    }
