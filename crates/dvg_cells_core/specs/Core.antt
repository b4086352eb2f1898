-- The cells of core/dvg_core.v as yosys reads them: made by core/cells dvg_core.
use Rattle.std.specs.Prelude.{ℕ}
use Rattle.dvg_cells_core.specs.Cells.{add, both, either, eq, lt, mux, none, shl, some, sub, part, joined}

-- Yosys 0.23, digest fd82676271f91204

-- the registers
pub record Core : Type 0 where
  -- 12 bits
  pub at : ℕ
  -- 1 bit
  pub high : ℕ
  -- 1 bit
  pub done : ℕ
  -- 2 bits
  pub fault : ℕ
  -- 1 bit
  pub stroke : ℕ
  -- 21 bits
  pub x0 : ℕ
  -- 21 bits
  pub y0 : ℕ
  -- 21 bits
  pub x : ℕ
  -- 21 bits
  pub y : ℕ
  -- 4 bits
  pub z : ℕ
  -- 1 bit
  pub is_open : ℕ
  -- 1 bit
  pub second : ℕ
  -- 16 bits
  pub first : ℕ
  -- 8 bits
  pub low : ℕ
  -- 3 bits
  pub depth : ℕ
  -- 12 bits
  pub s0 : ℕ
  -- 12 bits
  pub s1 : ℕ
  -- 12 bits
  pub s2 : ℕ
  -- 12 bits
  pub s3 : ℕ
  -- 4 bits
  pub scale : ℕ

-- the pins that are driven from outside
pub record Pins : Type 0 where
  -- 1 bit
  pub reset : ℕ
  -- 1 bit
  pub start : ℕ
  -- 1 bit
  pub valid : ℕ
  -- 1 bit
  pub hole : ℕ
  -- 8 bits
  pub din : ℕ

-- at power-up
abbrev pub zeros : Core
zeros =
    record {
      at = 0;
      high = 0;
      done = 0;
      fault = 0;
      stroke = 0;
      x0 = 0;
      y0 = 0;
      x = 0;
      y = 0;
      z = 0;
      is_open = 0;
      second = 0;
      first = 0;
      low = 0;
      depth = 0;
      s0 = 0;
      s1 = 0;
      s2 = 0;
      s3 = 0;
      scale = 0;
    }

-- the pin `halted`
abbrev pub halted : Core → ℕ
halted core =
    none core.is_open

-- the pin `ends`
abbrev pub ends : Core → Pins → ℕ
ends core pins =
    let n10 : ℕ = both core.is_open pins.valid in
    let n22 : ℕ = none pins.hole in
    let takes : ℕ = both n10 n22 in
    let whole : ℕ = both takes core.high in
    let n26 : ℕ = none pins.reset in
    let n14 : ℕ = both whole n26 in
    let n27 : ℕ = none pins.start in
    let obeys : ℕ = both n14 n27 in
    let n33 : ℕ = none core.second in
    let op : ℕ = mux core.second (part 12 4 core.first) (part 4 4 pins.din) in
    let n44 : ℕ = lt op 11 in
    let is_first : ℕ = both n33 n44 in
    let n28 : ℕ = none is_first in
    both obeys n28

-- the pin `jsrl`
abbrev pub jsrl : Core → Pins → ℕ
jsrl core pins =
    let n10 : ℕ = both core.is_open pins.valid in
    let n22 : ℕ = none pins.hole in
    let takes : ℕ = both n10 n22 in
    let whole : ℕ = both takes core.high in
    let n26 : ℕ = none pins.reset in
    let n14 : ℕ = both whole n26 in
    let n27 : ℕ = none pins.start in
    let obeys : ℕ = both n14 n27 in
    let n35 : ℕ = none core.second in
    let op : ℕ = mux core.second (part 12 4 core.first) (part 4 4 pins.din) in
    let n6 : ℕ = eq op 12 in
    let is_jsrl : ℕ = both n35 n6 in
    both obeys is_jsrl

-- the pin `labs`
abbrev pub labs : Core → Pins → ℕ
labs core pins =
    let n10 : ℕ = both core.is_open pins.valid in
    let n22 : ℕ = none pins.hole in
    let takes : ℕ = both n10 n22 in
    let whole : ℕ = both takes core.high in
    let n26 : ℕ = none pins.reset in
    let n14 : ℕ = both whole n26 in
    let n27 : ℕ = none pins.start in
    let obeys : ℕ = both n14 n27 in
    let op : ℕ = mux core.second (part 12 4 core.first) (part 4 4 pins.din) in
    let n43 : ℕ = lt op 10 in
    let n32 : ℕ = none n43 in
    let is_labs : ℕ = both core.second n32 in
    both obeys is_labs

-- the pin `vec`
abbrev pub vec : Core → Pins → ℕ
vec core pins =
    let n10 : ℕ = both core.is_open pins.valid in
    let n22 : ℕ = none pins.hole in
    let takes : ℕ = both n10 n22 in
    let whole : ℕ = both takes core.high in
    let n26 : ℕ = none pins.reset in
    let n14 : ℕ = both whole n26 in
    let n27 : ℕ = none pins.start in
    let obeys : ℕ = both n14 n27 in
    let n38 : ℕ = none core.second in
    let op : ℕ = mux core.second (part 12 4 core.first) (part 4 4 pins.din) in
    let n9 : ℕ = eq op 15 in
    let is_svec : ℕ = both n38 n9 in
    let n42 : ℕ = lt op 10 in
    let is_vctr : ℕ = both core.second n42 in
    let is_vec : ℕ = either is_vctr is_svec in
    both obeys is_vec

-- the pin `sum`
abbrev pub sum : Core → Pins → ℕ
sum core pins =
    let n4 : ℕ = add 4 (joined 1 (part 3 1 pins.din) (part 3 1 core.low)) 2 in
    let op : ℕ = mux core.second (part 12 4 core.first) (part 4 4 pins.din) in
    let n42 : ℕ = lt op 10 in
    let is_vctr : ℕ = both core.second n42 in
    let local_scale : ℕ = mux is_vctr op n4 in
    add 4 core.scale local_scale

-- the pin `dx_sign`
abbrev pub dx_sign : Core → Pins → ℕ
dx_sign core pins =
    let op : ℕ = mux core.second (part 12 4 core.first) (part 4 4 pins.din) in
    let n42 : ℕ = lt op 10 in
    let is_vctr : ℕ = both core.second n42 in
    mux is_vctr (part 2 1 pins.din) (part 2 1 core.low)

-- the pin `dy_sign`
abbrev pub dy_sign : Core → Pins → ℕ
dy_sign core pins =
    let op : ℕ = mux core.second (part 12 4 core.first) (part 4 4 pins.din) in
    let n42 : ℕ = lt op 10 in
    let is_vctr : ℕ = both core.second n42 in
    mux is_vctr (part 10 1 core.first) (part 2 1 pins.din)

-- the pin `dx`
abbrev pub dx : Core → Pins → ℕ
dx core pins =
    let op : ℕ = mux core.second (part 12 4 core.first) (part 4 4 pins.din) in
    let n42 : ℕ = lt op 10 in
    let is_vctr : ℕ = both core.second n42 in
    mux is_vctr (joined 8 core.low (part 0 2 pins.din)) (joined 8 0 (part 0 2 core.low))

-- the pin `dy`
abbrev pub dy : Core → Pins → ℕ
dy core pins =
    let op : ℕ = mux core.second (part 12 4 core.first) (part 4 4 pins.din) in
    let n42 : ℕ = lt op 10 in
    let is_vctr : ℕ = both core.second n42 in
    mux is_vctr (part 0 10 core.first) (joined 8 0 (part 0 2 pins.din))

-- the pin `vec_z`
abbrev pub vec_z : Core → Pins → ℕ
vec_z core pins =
    let op : ℕ = mux core.second (part 12 4 core.first) (part 4 4 pins.din) in
    let n42 : ℕ = lt op 10 in
    let is_vctr : ℕ = both core.second n42 in
    mux is_vctr (part 4 4 pins.din) (part 4 4 core.low)

-- the registers after a clock
abbrev pub clock : Core → Pins → Core
clock core pins =
    let after : ℕ = add 12 core.at 1 in
    let n3 : ℕ = add 3 core.depth 1 in
    let n4 : ℕ = add 4 (joined 1 (part 3 1 pins.din) (part 3 1 core.low)) 2 in
    let full : ℕ = eq core.depth 4 in
    let empty : ℕ = none core.depth in
    let n10 : ℕ = both core.is_open pins.valid in
    let n15 : ℕ = both core.is_open pins.valid in
    let n16 : ℕ = both n15 pins.hole in
    let n22 : ℕ = none pins.hole in
    let takes : ℕ = both n10 n22 in
    let whole : ℕ = both takes core.high in
    let n29 : ℕ = none core.high in
    let n17 : ℕ = both takes n29 in
    let n30 : ℕ = none full in
    let n31 : ℕ = none empty in
    let n33 : ℕ = none core.second in
    let n34 : ℕ = none core.second in
    let n35 : ℕ = none core.second in
    let n36 : ℕ = none core.second in
    let n37 : ℕ = none core.second in
    let n38 : ℕ = none core.second in
    let n99 : ℕ = mux n17 pins.din core.low in
    let n100 : ℕ = mux n16 core.low n99 in
    let n101 : ℕ = mux pins.start core.low n100 in
    let n102 : ℕ = mux pins.reset core.low n101 in
    let n152 : ℕ = mux whole 0 core.high in
    let n153 : ℕ = mux n17 1 n152 in
    let n154 : ℕ = mux n16 0 n153 in
    let n155 : ℕ = mux pins.start 0 n154 in
    let n156 : ℕ = mux pins.reset 0 n155 in
    let n172 : ℕ = sub 3 core.depth 1 in
    let op : ℕ = mux core.second (part 12 4 core.first) (part 4 4 pins.din) in
    let n5 : ℕ = eq op 11 in
    let n6 : ℕ = eq op 12 in
    let n7 : ℕ = eq op 13 in
    let n8 : ℕ = eq op 14 in
    let n9 : ℕ = eq op 15 in
    let is_halt : ℕ = both n34 n5 in
    let is_jsrl : ℕ = both n35 n6 in
    let n11 : ℕ = both is_jsrl full in
    let n18 : ℕ = both is_jsrl full in
    let n20 : ℕ = both is_jsrl n30 in
    let is_rtsl : ℕ = both n36 n7 in
    let n13 : ℕ = both is_rtsl empty in
    let n19 : ℕ = both is_rtsl empty in
    let n21 : ℕ = both is_rtsl n31 in
    let is_jmpl : ℕ = both n37 n8 in
    let is_svec : ℕ = both n38 n9 in
    let n23 : ℕ = none is_halt in
    let n24 : ℕ = none n11 in
    let n12 : ℕ = both n23 n24 in
    let n25 : ℕ = none n13 in
    let goes_on : ℕ = both n12 n25 in
    let n39 : ℕ = either is_jsrl is_jmpl in
    let n42 : ℕ = lt op 10 in
    let is_vctr : ℕ = both core.second n42 in
    let is_vec : ℕ = either is_vctr is_svec in
    let n43 : ℕ = lt op 10 in
    let n32 : ℕ = none n43 in
    let is_labs : ℕ = both core.second n32 in
    let n44 : ℕ = lt op 11 in
    let is_first : ℕ = both n33 n44 in
    let n47 : ℕ = mux n18 1 0 in
    let n48 : ℕ = mux n19 2 n47 in
    let n49 : ℕ = mux whole n48 0 in
    let n50 : ℕ = mux n17 0 n49 in
    let n51 : ℕ = mux n16 3 n50 in
    let n52 : ℕ = mux pins.start 0 n51 in
    let n53 : ℕ = mux pins.reset 0 n52 in
    let n54 : ℕ = mux whole is_halt 0 in
    let n55 : ℕ = mux n17 0 n54 in
    let n56 : ℕ = mux n16 0 n55 in
    let n57 : ℕ = mux pins.start 0 n56 in
    let n58 : ℕ = mux pins.reset 0 n57 in
    let n59 : ℕ = mux is_labs (part 4 4 pins.din) core.scale in
    let n60 : ℕ = mux whole n59 core.scale in
    let n61 : ℕ = mux n17 core.scale n60 in
    let n62 : ℕ = mux n16 core.scale n61 in
    let n63 : ℕ = mux pins.start core.scale n62 in
    let n64 : ℕ = mux pins.reset core.scale n63 in
    let n65 : ℕ = mux n20 core.s2 core.s3 in
    let n66 : ℕ = mux whole n65 core.s3 in
    let n67 : ℕ = mux n17 core.s3 n66 in
    let n68 : ℕ = mux n16 core.s3 n67 in
    let n69 : ℕ = mux pins.start core.s3 n68 in
    let n70 : ℕ = mux pins.reset core.s3 n69 in
    let n71 : ℕ = mux n20 core.s1 core.s2 in
    let n72 : ℕ = mux n21 core.s3 n71 in
    let n73 : ℕ = mux whole n72 core.s2 in
    let n74 : ℕ = mux n17 core.s2 n73 in
    let n75 : ℕ = mux n16 core.s2 n74 in
    let n76 : ℕ = mux pins.start core.s2 n75 in
    let n77 : ℕ = mux pins.reset core.s2 n76 in
    let n78 : ℕ = mux n20 core.s0 core.s1 in
    let n79 : ℕ = mux n21 core.s2 n78 in
    let n80 : ℕ = mux whole n79 core.s1 in
    let n81 : ℕ = mux n17 core.s1 n80 in
    let n82 : ℕ = mux n16 core.s1 n81 in
    let n83 : ℕ = mux pins.start core.s1 n82 in
    let n84 : ℕ = mux pins.reset core.s1 n83 in
    let n85 : ℕ = mux n20 after core.s0 in
    let n86 : ℕ = mux n21 core.s1 n85 in
    let n87 : ℕ = mux whole n86 core.s0 in
    let n88 : ℕ = mux n17 core.s0 n87 in
    let n89 : ℕ = mux n16 core.s0 n88 in
    let n90 : ℕ = mux pins.start core.s0 n89 in
    let n91 : ℕ = mux pins.reset core.s0 n90 in
    let n92 : ℕ = mux n20 n3 core.depth in
    let n93 : ℕ = mux n21 n172 n92 in
    let n94 : ℕ = mux whole n93 core.depth in
    let n95 : ℕ = mux n17 core.depth n94 in
    let n96 : ℕ = mux n16 core.depth n95 in
    let n97 : ℕ = mux pins.start 0 n96 in
    let n98 : ℕ = mux pins.reset core.depth n97 in
    let n103 : ℕ = mux is_first (joined 8 core.low pins.din) core.first in
    let n104 : ℕ = mux whole n103 core.first in
    let n105 : ℕ = mux n17 core.first n104 in
    let n106 : ℕ = mux n16 core.first n105 in
    let n107 : ℕ = mux pins.start core.first n106 in
    let n108 : ℕ = mux pins.reset core.first n107 in
    let n109 : ℕ = mux goes_on is_first core.second in
    let n110 : ℕ = mux whole n109 core.second in
    let n111 : ℕ = mux n17 core.second n110 in
    let n112 : ℕ = mux n16 core.second n111 in
    let n113 : ℕ = mux pins.start 0 n112 in
    let n114 : ℕ = mux pins.reset core.second n113 in
    let n115 : ℕ = mux whole goes_on core.is_open in
    let n116 : ℕ = mux n17 core.is_open n115 in
    let n117 : ℕ = mux n16 0 n116 in
    let n118 : ℕ = mux pins.start 1 n117 in
    let n119 : ℕ = mux pins.reset 0 n118 in
    let n126 : ℕ = mux is_labs (joined 9 0 (part 0 12 core.first)) core.y in
    let n133 : ℕ = mux is_labs (joined 9 0 (joined 8 core.low (part 0 4 pins.din))) core.x in
    let n140 : ℕ = mux is_vec core.y core.y0 in
    let n141 : ℕ = mux whole n140 core.y0 in
    let n142 : ℕ = mux n17 core.y0 n141 in
    let n143 : ℕ = mux n16 core.y0 n142 in
    let n144 : ℕ = mux pins.start core.y0 n143 in
    let n145 : ℕ = mux pins.reset core.y0 n144 in
    let n146 : ℕ = mux is_vec core.x core.x0 in
    let n147 : ℕ = mux whole n146 core.x0 in
    let n148 : ℕ = mux n17 core.x0 n147 in
    let n149 : ℕ = mux n16 core.x0 n148 in
    let n150 : ℕ = mux pins.start core.x0 n149 in
    let n151 : ℕ = mux pins.reset core.x0 n150 in
    let dx : ℕ = mux is_vctr (joined 8 core.low (part 0 2 pins.din)) (joined 8 0 (part 0 2 core.low)) in
    let dy : ℕ = mux is_vctr (part 0 10 core.first) (joined 8 0 (part 0 2 pins.din)) in
    let vec_z : ℕ = mux is_vctr (part 4 4 pins.din) (part 4 4 core.low) in
    let n45 : ℕ = some vec_z in
    let n120 : ℕ = mux is_vec vec_z core.z in
    let n121 : ℕ = mux whole n120 core.z in
    let n122 : ℕ = mux n17 core.z n121 in
    let n123 : ℕ = mux n16 core.z n122 in
    let n124 : ℕ = mux pins.start core.z n123 in
    let n125 : ℕ = mux pins.reset core.z n124 in
    let n163 : ℕ = mux is_vec n45 0 in
    let n164 : ℕ = mux whole n163 0 in
    let n165 : ℕ = mux n17 0 n164 in
    let n166 : ℕ = mux n16 0 n165 in
    let n167 : ℕ = mux pins.start 0 n166 in
    let n46 : ℕ = mux pins.reset 0 n167 in
    let n173 : ℕ = mux is_rtsl core.s0 after in
    let n174 : ℕ = mux n39 (joined 8 core.low (part 0 4 pins.din)) n173 in
    let n157 : ℕ = mux goes_on n174 core.at in
    let n158 : ℕ = mux whole n157 core.at in
    let n159 : ℕ = mux n17 core.at n158 in
    let n160 : ℕ = mux n16 core.at n159 in
    let n161 : ℕ = mux pins.start 0 n160 in
    let n162 : ℕ = mux pins.reset core.at n161 in
    let local_scale : ℕ = mux is_vctr op n4 in
    let sum : ℕ = add 4 core.scale local_scale in
    let n40 : ℕ = lt sum 10 in
    let n41 : ℕ = lt sum 10 in
    let n168 : ℕ = shl 21 dx sum in
    let n169 : ℕ = shl 21 dy sum in
    let mx : ℕ = mux n40 n168 0 in
    let n1 : ℕ = add 21 core.x mx in
    let n170 : ℕ = sub 21 core.x mx in
    let my : ℕ = mux n41 n169 0 in
    let n2 : ℕ = add 21 core.y my in
    let n171 : ℕ = sub 21 core.y my in
    let dx_sign : ℕ = mux is_vctr (part 2 1 pins.din) (part 2 1 core.low) in
    let vx : ℕ = mux dx_sign n170 n1 in
    let n134 : ℕ = mux is_vec vx n133 in
    let n135 : ℕ = mux whole n134 core.x in
    let n136 : ℕ = mux n17 core.x n135 in
    let n137 : ℕ = mux n16 core.x n136 in
    let n138 : ℕ = mux pins.start core.x n137 in
    let n139 : ℕ = mux pins.reset core.x n138 in
    let dy_sign : ℕ = mux is_vctr (part 10 1 core.first) (part 2 1 pins.din) in
    let vy : ℕ = mux dy_sign n171 n2 in
    let n127 : ℕ = mux is_vec vy n126 in
    let n128 : ℕ = mux whole n127 core.y in
    let n129 : ℕ = mux n17 core.y n128 in
    let n130 : ℕ = mux n16 core.y n129 in
    let n131 : ℕ = mux pins.start core.y n130 in
    let n132 : ℕ = mux pins.reset core.y n131 in
    record {
      at = n162;
      high = n156;
      done = n58;
      fault = n53;
      stroke = n46;
      x0 = n151;
      y0 = n145;
      x = n139;
      y = n132;
      z = n125;
      is_open = n119;
      second = n114;
      first = n108;
      low = n102;
      depth = n98;
      s0 = n91;
      s1 = n84;
      s2 = n77;
      s3 = n70;
      scale = n64;
    }
