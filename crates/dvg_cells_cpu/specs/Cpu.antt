-- The cells of core/dvg_cpu.v as yosys reads them: made by core/cells dvg_cpu.
use Rattle.std.specs.Prelude.{ℕ, bit_and, bit_or, bit_xor}
use Rattle.dvg_cells_core.specs.Cells.{add, both, either, eq, lt, mux, none, sub, part, joined}
use Rattle.dvg_cells_cpu.specs.Cells.{ge}

-- Yosys 0.23, digest abc70fa23af6b5d5

-- the registers
pub record Cpu : Type 0 where
  -- 8 bits
  pub a : ℕ
  -- 8 bits
  pub x : ℕ
  -- 8 bits
  pub y : ℕ
  -- 8 bits
  pub s : ℕ
  -- 16 bits
  pub pc : ℕ
  -- 1 bit
  pub n : ℕ
  -- 1 bit
  pub v : ℕ
  -- 1 bit
  pub d : ℕ
  -- 1 bit
  pub i : ℕ
  -- 1 bit
  pub z : ℕ
  -- 1 bit
  pub c : ℕ
  -- 5 bits
  pub state : ℕ
  -- 8 bits
  pub ir : ℕ
  -- 8 bits
  pub low : ℕ
  -- 8 bits
  pub high : ℕ
  -- 8 bits
  pub back : ℕ
  -- 1 bit
  pub was : ℕ
  -- 1 bit
  pub due : ℕ

-- the pins that are driven from outside
pub record Pins : Type 0 where
  -- 1 bit
  pub reset : ℕ
  -- 1 bit
  pub step : ℕ
  -- 1 bit
  pub nmi : ℕ
  -- 8 bits
  pub din : ℕ

-- at power-up
abbrev pub zeros : Cpu
zeros =
    record {
      a = 0;
      x = 0;
      y = 0;
      s = 0;
      pc = 0;
      n = 0;
      v = 0;
      d = 0;
      i = 0;
      z = 0;
      c = 0;
      state = 0;
      ir = 0;
      low = 0;
      high = 0;
      back = 0;
      was = 0;
      due = 0;
    }

-- the pin `at`
abbrev pub at : Cpu → ℕ
at cpu =
    let pc1 : ℕ = add 16 cpu.pc 1 in
    let pc2 : ℕ = add 16 cpu.pc 2 in
    let s1 : ℕ = add 8 cpu.s 1 in
    let low1 : ℕ = add 8 cpu.low 1 in
    let n84 : ℕ = eq cpu.state 2 in
    let n85 : ℕ = eq cpu.state 2 in
    let is_reset_low : ℕ = none cpu.state in
    let is_first : ℕ = eq cpu.state 3 in
    let is_second : ℕ = eq cpu.state 4 in
    let is_point_low : ℕ = eq cpu.state 5 in
    let is_point_high : ℕ = eq cpu.state 6 in
    let is_data : ℕ = eq cpu.state 7 in
    let is_back : ℕ = eq cpu.state 8 in
    let is_call_high : ℕ = eq cpu.state 9 in
    let is_call_low : ℕ = eq cpu.state 10 in
    let is_pull_low : ℕ = eq cpu.state 11 in
    let is_pull_high : ℕ = eq cpu.state 12 in
    let is_nmi_low : ℕ = eq cpu.state 13 in
    let is_nmi_flags : ℕ = eq cpu.state 14 in
    let is_nmi_to_low : ℕ = eq cpu.state 15 in
    let is_nmi_to_high : ℕ = eq cpu.state 16 in
    let is_jump_low : ℕ = eq cpu.state 17 in
    let is_jump_high : ℕ = eq cpu.state 18 in
    let is_push : ℕ = eq cpu.state 19 in
    let is_pull : ℕ = eq cpu.state 20 in
    let is_nmi_high : ℕ = both n85 cpu.due in
    let n161 : ℕ = none cpu.due in
    let sync : ℕ = both n84 n161 in
    let n240 : ℕ = either is_call_high is_call_low in
    let n241 : ℕ = either n240 is_nmi_high in
    let n242 : ℕ = either n241 is_nmi_low in
    let n243 : ℕ = either n242 is_nmi_flags in
    let pushes : ℕ = either n243 is_push in
    let n244 : ℕ = either is_pull_low is_pull_high in
    let pulls : ℕ = either n244 is_pull in
    let n246 : ℕ = either is_data is_back in
    let n384 : ℕ = mux is_reset_low 65532 65533 in
    let n383 : ℕ = mux is_nmi_to_high 65531 n384 in
    let n382 : ℕ = mux is_nmi_to_low 65530 n383 in
    let n381 : ℕ = mux is_jump_high (joined 8 low1 cpu.high) n382 in
    let n380 : ℕ = mux is_jump_low (joined 8 cpu.low cpu.high) n381 in
    let n379 : ℕ = mux pulls (joined 8 s1 1) n380 in
    let n378 : ℕ = mux pushes (joined 8 cpu.s 1) n379 in
    let n377 : ℕ = mux n246 (joined 8 cpu.low cpu.high) n378 in
    let n376 : ℕ = mux is_point_high low1 n377 in
    let n375 : ℕ = mux is_point_low cpu.low n376 in
    let n374 : ℕ = mux is_second pc2 n375 in
    let n373 : ℕ = mux is_first pc1 n374 in
    mux sync cpu.pc n373

-- the pin `write`
abbrev pub write : Cpu → ℕ
write cpu =
    let n44 : ℕ = eq cpu.ir 132 in
    let n45 : ℕ = eq cpu.ir 148 in
    let n46 : ℕ = eq cpu.ir 140 in
    let n47 : ℕ = eq cpu.ir 134 in
    let n48 : ℕ = eq cpu.ir 150 in
    let n49 : ℕ = eq cpu.ir 142 in
    let n50 : ℕ = eq (part 0 2 cpu.ir) 1 in
    let n51 : ℕ = eq (part 5 3 cpu.ir) 4 in
    let n52 : ℕ = eq (part 2 3 cpu.ir) 2 in
    let n85 : ℕ = eq cpu.state 2 in
    let is_data : ℕ = eq cpu.state 7 in
    let is_back : ℕ = eq cpu.state 8 in
    let is_call_high : ℕ = eq cpu.state 9 in
    let is_call_low : ℕ = eq cpu.state 10 in
    let is_nmi_low : ℕ = eq cpu.state 13 in
    let is_nmi_flags : ℕ = eq cpu.state 14 in
    let is_push : ℕ = eq cpu.state 19 in
    let n96 : ℕ = both n50 n51 in
    let is_nmi_high : ℕ = both n85 cpu.due in
    let n150 : ℕ = none n52 in
    let store_a : ℕ = both n96 n150 in
    let n178 : ℕ = either n44 n45 in
    let store_y : ℕ = either n178 n46 in
    let n179 : ℕ = either n47 n48 in
    let store_x : ℕ = either n179 n49 in
    let n180 : ℕ = either store_y store_x in
    let store : ℕ = either n180 store_a in
    let n112 : ℕ = both is_data store in
    let n240 : ℕ = either is_call_high is_call_low in
    let n241 : ℕ = either n240 is_nmi_high in
    let n242 : ℕ = either n241 is_nmi_low in
    let n243 : ℕ = either n242 is_nmi_flags in
    let pushes : ℕ = either n243 is_push in
    let n245 : ℕ = either pushes is_back in
    either n245 n112

-- the pin `dout`
abbrev pub dout : Cpu → ℕ
dout cpu =
    let pc2 : ℕ = add 16 cpu.pc 2 in
    let n44 : ℕ = eq cpu.ir 132 in
    let n45 : ℕ = eq cpu.ir 148 in
    let n46 : ℕ = eq cpu.ir 140 in
    let n47 : ℕ = eq cpu.ir 134 in
    let n48 : ℕ = eq cpu.ir 150 in
    let n49 : ℕ = eq cpu.ir 142 in
    let n83 : ℕ = eq cpu.ir 8 in
    let n85 : ℕ = eq cpu.state 2 in
    let is_data : ℕ = eq cpu.state 7 in
    let is_back : ℕ = eq cpu.state 8 in
    let is_call_high : ℕ = eq cpu.state 9 in
    let is_call_low : ℕ = eq cpu.state 10 in
    let is_nmi_low : ℕ = eq cpu.state 13 in
    let is_push : ℕ = eq cpu.state 19 in
    let push_flags : ℕ = both is_push n83 in
    let is_nmi_high : ℕ = both n85 cpu.due in
    let n156 : ℕ = none push_flags in
    let n113 : ℕ = both is_push n156 in
    let n178 : ℕ = either n44 n45 in
    let store_y : ℕ = either n178 n46 in
    let n179 : ℕ = either n47 n48 in
    let store_x : ℕ = either n179 n49 in
    let n385 : ℕ = mux store_y cpu.y cpu.a in
    let n386 : ℕ = mux store_x cpu.x n385 in
    let n392 : ℕ = mux n113 cpu.a (joined 1 cpu.c (joined 1 cpu.z (joined 1 cpu.i (joined 1 cpu.d (joined 1 push_flags (joined 1 1 (joined 1 cpu.v cpu.n))))))) in
    let n391 : ℕ = mux is_nmi_low (part 0 8 cpu.pc) n392 in
    let n390 : ℕ = mux is_nmi_high (part 8 8 cpu.pc) n391 in
    let n389 : ℕ = mux is_call_low (part 0 8 pc2) n390 in
    let n388 : ℕ = mux is_call_high (part 8 8 pc2) n389 in
    let n387 : ℕ = mux is_back cpu.back n388 in
    mux is_data n386 n387

-- the pin `sync`
abbrev pub sync : Cpu → ℕ
sync cpu =
    let n84 : ℕ = eq cpu.state 2 in
    let n161 : ℕ = none cpu.due in
    both n84 n161

-- the registers after a clock
abbrev pub clock : Cpu → Pins → Cpu
clock cpu pins =
    let n4 : ℕ = add 8 pins.din 1 in
    let n5 : ℕ = add 8 pins.din 255 in
    let n6 : ℕ = add 8 cpu.x 1 in
    let n7 : ℕ = add 8 cpu.y 1 in
    let n8 : ℕ = add 8 cpu.x 255 in
    let n9 : ℕ = add 8 cpu.y 255 in
    let pc1 : ℕ = add 16 cpu.pc 1 in
    let pc2 : ℕ = add 16 cpu.pc 2 in
    let pc3 : ℕ = add 16 cpu.pc 3 in
    let s1 : ℕ = add 8 cpu.s 1 in
    let pointed : ℕ = add 16 (joined 8 cpu.high pins.din) cpu.y in
    let n10 : ℕ = add 8 cpu.s 255 in
    let n12 : ℕ = add 16 (joined 8 cpu.low pins.din) 1 in
    let n13 : ℕ = bit_and cpu.a pins.din in
    let n14 : ℕ = bit_and cpu.a pins.din in
    let n44 : ℕ = eq cpu.ir 132 in
    let n45 : ℕ = eq cpu.ir 148 in
    let n46 : ℕ = eq cpu.ir 140 in
    let n47 : ℕ = eq cpu.ir 134 in
    let n48 : ℕ = eq cpu.ir 150 in
    let n49 : ℕ = eq cpu.ir 142 in
    let n50 : ℕ = eq (part 0 2 cpu.ir) 1 in
    let n51 : ℕ = eq (part 5 3 cpu.ir) 4 in
    let n52 : ℕ = eq (part 2 3 cpu.ir) 2 in
    let n84 : ℕ = eq cpu.state 2 in
    let n85 : ℕ = eq cpu.state 2 in
    let is_reset_low : ℕ = none cpu.state in
    let is_reset_high : ℕ = eq cpu.state 1 in
    let is_first : ℕ = eq cpu.state 3 in
    let is_second : ℕ = eq cpu.state 4 in
    let is_point_low : ℕ = eq cpu.state 5 in
    let is_point_high : ℕ = eq cpu.state 6 in
    let is_data : ℕ = eq cpu.state 7 in
    let is_back : ℕ = eq cpu.state 8 in
    let is_call_high : ℕ = eq cpu.state 9 in
    let is_call_low : ℕ = eq cpu.state 10 in
    let is_pull_low : ℕ = eq cpu.state 11 in
    let is_pull_high : ℕ = eq cpu.state 12 in
    let is_nmi_low : ℕ = eq cpu.state 13 in
    let is_nmi_flags : ℕ = eq cpu.state 14 in
    let is_nmi_to_low : ℕ = eq cpu.state 15 in
    let is_nmi_to_high : ℕ = eq cpu.state 16 in
    let is_jump_low : ℕ = eq cpu.state 17 in
    let is_jump_high : ℕ = eq cpu.state 18 in
    let is_push : ℕ = eq cpu.state 19 in
    let is_pull : ℕ = eq cpu.state 20 in
    let n88 : ℕ = ge (part 0 7 pins.din) 64 in
    let n91 : ℕ = ge pins.din 128 in
    let n96 : ℕ = both n50 n51 in
    let is_nmi_high : ℕ = both n85 cpu.due in
    let n150 : ℕ = none n52 in
    let store_a : ℕ = both n96 n150 in
    let n157 : ℕ = none cpu.was in
    let n114 : ℕ = both pins.nmi n157 in
    let n158 : ℕ = none is_nmi_high in
    let n115 : ℕ = both cpu.due n158 in
    let n161 : ℕ = none cpu.due in
    let sync : ℕ = both n84 n161 in
    let n178 : ℕ = either n44 n45 in
    let store_y : ℕ = either n178 n46 in
    let n179 : ℕ = either n47 n48 in
    let store_x : ℕ = either n179 n49 in
    let n180 : ℕ = either store_y store_x in
    let store : ℕ = either n180 store_a in
    let n152 : ℕ = none store in
    let n106 : ℕ = both is_data n152 in
    let n240 : ℕ = either is_call_high is_call_low in
    let n241 : ℕ = either n240 is_nmi_high in
    let n242 : ℕ = either n241 is_nmi_low in
    let n243 : ℕ = either n242 is_nmi_flags in
    let pushes : ℕ = either n243 is_push in
    let n244 : ℕ = either is_pull_low is_pull_high in
    let pulls : ℕ = either n244 is_pull in
    let n247 : ℕ = either n114 n115 in
    let n250 : ℕ = either is_nmi_flags is_reset_high in
    let n252 : ℕ = either is_pull_low is_reset_low in
    let n253 : ℕ = either n252 is_nmi_to_low in
    let n254 : ℕ = either is_second is_point_low in
    let n255 : ℕ = either is_nmi_to_high is_reset_high in
    let n267 : ℕ = bit_or cpu.a pins.din in
    let n268 : ℕ = mux pins.step n247 cpu.due in
    let n269 : ℕ = mux pins.reset 0 n268 in
    let n270 : ℕ = mux pins.step pins.nmi cpu.was in
    let n271 : ℕ = mux pins.reset pins.nmi n270 in
    let n272 : ℕ = mux is_jump_low pins.din cpu.back in
    let n282 : ℕ = mux n253 pins.din cpu.low in
    let n288 : ℕ = mux sync pins.din cpu.ir in
    let n289 : ℕ = mux pins.step n288 cpu.ir in
    let n290 : ℕ = mux pins.reset cpu.ir n289 in
    let n301 : ℕ = mux n250 1 cpu.i in
    let n320 : ℕ = mux is_reset_high 253 cpu.s in
    let n335 : ℕ = sub 8 255 pins.din in
    let n370 : ℕ = mux n91 255 0 in
    let target : ℕ = add 16 pc2 (joined 8 pins.din n370) in
    let n409 : ℕ = mux n255 (joined 8 cpu.low pins.din) cpu.pc in
    let n431 : ℕ = mux is_reset_low 1 2 in
    let n430 : ℕ = mux is_nmi_to_low 16 n431 in
    let n429 : ℕ = mux is_nmi_flags 15 n430 in
    let n428 : ℕ = mux is_nmi_low 14 n429 in
    let op : ℕ = mux sync pins.din cpu.ir in
    let rti : ℕ = eq op 64 in
    let pha : ℕ = eq op 72 in
    let php : ℕ = eq op 8 in
    let pla : ℕ = eq op 104 in
    let plp : ℕ = eq op 40 in
    let tax : ℕ = eq op 170 in
    let tay : ℕ = eq op 168 in
    let txa : ℕ = eq op 138 in
    let tya : ℕ = eq op 152 in
    let tsx : ℕ = eq op 186 in
    let txs : ℕ = eq op 154 in
    let inx : ℕ = eq op 232 in
    let iny : ℕ = eq op 200 in
    let dex : ℕ = eq op 202 in
    let dey : ℕ = eq op 136 in
    let clc : ℕ = eq op 24 in
    let sec : ℕ = eq op 56 in
    let cli : ℕ = eq op 88 in
    let sei : ℕ = eq op 120 in
    let clv : ℕ = eq op 184 in
    let cld : ℕ = eq op 216 in
    let sed : ℕ = eq op 248 in
    let nop : ℕ = eq op 234 in
    let n15 : ℕ = eq (part 2 3 op) 4 in
    let n16 : ℕ = eq (part 2 3 op) 2 in
    let n17 : ℕ = eq (part 2 3 op) 4 in
    let n18 : ℕ = eq (part 2 3 op) 6 in
    let n19 : ℕ = eq (part 5 3 op) 5 in
    let n20 : ℕ = eq (part 5 3 op) 5 in
    let n21 : ℕ = eq (part 5 3 op) 5 in
    let n22 : ℕ = eq op 192 in
    let n23 : ℕ = eq op 196 in
    let n24 : ℕ = eq op 204 in
    let n25 : ℕ = eq op 224 in
    let n26 : ℕ = eq op 228 in
    let n27 : ℕ = eq op 236 in
    let n28 : ℕ = eq (part 5 3 op) 6 in
    let n29 : ℕ = eq op 36 in
    let n30 : ℕ = eq op 44 in
    let n31 : ℕ = none (part 5 3 op) in
    let n32 : ℕ = eq (part 5 3 op) 1 in
    let n33 : ℕ = eq (part 5 3 op) 2 in
    let n34 : ℕ = eq (part 5 3 op) 3 in
    let n35 : ℕ = eq (part 5 3 op) 7 in
    let n36 : ℕ = eq op 132 in
    let n37 : ℕ = eq op 148 in
    let n38 : ℕ = eq op 140 in
    let n39 : ℕ = eq op 134 in
    let n40 : ℕ = eq op 150 in
    let n41 : ℕ = eq op 142 in
    let n42 : ℕ = eq (part 5 3 op) 4 in
    let n43 : ℕ = eq (part 2 3 op) 2 in
    let n53 : ℕ = eq (part 2 3 op) 2 in
    let n54 : ℕ = eq (part 2 3 op) 1 in
    let n55 : ℕ = eq (part 2 3 op) 3 in
    let n56 : ℕ = eq (part 2 3 op) 5 in
    let n57 : ℕ = eq (part 2 3 op) 7 in
    let n58 : ℕ = eq (part 5 3 op) 4 in
    let n59 : ℕ = eq (part 5 3 op) 5 in
    let n60 : ℕ = none (part 5 3 op) in
    let n61 : ℕ = eq (part 5 3 op) 1 in
    let n62 : ℕ = eq (part 5 3 op) 2 in
    let n63 : ℕ = eq (part 5 3 op) 3 in
    let n64 : ℕ = eq (part 5 3 op) 6 in
    let n65 : ℕ = eq (part 5 3 op) 7 in
    let n66 : ℕ = eq (part 2 3 op) 2 in
    let n67 : ℕ = none (part 2 3 op) in
    let n68 : ℕ = eq (part 2 3 op) 1 in
    let n69 : ℕ = eq (part 2 3 op) 3 in
    let n70 : ℕ = none (part 2 3 op) in
    let n71 : ℕ = eq (part 2 3 op) 4 in
    let n72 : ℕ = eq (part 2 3 op) 5 in
    let n73 : ℕ = eq (part 2 3 op) 7 in
    let n74 : ℕ = eq (part 2 3 op) 6 in
    let n75 : ℕ = eq (part 2 3 op) 6 in
    let n76 : ℕ = eq (part 5 3 op) 4 in
    let n77 : ℕ = eq (part 5 3 op) 5 in
    let n80 : ℕ = none (part 6 2 op) in
    let n81 : ℕ = eq (part 6 2 op) 1 in
    let n82 : ℕ = eq (part 6 2 op) 2 in
    let group0 : ℕ = none (part 0 2 op) in
    let group1 : ℕ = eq (part 0 2 op) 1 in
    let group2 : ℕ = eq (part 0 2 op) 2 in
    let jmp : ℕ = eq op 76 in
    let jump_at : ℕ = eq op 108 in
    let jsr : ℕ = eq op 32 in
    let rts : ℕ = eq op 96 in
    let branch : ℕ = both group0 n15 in
    let n92 : ℕ = both group0 n19 in
    let n93 : ℕ = both group2 n20 in
    let load_a : ℕ = both group1 n21 in
    let compare_a : ℕ = both group1 n28 in
    let or_a : ℕ = both group1 n31 in
    let and_a : ℕ = both group1 n32 in
    let xor_a : ℕ = both group1 n33 in
    let adc : ℕ = both group1 n34 in
    let sbc : ℕ = both group1 n35 in
    let n94 : ℕ = both group1 n42 in
    let n97 : ℕ = both group2 n53 in
    let n101 : ℕ = both group1 n74 in
    let n102 : ℕ = both group1 n75 in
    let n107 : ℕ = both is_pull pla in
    let n109 : ℕ = both adc cpu.d in
    let n111 : ℕ = both adc cpu.d in
    let n130 : ℕ = both is_first branch in
    let n131 : ℕ = both is_second jmp in
    let n133 : ℕ = both is_pull_high rti in
    let n136 : ℕ = both sync rts in
    let n143 : ℕ = both is_second jsr in
    let n144 : ℕ = both is_second jump_at in
    let n146 : ℕ = both is_pull rti in
    let n149 : ℕ = none n43 in
    let n95 : ℕ = both n94 n149 in
    let n155 : ℕ = none pla in
    let pulls_flags : ℕ = both is_pull n155 in
    let n160 : ℕ = none rti in
    let n134 : ℕ = both is_pull n160 in
    let n162 : ℕ = either n16 n17 in
    let odd_mode : ℕ = either n162 n18 in
    let n147 : ℕ = none odd_mode in
    let load_y : ℕ = both n92 n147 in
    let n148 : ℕ = none odd_mode in
    let load_x : ℕ = both n93 n148 in
    let n163 : ℕ = either n22 n23 in
    let compare_y : ℕ = either n163 n24 in
    let n164 : ℕ = either n25 n26 in
    let compare_x : ℕ = either n164 n27 in
    let n165 : ℕ = either compare_y compare_x in
    let compare : ℕ = either n165 compare_a in
    let test : ℕ = either n29 n30 in
    let sums : ℕ = either adc sbc in
    let n166 : ℕ = either load_a load_x in
    let n167 : ℕ = either n166 load_y in
    let n168 : ℕ = either n167 compare in
    let n169 : ℕ = either n168 test in
    let n170 : ℕ = either n169 or_a in
    let n171 : ℕ = either n170 and_a in
    let n172 : ℕ = either n171 xor_a in
    let takes : ℕ = either n172 sums in
    let n173 : ℕ = either n36 n37 in
    let n174 : ℕ = either n173 n38 in
    let n175 : ℕ = either n174 n39 in
    let n176 : ℕ = either n175 n40 in
    let n177 : ℕ = either n176 n41 in
    let stores : ℕ = either n177 n95 in
    let n181 : ℕ = either n54 n55 in
    let n182 : ℕ = either n181 n56 in
    let n183 : ℕ = either n182 n57 in
    let n98 : ℕ = both group2 n183 in
    let n184 : ℕ = either n58 n59 in
    let n151 : ℕ = none n184 in
    let changes : ℕ = both n98 n151 in
    let n145 : ℕ = both is_data changes in
    let n159 : ℕ = none changes in
    let n132 : ℕ = both is_data n159 in
    let n185 : ℕ = either takes stores in
    let named : ℕ = either n185 changes in
    let zero_page : ℕ = both named n68 in
    let absolute : ℕ = both named n69 in
    let n99 : ℕ = both named group1 in
    let indirect_x : ℕ = both n99 n70 in
    let n100 : ℕ = both named group1 in
    let indirect_y : ℕ = both n100 n71 in
    let zero_page_i : ℕ = both named n72 in
    let n186 : ℕ = either n73 n101 in
    let absolute_i : ℕ = both named n186 in
    let n126 : ℕ = both is_second absolute_i in
    let n127 : ℕ = both is_second absolute_i in
    let n187 : ℕ = either n76 n77 in
    let n103 : ℕ = both group2 n187 in
    let by_y : ℕ = either n102 n103 in
    let n188 : ℕ = either tax tay in
    let n189 : ℕ = either n188 txa in
    let n190 : ℕ = either n189 tya in
    let n191 : ℕ = either n190 tsx in
    let transfer : ℕ = either n191 txs in
    let n192 : ℕ = either inx iny in
    let n193 : ℕ = either n192 dex in
    let count : ℕ = either n193 dey in
    let n194 : ℕ = either transfer count in
    let n212 : ℕ = either tax tay in
    let n213 : ℕ = either txa txs in
    let n216 : ℕ = either load_a and_a in
    let n217 : ℕ = either n216 or_a in
    let n218 : ℕ = either n217 xor_a in
    let n219 : ℕ = either n218 sums in
    let n220 : ℕ = either n219 txa in
    let n221 : ℕ = either n220 tya in
    let n223 : ℕ = either load_x tax in
    let n224 : ℕ = either n223 tsx in
    let n225 : ℕ = either n224 inx in
    let to_x : ℕ = either n225 dex in
    let n226 : ℕ = either load_y tay in
    let n227 : ℕ = either n226 iny in
    let to_y : ℕ = either n227 dey in
    let n232 : ℕ = either test sums in
    let to_v : ℕ = either n232 clv in
    let n237 : ℕ = either clc sec in
    let n239 : ℕ = either absolute absolute_i in
    let n248 : ℕ = either cld sed in
    let n249 : ℕ = either cli sei in
    let n251 : ℕ = either zero_page_i indirect_x in
    let n256 : ℕ = either pha php in
    let n137 : ℕ = both sync n256 in
    let n257 : ℕ = either pla plp in
    let n258 : ℕ = either n257 rti in
    let n138 : ℕ = both sync n258 in
    let n259 : ℕ = either absolute absolute_i in
    let n260 : ℕ = either n259 jmp in
    let n261 : ℕ = either n260 jump_at in
    let n262 : ℕ = either n261 jsr in
    let n139 : ℕ = both is_first n262 in
    let n263 : ℕ = either indirect_x indirect_y in
    let n140 : ℕ = both is_first n263 in
    let n264 : ℕ = either zero_page zero_page_i in
    let n141 : ℕ = both is_first n264 in
    let n265 : ℕ = either absolute absolute_i in
    let n142 : ℕ = both is_second n265 in
    let n266 : ℕ = lt (part 5 3 op) 4 in
    let shift_a : ℕ = both n97 n266 in
    let alters : ℕ = either shift_a changes in
    let asl : ℕ = both alters n60 in
    let rol : ℕ = both alters n61 in
    let lsr : ℕ = both alters n62 in
    let ror : ℕ = both alters n63 in
    let dec : ℕ = both alters n64 in
    let inc : ℕ = both alters n65 in
    let n195 : ℕ = either n194 shift_a in
    let n196 : ℕ = either n195 clc in
    let n197 : ℕ = either n196 sec in
    let n198 : ℕ = either n197 cli in
    let n199 : ℕ = either n198 sei in
    let n200 : ℕ = either n199 clv in
    let n201 : ℕ = either n200 cld in
    let n202 : ℕ = either n201 sed in
    let one_byte : ℕ = either n202 nop in
    let n104 : ℕ = both sync one_byte in
    let n128 : ℕ = both sync one_byte in
    let n222 : ℕ = either n221 shift_a in
    let to_a : ℕ = either n222 pla in
    let n228 : ℕ = either to_a to_x in
    let n229 : ℕ = either n228 to_y in
    let n230 : ℕ = either n229 compare in
    let n231 : ℕ = either n230 test in
    let to_nz : ℕ = either n231 changes in
    let n233 : ℕ = either inc dec in
    let n153 : ℕ = none n233 in
    let n108 : ℕ = both alters n153 in
    let n234 : ℕ = either compare n108 in
    let n235 : ℕ = either n234 sums in
    let n236 : ℕ = either n235 clc in
    let to_c : ℕ = either n236 sec in
    let n238 : ℕ = either lsr ror in
    let n337 : ℕ = mux group1 n66 n67 in
    let immediate : ℕ = both takes n337 in
    let n105 : ℕ = both is_first immediate in
    let n129 : ℕ = both is_first immediate in
    let n203 : ℕ = either immediate zero_page in
    let n204 : ℕ = either n203 absolute in
    let n205 : ℕ = either n204 indirect_x in
    let n206 : ℕ = either n205 indirect_y in
    let n207 : ℕ = either n206 zero_page_i in
    let n208 : ℕ = either n207 absolute_i in
    let n209 : ℕ = either n208 branch in
    let n210 : ℕ = either n209 jmp in
    let n211 : ℕ = either n210 jump_at in
    let has_first : ℕ = either n211 jsr in
    let n135 : ℕ = both sync has_first in
    let n214 : ℕ = either n104 n105 in
    let n215 : ℕ = either n214 n106 in
    let acts : ℕ = either n215 n107 in
    let n116 : ℕ = both acts to_a in
    let n117 : ℕ = both acts to_x in
    let n118 : ℕ = both acts to_y in
    let n119 : ℕ = both acts txs in
    let n120 : ℕ = both acts to_nz in
    let n121 : ℕ = both acts to_v in
    let n122 : ℕ = both acts n248 in
    let n123 : ℕ = both acts n249 in
    let n124 : ℕ = both acts to_nz in
    let n125 : ℕ = both acts to_c in
    let n302 : ℕ = mux n123 sei n301 in
    let n303 : ℕ = mux pulls_flags (part 2 1 pins.din) n302 in
    let n304 : ℕ = mux pins.step n303 cpu.i in
    let n305 : ℕ = mux pins.reset cpu.i n304 in
    let n306 : ℕ = mux n122 sed cpu.d in
    let n307 : ℕ = mux pulls_flags (part 3 1 pins.din) n306 in
    let n308 : ℕ = mux pins.step n307 cpu.d in
    let n309 : ℕ = mux pins.reset cpu.d n308 in
    let index : ℕ = mux by_y cpu.y cpu.x in
    let indexed : ℕ = add 16 (joined 8 cpu.low pins.din) index in
    let n11 : ℕ = add 8 pins.din index in
    let addend : ℕ = mux sbc n335 pins.din in
    let n1 : ℕ = add 9 cpu.a addend in
    let sum : ℕ = add 9 n1 cpu.c in
    let n2 : ℕ = add 5 (part 0 4 cpu.a) (part 0 4 addend) in
    let lower : ℕ = add 5 n2 cpu.c in
    let lower_6 : ℕ = add 4 (part 0 4 lower) 6 in
    let lower_10 : ℕ = add 4 (part 0 4 lower) 10 in
    let upper : ℕ = add 5 (part 4 4 cpu.a) (part 4 4 addend) in
    let n78 : ℕ = eq (part 7 1 cpu.a) (part 7 1 addend) in
    let n86 : ℕ = ge lower 10 in
    let n87 : ℕ = ge lower 16 in
    let carried : ℕ = mux n86 (joined 4 lower_6 1) lower in
    let borrowed : ℕ = mux n87 lower lower_10 in
    let n338 : ℕ = mux sbc borrowed carried in
    let digits : ℕ = add 9 (joined 4 0 upper) n338 in
    let digits_96 : ℕ = add 8 (part 0 8 digits) 96 in
    let digits_160 : ℕ = add 8 (part 0 8 digits) 160 in
    let over : ℕ = ge digits 160 in
    let n339 : ℕ = mux over digits_96 (part 0 8 digits) in
    let n340 : ℕ = mux (part 8 1 sum) (part 0 8 digits) digits_160 in
    let decimal : ℕ = mux adc n339 n340 in
    let n341 : ℕ = mux compare_x cpu.x cpu.a in
    let compared : ℕ = mux compare_y cpu.y n341 in
    let n89 : ℕ = ge compared pins.din in
    let n336 : ℕ = sub 8 compared pins.din in
    let old : ℕ = mux shift_a cpu.a pins.din in
    let doubled : ℕ = add 8 old old in
    let n3 : ℕ = add 8 doubled cpu.c in
    let n90 : ℕ = ge old 128 in
    let n344 : ℕ = mux cpu.d decimal (part 0 8 sum) in
    let n360 : ℕ = mux dey n9 pins.din in
    let n359 : ℕ = mux dex n8 n360 in
    let n358 : ℕ = mux iny n7 n359 in
    let n357 : ℕ = mux inx n6 n358 in
    let n356 : ℕ = mux tsx cpu.s n357 in
    let n355 : ℕ = mux tya cpu.y n356 in
    let n354 : ℕ = mux n213 cpu.x n355 in
    let n353 : ℕ = mux n212 cpu.a n354 in
    let n352 : ℕ = mux dec n5 n353 in
    let n351 : ℕ = mux inc n4 n352 in
    let n350 : ℕ = mux ror (joined 7 (part 1 7 old) cpu.c) n351 in
    let n349 : ℕ = mux lsr (part 1 7 old) n350 in
    let n348 : ℕ = mux rol n3 n349 in
    let n347 : ℕ = mux asl doubled n348 in
    let n346 : ℕ = mux compare n336 n347 in
    let n345 : ℕ = mux sums n344 n346 in
    let told : ℕ = mux n109 digits sum in
    let n79 : ℕ = eq (part 7 1 cpu.a) (part 7 1 told) in
    let n154 : ℕ = none n79 in
    let n110 : ℕ = both n78 n154 in
    let n365 : ℕ = mux clv 0 n110 in
    let new_v : ℕ = mux test n88 n365 in
    let n310 : ℕ = mux n121 new_v cpu.v in
    let n311 : ℕ = mux pulls_flags (part 6 1 pins.din) n310 in
    let n312 : ℕ = mux pins.step n311 cpu.v in
    let n313 : ℕ = mux pins.reset cpu.v n312 in
    let n366 : ℕ = mux n111 over (part 8 1 sum) in
    let n369 : ℕ = mux n238 (part 0 1 old) n90 in
    let n368 : ℕ = mux n237 sec n369 in
    let n367 : ℕ = mux sums n366 n368 in
    let new_c : ℕ = mux compare n89 n367 in
    let n293 : ℕ = mux n125 new_c cpu.c in
    let n294 : ℕ = mux pulls_flags (part 0 1 pins.din) n293 in
    let n295 : ℕ = mux pins.step n294 cpu.c in
    let n296 : ℕ = mux pins.reset cpu.c n295 in
    let after : ℕ = mux n239 pc3 pc2 in
    let n371 : ℕ = mux n82 cpu.c cpu.z in
    let n372 : ℕ = mux n81 cpu.v n371 in
    let flag : ℕ = mux n80 cpu.n n372 in
    let taken : ℕ = eq flag (part 5 1 op) in
    let n393 : ℕ = mux n251 n11 pins.din in
    let n394 : ℕ = mux indirect_y (part 0 8 pointed) cpu.high in
    let n283 : ℕ = mux is_point_high n394 n282 in
    let n284 : ℕ = mux n126 (part 0 8 indexed) n283 in
    let n285 : ℕ = mux is_first n393 n284 in
    let n286 : ℕ = mux pins.step n285 cpu.low in
    let n287 : ℕ = mux pins.reset cpu.low n286 in
    let n395 : ℕ = mux indirect_y (part 8 8 pointed) pins.din in
    let n276 : ℕ = mux is_point_high n395 cpu.high in
    let n277 : ℕ = mux n254 pins.din n276 in
    let n278 : ℕ = mux n127 (part 8 8 indexed) n277 in
    let n279 : ℕ = mux is_first 0 n278 in
    let n280 : ℕ = mux pins.step n279 cpu.high in
    let n281 : ℕ = mux pins.reset cpu.high n280 in
    let n398 : ℕ = mux taken target pc2 in
    let n408 : ℕ = mux n134 pc1 n409 in
    let n407 : ℕ = mux is_push pc1 n408 in
    let n406 : ℕ = mux is_jump_high (joined 8 cpu.back pins.din) n407 in
    let n405 : ℕ = mux is_pull_high n12 n406 in
    let n404 : ℕ = mux n133 (joined 8 cpu.low pins.din) n405 in
    let n403 : ℕ = mux is_call_low (joined 8 cpu.low cpu.high) n404 in
    let n402 : ℕ = mux is_back after n403 in
    let n401 : ℕ = mux n132 after n402 in
    let n400 : ℕ = mux n131 (joined 8 cpu.low pins.din) n401 in
    let n399 : ℕ = mux n130 n398 n400 in
    let n397 : ℕ = mux n129 pc2 n399 in
    let n396 : ℕ = mux n128 pc1 n397 in
    let n318 : ℕ = mux pins.step n396 cpu.pc in
    let n319 : ℕ = mux pins.reset cpu.pc n318 in
    let n427 : ℕ = mux n146 11 n428 in
    let n426 : ℕ = mux is_pull_low 12 n427 in
    let n425 : ℕ = mux is_call_high 10 n426 in
    let n424 : ℕ = mux n145 8 n425 in
    let n423 : ℕ = mux is_point_high 7 n424 in
    let n422 : ℕ = mux is_point_low 6 n423 in
    let n421 : ℕ = mux is_jump_low 18 n422 in
    let n420 : ℕ = mux n144 17 n421 in
    let n419 : ℕ = mux n143 9 n420 in
    let n418 : ℕ = mux n142 7 n419 in
    let n417 : ℕ = mux n141 7 n418 in
    let n416 : ℕ = mux n140 5 n417 in
    let n415 : ℕ = mux n139 4 n416 in
    let n414 : ℕ = mux n138 20 n415 in
    let n413 : ℕ = mux n137 19 n414 in
    let n412 : ℕ = mux n136 11 n413 in
    let n411 : ℕ = mux n135 3 n412 in
    let n410 : ℕ = mux is_nmi_high 13 n411 in
    let n291 : ℕ = mux pins.step n410 cpu.state in
    let n292 : ℕ = mux pins.reset 0 n291 in
    let n432 : ℕ = bit_xor cpu.a pins.din in
    let n343 : ℕ = mux xor_a n432 n345 in
    let n342 : ℕ = mux or_a n267 n343 in
    let result : ℕ = mux and_a n13 n342 in
    let n273 : ℕ = mux is_data result n272 in
    let n274 : ℕ = mux pins.step n273 cpu.back in
    let n275 : ℕ = mux pins.reset cpu.back n274 in
    let n321 : ℕ = mux n119 result n320 in
    let n322 : ℕ = mux pulls s1 n321 in
    let n323 : ℕ = mux pushes n10 n322 in
    let n324 : ℕ = mux pins.step n323 cpu.s in
    let n325 : ℕ = mux pins.reset cpu.s n324 in
    let n326 : ℕ = mux n118 result cpu.y in
    let n327 : ℕ = mux pins.step n326 cpu.y in
    let n328 : ℕ = mux pins.reset cpu.y n327 in
    let n329 : ℕ = mux n117 result cpu.x in
    let n330 : ℕ = mux pins.step n329 cpu.x in
    let n331 : ℕ = mux pins.reset cpu.x n330 in
    let n332 : ℕ = mux n116 result cpu.a in
    let n333 : ℕ = mux pins.step n332 cpu.a in
    let n334 : ℕ = mux pins.reset cpu.a n333 in
    let n361 : ℕ = mux sums (part 0 8 sum) result in
    let n362 : ℕ = mux test n14 n361 in
    let new_z : ℕ = none n362 in
    let n297 : ℕ = mux n124 new_z cpu.z in
    let n298 : ℕ = mux pulls_flags (part 1 1 pins.din) n297 in
    let n299 : ℕ = mux pins.step n298 cpu.z in
    let n300 : ℕ = mux pins.reset cpu.z n299 in
    let n363 : ℕ = mux sums (part 0 8 told) result in
    let n364 : ℕ = mux test pins.din n363 in
    let new_n : ℕ = ge n364 128 in
    let n314 : ℕ = mux n120 new_n cpu.n in
    let n315 : ℕ = mux pulls_flags (part 7 1 pins.din) n314 in
    let n316 : ℕ = mux pins.step n315 cpu.n in
    let n317 : ℕ = mux pins.reset cpu.n n316 in
    record {
      a = n334;
      x = n331;
      y = n328;
      s = n325;
      pc = n319;
      n = n317;
      v = n313;
      d = n309;
      i = n305;
      z = n300;
      c = n296;
      state = n292;
      ir = n290;
      low = n287;
      high = n281;
      back = n275;
      was = n271;
      due = n269;
    }
