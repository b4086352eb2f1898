-- The cells of core/dvg_game.v as yosys reads them: made by core/cells dvg_game.
use Rattle.std.specs.Prelude.{ℕ, bit_xor}
use Rattle.dvg_cells_core.specs.Cells.{add, both, either, eq, mux, none, part, joined}
use Rattle.dvg_cells_motion.specs.Vectors.{Vectors}
use Rattle.dvg_cells_motion.specs.Vectors as vectors
use Rattle.dvg_cells_cpu.specs.Cpu.{Cpu}
use Rattle.dvg_cells_cpu.specs.Cpu as cpu
use Rattle.dvg_cells_board.specs.Memory.{memrd, memwr}

-- Yosys 0.23, digest 2960fc42f28c222a

-- the registers, the memory code, the memory shapes, the memory work, the vectors, and the cpu
pub record Game : Type 0 where
  -- 2 bits
  pub lamps : ℕ
  -- 1 bit
  pub bank : ℕ
  -- 3 bits
  pub counters : ℕ
  -- 8 bits
  pub explosion : ℕ
  -- 5 bits
  pub thump : ℕ
  -- 6 bits
  pub sounds : ℕ
  -- 1 bit
  pub answers : ℕ
  -- 3 bits
  pub ticked : ℕ
  -- 1 bit
  pub worked : ℕ
  -- 9 bits
  pub beat : ℕ
  -- 4 bits
  pub periods : ℕ
  -- 8 bits
  pub silence : ℕ
  -- 1 bit
  pub bites : ℕ
  -- 8 bits
  pub work_byte : ℕ
  -- 8 bits
  pub code_byte : ℕ
  -- 8 bits
  pub shapes_byte : ℕ
  -- 8,192 bytes
  pub code : ℕ → ℕ
  -- 2,048 bytes
  pub shapes : ℕ → ℕ
  -- 1,024 bytes
  pub work : ℕ → ℕ
  pub vectors : Vectors
  pub cpu : Cpu

-- the pins that are driven from outside
pub record Bus : Type 0 where
  -- 1 bit
  pub reset : ℕ
  -- 1 bit
  pub tick : ℕ
  -- 1 bit
  pub ready : ℕ
  -- 16 bits
  pub held : ℕ
  -- 8 bits
  pub switches : ℕ
  -- what yosys leaves undefined: any number
  pub undefined : ℕ

-- at power-up, with any memories
abbrev pub powered : (ℕ → ℕ) → (ℕ → ℕ) → (ℕ → ℕ) → (ℕ → ℕ) → Game
powered code shapes work ram =
    record {
      lamps = 0;
      bank = 0;
      counters = 0;
      explosion = 0;
      thump = 0;
      sounds = 0;
      answers = 0;
      ticked = 0;
      worked = 0;
      beat = 0;
      periods = 0;
      silence = 0;
      bites = 0;
      work_byte = 0;
      code_byte = 0;
      shapes_byte = 0;
      code = code;
      shapes = shapes;
      work = work;
      vectors = vectors.powered ram;
      cpu = cpu.zeros;
    }

-- what drives the pins of the vectors
abbrev pub drives_vectors : Game → Bus → vectors.Bus
drives_vectors game bus =
    let n27 : ℕ = none game.ticked in
    let taken : ℕ = both bus.tick n27 in
    let n45 : ℕ = none game.answers in
    let n46 : ℕ = none game.answers in
    let restarts : ℕ = either bus.reset game.bites in
    let resets : ℕ = both restarts n45 in
    let n47 : ℕ = none restarts in
    let n41 : ℕ = both n46 n47 in
    let access : ℕ = mux bus.ready n41 0 in
    record {
      tick = taken;
      reset = resets;
      access = access;
      write = (cpu.write game.cpu);
      a = (cpu.at game.cpu);
      d = (cpu.dout game.cpu);
      big = 0;
      rom = game.shapes_byte;
      undefined = bus.undefined;
    }

-- what drives the pins of the cpu
abbrev pub drives_cpu : Game → Bus → cpu.Pins
drives_cpu game bus =
    let nmi : ℕ = eq game.periods 12 in
    let n5 : ℕ = eq (part 11 5 (cpu.at game.cpu)) 8 in
    let n6 : ℕ = eq (cpu.at game.cpu) 8194 in
    let n7 : ℕ = eq (cpu.at game.cpu) 12288 in
    let of_ram : ℕ = none (part 10 6 (cpu.at game.cpu)) in
    let of_input : ℕ = eq (part 11 5 (cpu.at game.cpu)) 4 in
    let of_switch : ℕ = eq (part 10 6 (cpu.at game.cpu)) 10 in
    let n45 : ℕ = none game.answers in
    let n48 : ℕ = either n5 n6 in
    let on_board : ℕ = either n48 n7 in
    let restarts : ℕ = either bus.reset game.bites in
    let resets : ℕ = both restarts n45 in
    let eight : ℕ = mux (part 10 1 (cpu.at game.cpu)) (part 8 8 bus.held) (joined 1 (part 0 1 bus.held) (joined 1 (part 8 1 game.beat) (joined 1 0 (part 3 5 bus.held)))) in
    let four : ℕ = mux (part 2 1 (cpu.at game.cpu)) (part 4 4 eight) (part 0 4 eight) in
    let two : ℕ = mux (part 1 1 (cpu.at game.cpu)) (part 2 2 four) (part 0 2 four) in
    let is_held : ℕ = mux (part 0 1 (cpu.at game.cpu)) (part 1 1 two) (part 0 1 two) in
    let n42 : ℕ = none is_held in
    let pairs : ℕ = mux (part 1 1 (cpu.at game.cpu)) (part 4 4 bus.switches) (part 0 4 bus.switches) in
    let setting : ℕ = mux (part 0 1 (cpu.at game.cpu)) (part 2 2 pairs) (part 0 2 pairs) in
    let n101 : ℕ = mux of_switch (joined 2 setting 63) game.code_byte in
    let n99 : ℕ = mux of_input (joined 1 n42 (joined 1 n42 (joined 1 n42 (joined 1 n42 (joined 1 n42 (joined 1 n42 (joined 1 n42 is_held))))))) n101 in
    let n100 : ℕ = mux of_ram game.work_byte n99 in
    let din : ℕ = mux on_board (vectors.q game.vectors (drives_vectors game bus)) n100 in
    record {
      reset = resets;
      step = game.answers;
      nmi = nmi;
      din = din;
    }

-- the pin `taken`
abbrev pub taken : Game → Bus → ℕ
taken game bus =
    let n27 : ℕ = none game.ticked in
    both bus.tick n27

-- the pin `access`
abbrev pub access : Game → Bus → ℕ
access game bus =
    let n46 : ℕ = none game.answers in
    let restarts : ℕ = either bus.reset game.bites in
    let n47 : ℕ = none restarts in
    let n41 : ℕ = both n46 n47 in
    mux bus.ready n41 0

-- the pin `write`
abbrev pub write : Game → ℕ
write game =
    (cpu.write game.cpu)

-- the pin `a`
abbrev pub a : Game → ℕ
a game =
    (cpu.at game.cpu)

-- the pin `d`
abbrev pub d : Game → ℕ
d game =
    (cpu.dout game.cpu)

-- the pin `halted`
abbrev pub halted : Game → ℕ
halted game =
    (vectors.halted game.vectors)

-- the pin `done`
abbrev pub done : Game → ℕ
done game =
    (vectors.done game.vectors)

-- the pin `fault`
abbrev pub fault : Game → ℕ
fault game =
    (vectors.fault game.vectors)

-- the pin `x`
abbrev pub x : Game → ℕ
x game =
    (vectors.x game.vectors)

-- the pin `y`
abbrev pub y : Game → ℕ
y game =
    (vectors.y game.vectors)

-- the pin `lit`
abbrev pub lit : Game → ℕ
lit game =
    (vectors.lit game.vectors)

-- the pin `z`
abbrev pub z : Game → ℕ
z game =
    (vectors.z game.vectors)

-- the pin `hushes`
abbrev pub hushes : Game → Bus → ℕ
hushes game bus =
    let n8 : ℕ = eq (part 12 4 (cpu.at game.cpu)) 3 in
    let n10 : ℕ = eq (part 9 3 (cpu.at game.cpu)) 7 in
    let n46 : ℕ = none game.answers in
    let restarts : ℕ = either bus.reset game.bites in
    let n47 : ℕ = none restarts in
    let n41 : ℕ = both n46 n47 in
    let access : ℕ = mux bus.ready n41 0 in
    let writes : ℕ = both access (cpu.write game.cpu) in
    let of_output : ℕ = both writes n8 in
    both of_output n10

-- the registers, the memory code, the memory shapes, and the memory work after a clock
abbrev pub clock : Game → Bus → Game
clock game bus =
    let n1 : ℕ = add 9 game.beat 1 in
    let n2 : ℕ = add 4 game.periods 1 in
    let n3 : ℕ = add 8 game.silence 1 in
    let n4 : ℕ = eq game.beat 511 in
    let nmi : ℕ = eq game.periods 12 in
    let of_ram : ℕ = none (part 10 6 (cpu.at game.cpu)) in
    let n8 : ℕ = eq (part 12 4 (cpu.at game.cpu)) 3 in
    let n9 : ℕ = eq (part 9 3 (cpu.at game.cpu)) 2 in
    let n11 : ℕ = eq game.silence 255 in
    let n12 : ℕ = eq (part 9 3 (cpu.at game.cpu)) 1 in
    let n13 : ℕ = eq (part 9 3 (cpu.at game.cpu)) 3 in
    let n14 : ℕ = eq (part 9 3 (cpu.at game.cpu)) 5 in
    let n15 : ℕ = eq (part 9 3 (cpu.at game.cpu)) 6 in
    let n16 : ℕ = none (part 0 3 (cpu.at game.cpu)) in
    let n17 : ℕ = eq (part 9 3 (cpu.at game.cpu)) 6 in
    let n18 : ℕ = eq (part 0 3 (cpu.at game.cpu)) 1 in
    let n19 : ℕ = eq (part 9 3 (cpu.at game.cpu)) 6 in
    let n20 : ℕ = eq (part 0 3 (cpu.at game.cpu)) 2 in
    let n21 : ℕ = eq (part 9 3 (cpu.at game.cpu)) 6 in
    let n22 : ℕ = eq (part 0 3 (cpu.at game.cpu)) 3 in
    let n23 : ℕ = eq (part 9 3 (cpu.at game.cpu)) 6 in
    let n24 : ℕ = eq (part 0 3 (cpu.at game.cpu)) 4 in
    let n25 : ℕ = eq (part 9 3 (cpu.at game.cpu)) 6 in
    let n26 : ℕ = eq (part 0 3 (cpu.at game.cpu)) 5 in
    let n27 : ℕ = none game.ticked in
    let n28 : ℕ = both (part 9 1 (cpu.at game.cpu)) game.bank in
    let n29 : ℕ = both (part 14 1 (cpu.at game.cpu)) (part 13 1 (cpu.at game.cpu)) in
    let n34 : ℕ = both game.bites game.answers in
    let n35 : ℕ = both n15 n16 in
    let n36 : ℕ = both n17 n18 in
    let n37 : ℕ = both n19 n20 in
    let n38 : ℕ = both n21 n22 in
    let n39 : ℕ = both n23 n24 in
    let n40 : ℕ = both n25 n26 in
    let taken : ℕ = both bus.tick n27 in
    let counts : ℕ = both taken game.worked in
    let period : ℕ = both counts n4 in
    let n32 : ℕ = both period n11 in
    let n43 : ℕ = none taken in
    let n31 : ℕ = both game.worked n43 in
    let n45 : ℕ = none game.answers in
    let n46 : ℕ = none game.answers in
    let restarts : ℕ = either bus.reset game.bites in
    let resets : ℕ = both restarts n45 in
    let n47 : ℕ = none restarts in
    let n41 : ℕ = both n46 n47 in
    let n51 : ℕ = either resets (part 7 1 bus.held) in
    let n54 : ℕ = memrd game.shapes (joined 1 (vectors.high game.vectors) (part 0 10 (vectors.at game.vectors))) in
    let n56 : ℕ = mux n40 (part 7 1 (cpu.dout game.cpu)) (part 5 1 game.sounds) in
    let n59 : ℕ = mux n39 (part 7 1 (cpu.dout game.cpu)) (part 4 1 game.sounds) in
    let n62 : ℕ = mux n38 (part 7 1 (cpu.dout game.cpu)) (part 3 1 game.sounds) in
    let n65 : ℕ = mux n37 (part 7 1 (cpu.dout game.cpu)) (part 2 1 game.sounds) in
    let n68 : ℕ = mux n36 (part 7 1 (cpu.dout game.cpu)) (part 1 1 game.sounds) in
    let n71 : ℕ = mux n35 (part 7 1 (cpu.dout game.cpu)) (part 0 1 game.sounds) in
    let n76 : ℕ = mux counts n1 game.beat in
    let n77 : ℕ = mux resets 0 n76 in
    let n78 : ℕ = mux period n3 game.silence in
    let n80 : ℕ = mux n12 (part 3 3 (cpu.dout game.cpu)) game.counters in
    let n83 : ℕ = mux n14 (part 0 5 (cpu.dout game.cpu)) game.thump in
    let n86 : ℕ = mux n13 (cpu.dout game.cpu) game.explosion in
    let n89 : ℕ = mux n12 (part 2 1 (cpu.dout game.cpu)) game.bank in
    let n92 : ℕ = mux n12 (part 0 2 (cpu.dout game.cpu)) game.lamps in
    let n102 : ℕ = mux n29 (part 11 2 (cpu.at game.cpu)) 0 in
    let n53 : ℕ = memrd game.code (joined 11 (part 0 11 (cpu.at game.cpu)) n102) in
    let n103 : ℕ = mux nmi 1 n2 in
    let n74 : ℕ = mux period n103 game.periods in
    let n75 : ℕ = mux n51 0 n74 in
    let access : ℕ = mux bus.ready n41 0 in
    let writes : ℕ = both access (cpu.write game.cpu) in
    let n30 : ℕ = both writes of_ram in
    let of_output : ℕ = both writes n8 in
    let tells : ℕ = both of_output n9 in
    let n44 : ℕ = none tells in
    let n33 : ℕ = both n32 n44 in
    let n49 : ℕ = either access n31 in
    let n50 : ℕ = either n33 n34 in
    let n52 : ℕ = either resets tells in
    let n57 : ℕ = mux of_output n56 (part 5 1 game.sounds) in
    let n58 : ℕ = mux resets 0 n57 in
    let n60 : ℕ = mux of_output n59 (part 4 1 game.sounds) in
    let n61 : ℕ = mux resets 0 n60 in
    let n63 : ℕ = mux of_output n62 (part 3 1 game.sounds) in
    let n64 : ℕ = mux resets 0 n63 in
    let n66 : ℕ = mux of_output n65 (part 2 1 game.sounds) in
    let n67 : ℕ = mux resets 0 n66 in
    let n69 : ℕ = mux of_output n68 (part 1 1 game.sounds) in
    let n70 : ℕ = mux resets 0 n69 in
    let n72 : ℕ = mux of_output n71 (part 0 1 game.sounds) in
    let n73 : ℕ = mux resets 0 n72 in
    let n79 : ℕ = mux n52 0 n78 in
    let n81 : ℕ = mux of_output n80 game.counters in
    let n82 : ℕ = mux resets 0 n81 in
    let n84 : ℕ = mux of_output n83 game.thump in
    let n85 : ℕ = mux resets 0 n84 in
    let n87 : ℕ = mux of_output n86 game.explosion in
    let n88 : ℕ = mux resets 0 n87 in
    let n90 : ℕ = mux of_output n89 game.bank in
    let n91 : ℕ = mux resets 0 n90 in
    let n93 : ℕ = mux of_output n92 game.lamps in
    let n94 : ℕ = mux resets 0 n93 in
    let n95 : ℕ = mux n30 255 0 in
    let n96 : ℕ = mux n30 (cpu.dout game.cpu) (part 0 8 bus.undefined) in
    let n104 : ℕ = bit_xor (part 8 1 (cpu.at game.cpu)) n28 in
    let n55 : ℕ = memrd game.work (joined 8 (part 0 8 (cpu.at game.cpu)) (joined 1 n104 (part 9 1 (cpu.at game.cpu)))) in
    let n97 : ℕ = mux n30 (joined 8 (part 0 8 (cpu.at game.cpu)) (joined 1 n104 (part 9 1 (cpu.at game.cpu)))) (part 0 10 bus.undefined) in
    let n98 : ℕ = mux n30 game.work_byte n55 in
    record {
      lamps = n94;
      bank = n91;
      counters = n82;
      explosion = n88;
      thump = n85;
      sounds = (joined 1 n73 (joined 1 n70 (joined 1 n67 (joined 1 n64 (joined 1 n61 n58)))));
      answers = access;
      ticked = (joined 1 taken (part 0 2 game.ticked));
      worked = n49;
      beat = n77;
      periods = n75;
      silence = n79;
      bites = n50;
      work_byte = n98;
      code_byte = n53;
      shapes_byte = n54;
      code = game.code;
      shapes = game.shapes;
      work = memwr n95 n97 n96 game.work;
      vectors = vectors.clock game.vectors (drives_vectors game bus);
      cpu = cpu.clock game.cpu (drives_cpu game bus);
    }
