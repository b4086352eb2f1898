-- A run of examples/first.
use Rattle.std.proofs.Common.{ℕ, refl, false, arith, leb-true, []}
use Rattle.std.specs.Prelude.{None}
use Rattle.dvg_game_rules.specs.Written.{of_list, rom_of}
use Rattle.dvg_game_rules.specs.Machine.{State, Choice, begins, steps, nmi, nmi_within}
use Rattle.dvg_game_rules.specs.First.{bytes, vectors, rom, start}
use Rattle.dvg_game_rules.specs.SomeRun.{SomeRun, nmis, calls_of}

-- all bytes are 0; an NMI may come after a call of the driver, and amid one at its dvg_run
chosen : Choice
chosen = record {
  a = 0;
  x = 0;
  y = 0;
  index = 0;
  byte = 0;
  taken = false;
  left = λ b. 0;
  since = 860;
  place = 0x6809;
  deep = 0;
}

first : (ℕ → ℕ) → State
first other = record {
  a = 0;
  x = 0;
  y = 0;
  pc = start;
  s = 255;
  mem = rom other;
  since = 0;
  calls = [];
  amid = None;
  home = None;
  awake = false;
  blank = false;
}

pub some_run : SomeRun
unfolding of_list rom_of bytes vectors rom chosen first nmis calls_of
some_run other =
    let begun = begins (first other) (record {
      loaded = λ b low high. refl;
      entry = refl;
      stack = refl;
      calls = refl;
      amid = refl;
      home = refl;
      blank = refl;
    }) in
    -- dvg_reset, dvg_run; LDA #0, STA frame, LDY frame, CPY #20, BCS, LDX, LDA; dvg_offer
    let reset = steps chosen begun refl in
    let boots = steps chosen reset refl in
    let zero = steps chosen boots refl in
    let stored = steps chosen zero refl in
    let loaded = steps chosen stored refl in
    let compared = steps chosen loaded refl in
    let below = steps chosen compared refl in
    let high = steps chosen below refl in
    let low = steps chosen high refl in
    let offered = steps chosen low refl in
    -- amid dvg_run an NMI: INC beats, RTI
    let amid = nmi_within chosen offered refl refl (omega arith) in
    let counted = steps chosen amid refl in
    let back = steps chosen counted refl in
    let shown = steps chosen back refl in
    -- and one right after it
    let again = nmi chosen shown (leb-true 860 _ refl) in
    let more = steps chosen again refl in
    let home = steps chosen more refl in (_, home, refl, refl, refl)
