-- Where a draft's run can go, and what is wrong there. A call leads to its target, and to the place
-- after it, whether or not the called part returns. So a draft may be refused for a part that no
-- run would come to.
use Rattle.std.specs.Prelude.{◌≡◌, ℕ, suc, ◌+◌, ◌≤◌, List, [], ◌∷◌, length, Option, Some, None, slice_get}
use Rattle.dvg_code.specs.declared.instr.Instr.{Instr}
use Rattle.dvg_code.specs.declared.instr.Instr.TheVariants.{Labs}
use Rattle.dvg_code.specs.Spelling.{Spells, IsFirst, word_count}
use Rattle.dvg_code.specs.Acts.{Act, Moves, Jumps, Calls, Returns, Halts, act_by}
use Rattle.dvg_mem.specs.Memory.{rom_word}
use Rattle.dvg_frame.specs.declared.op.OpKind.{OpKind}
use Rattle.dvg_frame.specs.declared.op.OpKind.TheVariants.{Draw, CallRom, JumpRom, Call, Jump, Return, Halt as Stop}
use Rattle.dvg_frame.specs.declared.place.Place.{Place}
use Rattle.dvg_frame.specs.declared.place.Place.TheVariants.{InFrame, InRom}
use Rattle.dvg_frame.specs.declared.fault.FrameFault.{FrameFault}
use Rattle.dvg_frame.specs.declared.fault.FrameFault.TheVariants.{RunsOff, OutOfRom, TooDeep, NoCaller}
use Rattle.dvg_frame.specs.Layout.{size}

-- the words of a memory from this address on spell this instruction
pub data SpelledAt (mem : ℕ → Option ℕ) : ℕ → Instr → Type 0 where
  one : {a word : ℕ} {instr : Instr} → mem a ≡ Some word → Spells instr (word ∷ []) → SpelledAt mem a instr
  two : {a first second : ℕ} {instr : Instr} → mem a ≡ Some first → mem (a + 1) ≡ Some second
      → Spells instr (first ∷ second ∷ []) → SpelledAt mem a instr

-- how an operation leads on
abbrev pub op_act : OpKind → Act Place
op_act (Draw instr) = Moves instr
op_act (CallRom a) = Calls (InRom a)
op_act (JumpRom a) = Jumps (InRom a)
op_act (Call j) = Calls (InFrame j)
op_act (Jump j) = Jumps (InFrame j)
op_act Return = Returns
op_act Stop = Halts

-- what stands at a place, and the place after it
pub data Stands (F : List OpKind) (R : List ℕ) : Place → Act Place → Place → Type 0 where
  in_frame : {i : ℕ} {op : OpKind} {act : Act Place} → slice_get F i ≡ Some op → act ≡ op_act op
      → Stands F R (InFrame i) act (InFrame (i + 1))
  in_rom : {a : ℕ} {instr : Instr} {act : Act Place} → SpelledAt (rom_word R) a instr → act ≡ act_by InRom instr
      → Stands F R (InRom a) act (InRom (a + word_count instr))

-- a vector, a LABS or a call goes on at the place after it
abbrev pub GoesPast : Act Place → Type 0
GoesPast (Moves instr) = Unit {0}
GoesPast (Calls to) = Unit {0}
GoesPast _ = ⊥

-- a jump or a call names this place
abbrev pub Names : Act Place → Place → Type 0
Names (Jumps to) p = to ≡ p
Names (Calls to) p = to ≡ p
Names _ p = ⊥

-- this fault holds at a pair of place and depth
pub data Bad (F : List OpKind) (R : List ℕ) : Place → ℕ → FrameFault → Type 0 where
  -- the last operation goes on at the place after it
  last : {i d : ℕ} {act : Act Place} {after : Place} → Stands F R (InFrame i) act after → GoesPast act
      → i + 1 ≡ length F → Bad F R (InFrame i) d (RunsOff i)
  -- a jump or a call names an address at which the ROM has no word
  target : {p after : Place} {d : ℕ} {act : Act Place} (a : ℕ) → Stands F R p act after → Names act (InRom a)
      → rom_word R a ≡ None → Bad F R p d (OutOfRom p)
  -- a second word lies outside the ROM
  second : {a d word : ℕ} → rom_word R a ≡ Some word → IsFirst word → rom_word R (a + 1) ≡ None
      → Bad F R (InRom a) d (OutOfRom (InRom a))
  -- the place after, at which a ROM word goes on, lies outside the ROM
  past : {a b d : ℕ} {act : Act Place} → Stands F R (InRom a) act (InRom b) → GoesPast act → rom_word R b ≡ None
      → Bad F R (InRom a) d (OutOfRom (InRom a))
  -- a call while four are open
  deep : {p to after : Place} {d : ℕ} → Stands F R p (Calls to) after → d ≡ 4 → Bad F R p d (TooDeep p)
  -- a return while no call is open
  bare : {p after : Place} {d : ℕ} → Stands F R p Returns after → d ≡ 0 → Bad F R p d (NoCaller p)

-- no fault holds at the pair
abbrev pub IsFine : List OpKind → List ℕ → Place → ℕ → Type 0
IsFine F R p d = (fault : FrameFault) → ¬ Bad F R p d fault

-- one step, from a pair to a pair
pub data Leads (F : List OpKind) (R : List ℕ) : Place → ℕ → Place → ℕ → Type 0 where
  -- a vector or a LABS leads to the place after it
  on : {p q : Place} {d : ℕ} {instr : Instr} → Stands F R p (Moves instr) q → Leads F R p d q d
  jump : {p q after : Place} {d : ℕ} → Stands F R p (Jumps q) after → Leads F R p d q d
  -- a call leads to its target one deeper, and to the place after it
  call : {p q after : Place} {d : ℕ} → Stands F R p (Calls q) after → Leads F R p d q (suc d)
  back : {p q after : Place} {d : ℕ} → Stands F R p (Calls q) after → Leads F R p d after d

-- a finite list of steps leads to the pair, from operation 0 at depth 0; a pair with a fault leads nowhere
pub data Reached (F : List OpKind) (R : List ℕ) : Place → ℕ → Type 0 where
  begin : Reached F R (InFrame 0) 0
  step : {p q : Place} {d e : ℕ} → Reached F R p d → IsFine F R p d → Leads F R p d q e → Reached F R q e

-- operation 0 is a LABS
pub data BeginsWithLabs : List OpKind → Type 0 where
  labs : {x y scale : ℕ} {ops : List OpKind} → BeginsWithLabs (Draw (Labs x y scale) ∷ ops)

-- operation i names one that the draft doesn't have
pub data Misses (F : List OpKind) : ℕ → Type 0 where
  misses : {i j : ℕ} {op : OpKind} → slice_get F i ≡ Some op → Names (op_act op) (InFrame j) → length F ≤ j → Misses F i

-- the draft has none of the faults 1 to 4
pub record IsWellFormed (F : List OpKind) : Type 0 where
  pub begins : BeginsWithLabs F
  pub fits : size F ≤ 511
  pub targets : (i : ℕ) → ¬ Misses F i

-- and none of the faults 5 to 8 over the ROM
pub record Closed (F : List OpKind) (R : List ℕ) : Type 0 where
  pub begins : IsWellFormed F
  pub fine : (p : Place) (d : ℕ) → Reached F R p d → IsFine F R p d
