-- The faults that are looked for first, by one operation. Only private contracts cite this.
use Rattle.std.specs.Prelude.{ℕ, ◌≤◌}
use Rattle.dvg_gen.specs.Obeyed.{IsLabs}
use Rattle.dvg_frame.specs.declared.op.OpKind.{OpKind}
use Rattle.dvg_frame.specs.declared.op.OpKind.TheVariants.{Draw, CallRom, JumpRom, Call, Jump, Return, Halt as Stop}

-- the operation is a LABS
abbrev pub DrawsLabs : OpKind → Type 0
DrawsLabs (Draw instr) = IsLabs instr
DrawsLabs (CallRom a) = ⊥
DrawsLabs (JumpRom a) = ⊥
DrawsLabs (Call j) = ⊥
DrawsLabs (Jump j) = ⊥
DrawsLabs Return = ⊥
DrawsLabs Stop = ⊥

-- the operation names one that isn't among this many
abbrev pub NamesNone : ℕ → OpKind → Type 0
NamesNone count (Draw instr) = ⊥
NamesNone count (CallRom a) = ⊥
NamesNone count (JumpRom a) = ⊥
NamesNone count (Call j) = count ≤ j
NamesNone count (Jump j) = count ≤ j
NamesNone count Return = ⊥
NamesNone count Stop = ⊥
