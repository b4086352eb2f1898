-- How an instruction leads on.
use Rattle.std.specs.Prelude.{ℕ}
use Rattle.dvg_code.specs.declared.instr.Instr.{Instr}
use Rattle.dvg_code.specs.declared.instr.Instr.TheVariants.{Halt, Jsrl, Rtsl, Jmpl}

-- how an instruction leads on, where P is what names a target
pub data Act (P : Type 0) : Type 0 where
  Moves : (code : Instr) → Act P
  Jumps : (to : P) → Act P
  Calls : (to : P) → Act P
  Returns : Act P
  Halts : Act P

-- the act of an instruction, with the target that this function gives for its address
abbrev pub act_by : {P : Type 0} → (ℕ → P) → Instr → Act P
act_by target Halt = Halts
act_by target (Jsrl address) = Calls (target address)
act_by target Rtsl = Returns
act_by target (Jmpl address) = Jumps (target address)
act_by target code = Moves code

-- the act of an instruction among word addresses
abbrev pub act_of : Instr → Act ℕ
act_of = act_by (λ address. address)
