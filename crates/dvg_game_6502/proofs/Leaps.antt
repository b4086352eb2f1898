-- Which instruction an opcode's kind is of.
use Rattle.std.proofs.Common.{◌≡◌, ◌⊎◌, inl, inr, ℕ, ◌+◌, ◌≤◌, true, false, refl, sym, ap, ◌∙◌, subst}
use Rattle.std.specs.Prelude.{None, nat_eq}
use Rattle.dvg_calls_6502.specs.Processor
use Rattle.dvg_calls_6502.specs.Processor.{Instr, Mode, Immediate, ZeroPage, ZeroPageX, ZeroPageY, Absolute, AbsoluteX}
use Rattle.dvg_calls_6502.specs.Processor.{AbsoluteY, IndexedIndirect, IndirectIndexed}
use Rattle.dvg_game_rules.specs.Kinds.{Sets, Kind, Quiet, Reads, Transfer, Stores, Push, PushFlags, Pull, PullFlags, Branch}
use Rattle.dvg_game_rules.specs.Kinds.{Jump, Call, Return, Finish, Wild, kind, storing, taking}
use Rattle.dvg_game_rules.specs.Machine.{State, calling, is_driver, reset_vector, restarting, word_at}
use Rattle.dvg_game_rules.specs.Safe.{ComesBack, InCase, IsCalled, IsSafeBy}
use Rattle.dvg_game_6502.specs.Games.{may_call}
use Rattle.dvg_game_6502.proofs.CheckerFollows.{is_finish}

-- a jump, a call, an RTI, or another one
pub data Leap : Type 0 where
  jumps : Leap
  calls : Leap
  resumes : Leap
  stays : Leap

abbrev leap : Kind → Leap
leap Jump = jumps
leap Call = calls
leap Finish = resumes
leap kind = stays

takes : (sets : Sets) (mode : Mode) → leap (taking sets mode) ≡ stays
takes sets Immediate = refl
takes sets _ = refl

stores : (mode : Mode) → leap (storing mode) ≡ stays
stores Immediate = refl
stores _ = refl

-- the instruction of such a kind
abbrev Is : Leap → Instr → Type 0
Is jumps i = i ≡ Processor.Jump
Is calls i = i ≡ Processor.Call
Is resumes i = i ≡ Processor.Resume
Is stays i = Unit {0}

stayed : (i : Instr) (l : Leap) → l ≡ stays → Is l i
stayed i stays is = tt
stayed i _ is = absurd (cc)

one : (i : Instr) → Is (leap (kind i)) i
one (Processor.Load r mode) = stayed (Processor.Load r mode) _ (takes _ mode)
one (Processor.Store r mode) = stayed (Processor.Store r mode) _ (stores mode)
one (Processor.And mode) = stayed (Processor.And mode) _ (takes _ mode)
one (Processor.Or mode) = stayed (Processor.Or mode) _ (takes _ mode)
one (Processor.Xor mode) = stayed (Processor.Xor mode) _ (takes _ mode)
one (Processor.Add mode) = stayed (Processor.Add mode) _ (takes _ mode)
one (Processor.Subtract mode) = stayed (Processor.Subtract mode) _ (takes _ mode)
one (Processor.Compare r mode) = stayed (Processor.Compare r mode) _ (takes _ mode)
one (Processor.TestBits mode) = stayed (Processor.TestBits mode) _ (takes _ mode)
one (Processor.Change mode by) = stayed (Processor.Change mode by) _ (stores mode)
one (Processor.ShiftAt shift mode) = stayed (Processor.ShiftAt shift mode) _ (stores mode)
one Processor.Jump = refl
one Processor.Call = refl
one Processor.Resume = refl
one _ = tt

pub call_is : (i : Instr) → kind i ≡ Call → i ≡ Processor.Call
call_is i is = subst (λ k. Is (leap k) i) is (one i)

pub jump_is : (i : Instr) → kind i ≡ Jump → i ≡ Processor.Jump
jump_is i is = subst (λ k. Is (leap k) i) is (one i)

pub resume_is : (i : Instr) → kind i ≡ Finish → i ≡ Processor.Resume
resume_is i is = subst (λ k. Is (leap k) i) is (one i)

pub finishing : (kind : Kind) → is_finish kind ≡ true → kind ≡ Finish
finishing Finish is = refl
finishing _ is = absurd (cc)

-- the driver is called by a JMP or a JSR
pub by_leap : (kind : Kind) (st : State) → calling kind st ≡ true → (kind ≡ Call) ⊎ (kind ≡ Jump)
by_leap Jump st is = inr refl
by_leap Call st is = inl refl
by_leap _ st is = absurd (cc)

-- and that is allowed
pub is_called : (kind : Kind) (st : State) → IsSafeBy kind st → restarting kind st ≡ false → calling kind st ≡ true
    → IsCalled st (word_at st.mem (st.pc + 1))
is_called kind st safe go is = by (by_leap kind st is)
  where
    to : ℕ
    to = word_at st.mem (st.pc + 1)

    jsr : IsSafeBy Call st → calling Call st ≡ true → IsCalled st to
    jsr safe is = subst (λ t. InCase t (IsCalled st to) (2 ≤ st.s)) is safe

    jmp : IsSafeBy Jump st → restarting Jump st ≡ false → calling Jump st ≡ true → IsCalled st to
    jmp safe go is = (subst (λ t. InCase t (IsCalled st to × ComesBack st) (Unit {0})) is
        (subst (λ t. InCase t (st.amid ≡ None) (InCase (is_driver to) (IsCalled st to × ComesBack st)
        (Unit {0}))) go safe)).0

    by : (kind ≡ Call) ⊎ (kind ≡ Jump) → IsCalled st to
    by (inl call) = jsr (subst (λ k. IsSafeBy k st) call safe) (sym (ap (λ k. calling k st) call) ∙ is)
    by (inr jump) = jmp (subst (λ k. IsSafeBy k st) jump safe) (sym (ap (λ k. restarting k st) jump) ∙ go)
        (sym (ap (λ k. calling k st) jump) ∙ is)

-- that rests on the bytes of the instruction alone
pub calling_same : (kind : Kind) (one two : State) → word_at one.mem (one.pc + 1) ≡ word_at two.mem (two.pc + 1)
    → calling kind one ≡ calling kind two
calling_same Jump one two same = ap is_driver same
calling_same Call one two same = ap is_driver same
calling_same _ one two same = refl

pub restarting_same : (kind : Kind) (one two : State) → word_at one.mem (one.pc + 1) ≡ word_at two.mem (two.pc + 1)
    → word_at one.mem reset_vector ≡ word_at two.mem reset_vector → restarting kind one ≡ restarting kind two
restarting_same Jump one two same reset = ap (λ w. nat_eq w (word_at one.mem reset_vector)) same
    ∙ ap (λ w. nat_eq (word_at two.mem (two.pc + 1)) w) reset
restarting_same _ one two same reset = refl

pub calling_may : (kind : Kind) (st : State) → calling kind st ≡ true → may_call kind ≡ true
calling_may kind st is = by (by_leap kind st is)
  where
    by : (kind ≡ Call) ⊎ (kind ≡ Jump) → may_call kind ≡ true
    by (inl call) = ap may_call call
    by (inr jump) = ap may_call jump
