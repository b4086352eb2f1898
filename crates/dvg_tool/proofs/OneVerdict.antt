-- Of a text one verdict is given at most.
use Rattle.std.proofs.Common.{◌≡◌, ℕ, List, ap, ap₂, subst, sym, ◌∙◌}
use Rattle.dvg_frame.specs.declared.op.OpKind.{OpKind}
use Rattle.dvg_frame.proofs.OneFault.{accepted_stays, one_fault}
use Rattle.dvg_frame.proofs.Pictures.{one_picture}
use Rattle.dvg_print.specs.declared.verdict.Verdict.{Verdict}
use Rattle.dvg_print.specs.declared.verdict.Verdict.TheVariants.{Good, Refused}
use Rattle.dvg_print.specs.declared.verdict.BoundedVerdict.{BoundedVerdict}
use Rattle.dvg_print.specs.declared.verdict.BoundedVerdict.TheVariants as bounded
use Rattle.dvg_read.specs.RomTexts.{IsRomOf}
use Rattle.dvg_print.specs.Verdicts.{IsBoundedVerdict, IsVerdict}
use Rattle.dvg_tool.specs.Checks.{Judges, JudgesBound, JudgesBy}
use Rattle.dvg_read.proofs.DraftSteps.{one_meaning}
use Rattle.dvg_read.proofs.OneRom.{one_rom}

-- of a draft over a ROM one verdict is right
one_said : (F : List OpKind) (R : List ℕ) (one other : Verdict) → IsVerdict F R one → IsVerdict F R other → other ≡ one
one_said F R (Good words) (Good count) a b = ap Good (b.1 ∙ sym a.1)
one_said F R (Good words) (Refused fault) a b = absurd (accepted_stays F R fault a.0 b)
one_said F R (Refused fault) (Good words) a b = absurd (accepted_stays F R fault b.0 a)
one_said F R (Refused fault) (Refused found) a b = ap Refused (one_fault F R fault found a b)

one_bound_said : (F : List OpKind) (R : List ℕ) (one other : BoundedVerdict) → IsBoundedVerdict F R one → IsBoundedVerdict F R other → other ≡ one
one_bound_said F R (bounded.Good words bound) (bounded.Good count other) a b =
    ap₂ bounded.Good (b.1 ∙ sym a.1) (one_picture F R a.2.0 b.2.0 bound other a.2.1 b.2.1).1
one_bound_said F R (bounded.Good words bound) (bounded.Refused fault) a b = absurd (accepted_stays F R fault a.0 b)
one_bound_said F R (bounded.Refused fault) (bounded.Good words bound) a b = absurd (accepted_stays F R fault b.0 a)
one_bound_said F R (bounded.Refused fault) (bounded.Refused found) a b = ap bounded.Refused (one_fault F R fault found a b)

-- so of a text, where of a draft over a ROM one thing is said at most
one_judged : {V : Type 0} (IsSaid : List OpKind → List ℕ → V → Type 0)
    → ((F : List OpKind) (R : List ℕ) (one other : V) → IsSaid F R one → IsSaid F R other → other ≡ one)
    → (text : List ℕ) (one other : V) → JudgesBy IsSaid text one → JudgesBy IsSaid text other → other ≡ one
one_judged IsSaid once text said also a b =
    let one = a.gives in
    let other = b.gives in
    let (stated, ops) = one_meaning text one.rom other.rom a.F b.F one.denotes other.denotes in
    let rom = one_rom one.rom a.R b.R one.bytes (subst (λ rom. IsRomOf rom b.R) stated other.bytes) in
    once a.F a.R said also a.said (subst (λ R. IsSaid a.F R also) rom (subst (λ F. IsSaid F b.R also) ops b.said))

pub one_verdict : (text : List ℕ) (one other : Verdict) → Judges text one → Judges text other → other ≡ one
one_verdict = one_judged IsVerdict one_said

pub one_bounded_verdict : (text : List ℕ) (one other : BoundedVerdict) → JudgesBound text one → JudgesBound text other → other ≡ one
one_bounded_verdict = one_judged IsBoundedVerdict one_bound_said
