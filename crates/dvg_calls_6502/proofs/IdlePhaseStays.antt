-- Where dvg_offer, dvg_open or dvg_redraw finds the driver idle, the phase stays so until the call is over.
use Rattle.std.proofs.Common.{◌≡◌, ℕ, zero, suc, inl, inr, ◌+◌, ◌<◌, Bool, true, false, List, ◌∷◌, refl, sym, ap, ◌∙◌}
use Rattle.std.proofs.Common.{subst, arith, eqb-true, eq-eqb}
use Rattle.std.specs.Prelude.{nat_eq, ◌&&◌, ◌||◌, ◌⊎◌}
use Rattle.dvg_calls_6502.specs.Processor.{Cpu, Access, run, turn, at_return}
use Rattle.dvg_calls_6502.specs.Amid.{changed, is_kept}
use Rattle.dvg_calls_6502.specs.Routines.{Enters}
use Rattle.dvg_calls_6502.specs.Calls as calls
use Rattle.dvg_calls_6502.specs.Calls.{Routine}
use Rattle.dvg_calls_6502.specs.Decided.{asks, StaysIdle}
use Rattle.dvg_calls_6502.proofs.ProcessorRuns.{at, run_more, and_true}
use Rattle.dvg_calls_6502.proofs.Memory.{laid, page_of, phase_is, both_true}
use Rattle.dvg_calls_6502.proofs.LogsGrow.{Splits, split, stays}
use Rattle.dvg_calls_6502.proofs.Steady.{code_kept}
use Rattle.dvg_calls_6502.proofs.Decided.{clears}
use Rattle.dvg_calls_6502.proofs.Interrupted.{leaves_too}
use Rattle.dvg_calls_6502.proofs.Sessions.{came_of}
use Rattle.std.proofs.lemmas.Bool.{or_left as left_true}

-- the phase is this one before each of so many steps
abbrev pub are_in : (p q n : ℕ) → Cpu → Bool
are_in p q zero cpu = true
are_in p q (suc n) cpu = nat_eq (cpu.mem 0x10) p && are_in p q n (turn q cpu)

in_at : (p q n k : ℕ) (cpu : Cpu) → are_in p q n cpu ≡ true → k < n → (run q k cpu).mem 0x10 ≡ p
in_at p q zero k cpu is less = absurd (omega (arith, less))
in_at p q (suc n) zero cpu is less =
    eqb-true (cpu.mem 0x10) p (both_true (nat_eq (cpu.mem 0x10) p) (are_in p q n (turn q cpu)) is).0
in_at p q (suc n) (suc k) cpu is less = in_at p q n k (turn q cpu)
    (both_true (nat_eq (cpu.mem 0x10) p) (are_in p q n (turn q cpu)) is).1 (omega (arith, less))

in_more : (p q k n : ℕ) (cpu : Cpu) → are_in p q k cpu ≡ true → are_in p q n (run q k cpu) ≡ true
    → are_in p q (n + k) cpu ≡ true
in_more p q zero n cpu one two = let e : n + 0 ≡ n = omega arith in ap (λ j. are_in p q j cpu) e ∙ two
in_more p q (suc k) n cpu one two =
    let e : n + suc k ≡ suc (n + k) = omega arith in
    let both = both_true (nat_eq (cpu.mem 0x10) p) (are_in p q k (turn q cpu)) one in
    ap (λ j. are_in p q j cpu) e
    ∙ and_true (nat_eq (cpu.mem 0x10) p) (are_in p q (n + k) (turn q cpu)) both.0
    (in_more p q k n (turn q cpu) both.1 two)

-- up to where CLC and RTS are left, or to the return
pub record StaysTo (p q : ℕ) (from : Cpu) : Type 0 where
  pub steps : ℕ
  pub so : are_in p q steps from ≡ true
  pub ends : (calls.is_leaving q (run q steps from) ≡ true) ⊎ (at_return q (run q steps from) ≡ true)

pub after : (p q k : ℕ) (from : Cpu) → are_in p q k from ≡ true → StaysTo p q (run q k from) → StaysTo p q from
after p q k from is rest = record {
  steps = rest.steps + k;
  so = in_more p q k rest.steps from is rest.so;
  ends = subst (λ (c : Cpu). (calls.is_leaving q c ≡ true) ⊎ (at_return q c ≡ true)) (sym (run_more q k rest.steps from))
      rest.ends;
}

module _ (a x y s : ℕ) (n z c v d i : Bool) (free publish next t0 t1 pages end second f0 f1 : ℕ) (mem flags : ℕ → ℕ)
    (log : List Access) where
  abbrev from : ℕ → Cpu
  from pc = at pc a x y s n z c v d i (laid (page_of 2 free publish next t0 t1 pages end second f0 f1) mem) flags log

  same_s : nat_eq s s ≡ true
  same_s = eq-eqb s s refl

  open_idles : StaysTo 2 s (from 0x6924)
  open_idles = record { steps = 15; so = refl; ends = inl same_s }

  -- with what the comparison of `publish` tells
  told : Bool → Cpu
  told t = record (run s 5 (from 0x6943)) { z = t }

  redraw_told : (t : Bool) → StaysTo 2 s (told t)
  unfolding told
  redraw_told true = record { steps = 3; so = refl; ends = inl same_s }
  redraw_told false = record { steps = 2; so = refl; ends = inr same_s }

  redraw_idles : StaysTo 2 s (from 0x6943)
  unfolding told
  redraw_idles = after 2 s 5 (from 0x6943) refl (redraw_told (run s 5 (from 0x6943)).z)

  -- with what the second INC of `end` tells
  counted : Bool → Cpu
  counted t = record (run s 15 (from 0x68FE)) { z = t }

  offer_counted : (t : Bool) → StaysTo 2 s (counted t)
  unfolding counted
  offer_counted true = record { steps = 14; so = refl; ends = inl same_s }
  offer_counted false = record { steps = 13; so = refl; ends = inl same_s }

  offer_idles : StaysTo 2 s (from 0x68FE)
  unfolding counted
  offer_idles = after 2 s 15 (from 0x68FE) refl (offer_counted (run s 15 (from 0x68FE)).z)

stays_to : (routine : Routine) (cpu : Cpu) → Enters cpu (calls.entry routine) → asks routine ≡ true → cpu.mem 0x10 ≡ 2
    → StaysTo 2 cpu.s cpu
stays_to (calls.Offer F) cpu enters is idle = subst (StaysTo 2 cpu.s) (phase_is cpu 0x68FE 2 enters.entry idle enters.loaded)
    (offer_idles cpu.a cpu.x cpu.y cpu.s cpu.n cpu.z cpu.c cpu.v cpu.d cpu.i (cpu.mem 0x11) (cpu.mem 0x12) (cpu.mem 0x13)
    (cpu.mem 0x14) (cpu.mem 0x15) (cpu.mem 0x16) (cpu.mem 0x17) (cpu.mem 0x18) (cpu.mem 0x19) (cpu.mem 0x1A) cpu.mem
    cpu.flags cpu.log)
stays_to (calls.Open F) cpu enters is idle = subst (StaysTo 2 cpu.s) (phase_is cpu 0x6924 2 enters.entry idle enters.loaded)
    (open_idles cpu.a cpu.x cpu.y cpu.s cpu.n cpu.z cpu.c cpu.v cpu.d cpu.i (cpu.mem 0x11) (cpu.mem 0x12) (cpu.mem 0x13)
    (cpu.mem 0x14) (cpu.mem 0x15) (cpu.mem 0x16) (cpu.mem 0x17) (cpu.mem 0x18) (cpu.mem 0x19) (cpu.mem 0x1A) cpu.mem
    cpu.flags cpu.log)
stays_to calls.Redraw cpu enters is idle = subst (StaysTo 2 cpu.s) (phase_is cpu 0x6943 2 enters.entry idle enters.loaded)
    (redraw_idles cpu.a cpu.x cpu.y cpu.s cpu.n cpu.z cpu.c cpu.v cpu.d cpu.i (cpu.mem 0x11) (cpu.mem 0x12) (cpu.mem 0x13)
    (cpu.mem 0x14) (cpu.mem 0x15) (cpu.mem 0x16) (cpu.mem 0x17) (cpu.mem 0x18) (cpu.mem 0x19) (cpu.mem 0x1A) cpu.mem
    cpu.flags cpu.log)
stays_to _ cpu enters is idle = absurd (cc)

-- after k steps the phase is so, or CLC and RTS are left, or the run has returned
module _ (p q : ℕ) (from : Cpu) (stays_so : StaysTo p q from) (k : ℕ) where
  abbrev Now : Type 0
  Now = ((run q k from).mem 0x10 ≡ p)
      ⊎ ((calls.is_leaving q (run q k from) ≡ true) ⊎ (at_return q (run q k from) ≡ true))

  abbrev there : Cpu
  there = run q stays_so.steps from

  past : (j : ℕ) → (calls.is_leaving q there ≡ true) ⊎ (at_return q there ≡ true)
      → (calls.is_leaving q (run q j there) ≡ true) ⊎ (at_return q (run q j there) ≡ true)
  past j (inr back) = inr (ap (at_return q) (stays q j there back) ∙ back)
  past zero (inl leaves) = inl leaves
  past (suc j) (inl leaves) =
      let back = clears q there leaves in inr (ap (at_return q) (stays q j (turn q there) back) ∙ back)

  now : Now
  now = by (split k stays_so.steps)
    where
      above : (j : ℕ) → k ≡ j + stays_so.steps → Now
      above j is =
          let on : run q k from ≡ run q j there = ap (λ i. run q i from) is ∙ run_more q stays_so.steps j from in
          inr (subst (λ (c : Cpu). (calls.is_leaving q c ≡ true) ⊎ (at_return q c ≡ true)) (sym on)
          (past j stays_so.ends))

      by : Splits k stays_so.steps → Now
      by (inr more) = above more.0 more.1
      by (inl (zero, is)) = above 0 (omega (arith, is))
      by (inl (suc i, is)) = inl (in_at p q stays_so.steps k from stays_so.so (omega (arith, is)))

one_of : (t u w : Bool) → ((t ≡ true) ⊎ (w ≡ true)) → (t || (u || w)) ≡ true
one_of true u w is = refl
one_of false true w is = refl
one_of false false true is = refl
one_of false false false (inl is) = is
one_of false false false (inr is) = is

module _ (call : calls.Call) (more : List calls.Call) (session : calls.IsSession (call ∷ more)) where
  abbrev pl : Cpu
  pl = run call.from.s call.steps call.from

  abbrev tables : ℕ → Bool
  tables = calls.is_table call more

  is_same : (b : ℕ) → is_kept tables b ≡ true → (calls.after call).mem b ≡ pl.mem b
  is_same b kept = let same = (came_of call more session).same in
      ap (λ (k : Cpu). k.mem b) same.same ∙ same.keeps b (left_true (is_kept tables b) _ kept)

  over : (calls.has_returned call ≡ true) ⊎ (calls.is_leaving call.from.s (calls.after call) ≡ true)
      → calls.is_over call ≡ true
  over is = one_of (calls.has_returned call) (calls.is_refused call) (calls.is_leaving call.from.s (calls.after call)) is

  phase_at : (p : ℕ) → calls.is_over call ≡ false
      → (pl.mem 0x10 ≡ p) ⊎ ((calls.is_leaving call.from.s pl ≡ true) ⊎ (at_return call.from.s pl ≡ true))
      → (calls.after call).mem 0x10 ≡ p
  phase_at p open_yet (inl phase) = is_same 0x10 refl ∙ phase
  phase_at p open_yet (inr (inl leaves)) =
      let same = (came_of call more session).same in
      let also = leaves_too call.from.s (is_kept tables) (calls.after call) pl pl.mem (λ b code. code_kept tables b code)
      (sym (ap (changed pl.mem) same.same)) (λ b kept. sym (is_same b kept)) leaves in
      absurd (let e = sym open_yet ∙ over (inr also) in cc)
  phase_at p open_yet (inr (inr back)) =
      absurd (let e = sym open_yet ∙ over (inl ((came_of call more session).returned ∙ back)) in cc)

-- where the plain run stays so, the call does
pub call_stays : (p : ℕ) (call : calls.Call) (more : List calls.Call) → calls.IsSession (call ∷ more)
    → StaysTo p call.from.s call.from → calls.is_over call ≡ false → (calls.after call).mem 0x10 ≡ p
call_stays p call more session to open_yet =
    phase_at call more session p open_yet (now p call.from.s call.from to call.steps)

pub stays_idle : StaysIdle
stays_idle call more session is idle open_yet =
    call_stays 2 call more session (stays_to call.routine call.from session.0 is idle) open_yet
