-- Calls that are decided.
use Rattle.std.proofs.Common.{◌≡◌, ℕ, inl, inr, ◌+◌, ◌-◌, ◌%◌, ◌<◌, Bool, true, false, ◌∷◌, refl, ap, ◌∙◌, subst, arith}
use Rattle.std.proofs.Common.{eqb-true, sym}
use Rattle.std.specs.Prelude.{nat_eq, nat_le, ◌&&◌, ◌||◌, if◌then◌else◌}
use Rattle.dvg_calls_6502.specs.Processor.{Cpu, Reads, run, turn, at_return, decoded, opcodes, does, next, carrying}
use Rattle.dvg_calls_6502.specs.Board.{IsLoaded, seen}
use Rattle.dvg_calls_6502.specs.Amid.{is_code, are_steady, all_in, guards, touches, goes_home}
use Rattle.dvg_calls_6502.specs.Routines.{Put, Pair, Labs, Vector}
use Rattle.dvg_calls_6502.specs.Calls as calls
use Rattle.dvg_calls_6502.specs.Calls.{Routine, entry, finds_busy, is_leaving}
use Rattle.dvg_calls_6502.specs.Decided.{IsDecided, IsRefusing, IsTaking, Decides}
use Rattle.dvg_calls_6502.proofs.ProcessorRuns.{at, returned, run_more, steady_more, and_true}
use Rattle.dvg_calls_6502.proofs.Memory.{laid, page_in, state_is, state_coded, HasCode, both_true}
use Rattle.dvg_calls_6502.proofs.FedByte.{compared}
use Rattle.dvg_calls_6502.proofs.AmidOthers.{comes_out}
use Rattle.std.proofs.lemmas.Bool.{not-true as refuted}

-- a run that ends so is decided
decided : (cpu end : Cpu) (c : Bool) (steps : ℕ) → run cpu.s steps cpu ≡ end → at_return cpu.s end ≡ true → end.c ≡ c
    → seen end.log ≡ seen cpu.log → end.mem ≡ cpu.mem → are_steady is_code cpu.s steps cpu ≡ true
    → is_code end.pc ≡ true → IsDecided cpu c
decided cpu end c steps is back carry quiet kept steady code =
    let there = ap (at_return cpu.s) is ∙ back in
    record {
      steps = steps;
      returns = there;
      carry = ap (λ (k : Cpu). k.c) is ∙ carry;
      shows = ap (λ (k : Cpu). seen k.log) is ∙ quiet;
      kept = ap (λ (k : Cpu). k.mem) is ∙ kept;
      alike = comes_out is_code cpu steps (λ b is. is) there steady (ap (λ (k : Cpu). is_code k.pc) is ∙ code);
    }

module _ (cpu : Cpu) where
  -- it, at a place
  abbrev from : ℕ → Cpu
  from pc = at pc cpu.a cpu.x cpu.y cpu.s cpu.n cpu.z cpu.c cpu.v cpu.d cpu.i (laid (page_in cpu.mem) cpu.mem) cpu.flags cpu.log

  abbrev taken : ℕ → Cpu
  taken pc = record (from pc) { c = false }

  takes1 : IsDecided (from 0x6941) false
  takes1 = decided (from 0x6941) (taken 0x6942) false 1 refl (returned cpu.s (taken 0x6942) refl refl) refl refl refl refl refl

  takes2 : IsDecided (from 0x6953) false
  takes2 = decided (from 0x6953) (taken 0x6954) false 1 refl (returned cpu.s (taken 0x6954) refl refl) refl refl refl refl refl

  takes3 : IsDecided (from 0x6A15) false
  takes3 = decided (from 0x6A15) (taken 0x6A16) false 1 refl (returned cpu.s (taken 0x6A16) refl refl) refl refl refl refl refl

  -- after the comparison of A or Y with what is wanted, and at the return
  abbrev told : (pc byte wanted : ℕ) → Bool → Cpu
  told pc byte wanted t = record (from pc) { n = nat_le 128 ((byte + 256 - wanted) % 256); z = t; c = nat_le wanted byte }

  abbrev refused : (pc byte wanted : ℕ) → Cpu
  refused pc byte wanted = record (from pc) { n = nat_le 128 ((byte + 256 - wanted) % 256); z = false; c = true }

  -- so it is refused, where the instructions are run by computing
  refuses : (pc next home byte wanted : ℕ) → byte < 256 → wanted < 256 → nat_eq byte wanted ≡ false
      → run cpu.s 1 (from pc) ≡ told next byte wanted (nat_eq ((byte + 256 - wanted) % 256) 0)
      → run cpu.s 2 (told next byte wanted false) ≡ refused home byte wanted → at_return cpu.s (refused home byte wanted) ≡ true
      → are_steady is_code cpu.s 1 (from pc) ≡ true → are_steady is_code cpu.s 2 (told next byte wanted false) ≡ true
      → is_code home ≡ true → IsDecided (from pc) true
  refuses pc next home byte wanted small wanted_small other one two back steady1 steady2 code =
      let e = one ∙ ap (told next byte wanted) (compared byte wanted small wanted_small ∙ other) in
      decided (from pc) (refused home byte wanted) true 3
      (run_more cpu.s 1 2 (from pc) ∙ ap (run cpu.s 2) e ∙ two) back refl refl refl
      (steady_more is_code cpu.s 1 2 (from pc) steady1 (ap (are_steady is_code cpu.s 2) e ∙ steady2)) code

  refuses1 : cpu.y < 256 → nat_eq cpu.y 2 ≡ false → IsDecided (from 0x6900) true
  refuses1 small other = refuses 0x6900 0x6902 0x6956 cpu.y 2 small (omega arith) other refl refl
      (returned cpu.s (refused 0x6956 cpu.y 2) refl refl) refl refl refl

  refuses2 : cpu.y < 256 → nat_eq cpu.y 2 ≡ false → IsDecided (from 0x6926) true
  refuses2 small other = refuses 0x6926 0x6928 0x6956 cpu.y 2 small (omega arith) other refl refl
      (returned cpu.s (refused 0x6956 cpu.y 2) refl refl) refl refl refl

  refuses3 : cpu.y < 256 → nat_eq cpu.y 7 ≡ false → IsDecided (from 0x6959) true
  refuses3 small other = refuses 0x6959 0x695B 0x6956 cpu.y 7 small (omega arith) other refl refl
      (returned cpu.s (refused 0x6956 cpu.y 7) refl refl) refl refl refl

  refuses4 : cpu.y < 256 → nat_eq cpu.y 7 ≡ false → IsDecided (from 0x698B) true
  refuses4 small other = refuses 0x698B 0x698D 0x69BF cpu.y 7 small (omega arith) other refl refl
      (returned cpu.s (refused 0x69BF cpu.y 7) refl refl) refl refl refl

  refuses5 : cpu.y < 256 → nat_eq cpu.y 7 ≡ false → IsDecided (from 0x6A02) true
  refuses5 small other = refuses 0x6A02 0x6A04 0x69BF cpu.y 7 small (omega arith) other refl refl
      (returned cpu.s (refused 0x69BF cpu.y 7) refl refl) refl refl refl

  refuses6 : cpu.a < 256 → nat_eq cpu.a 2 ≡ false → IsDecided (from 0x6945) true
  refuses6 small other = refuses 0x6945 0x6947 0x6956 cpu.a 2 small (omega arith) other refl refl
      (returned cpu.s (refused 0x6956 cpu.a 2) refl refl) refl refl refl

  refuses7 : cpu.a < 256 → nat_eq cpu.a 4 ≡ false → IsDecided (from 0x694B) true
  refuses7 small other = refuses 0x694B 0x694D 0x6956 cpu.a 4 small (omega arith) other refl refl
      (returned cpu.s (refused 0x6956 cpu.a 4) refl refl) refl refl refl

-- any state at a place
at_place : (cpu : Cpu) (pc : ℕ) (c : Bool) → cpu.pc ≡ pc → IsLoaded cpu.mem → IsDecided (from cpu pc) c → IsDecided cpu c
at_place cpu pc c is load done = subst (λ (k : Cpu). IsDecided k c) (state_is cpu pc cpu.s is refl load) done

pub decides : Decides
decides cpu load a_small small = (refusing, taking)
  where
    refusing : IsRefusing cpu → IsDecided cpu true
    refusing (inl (inl is, other)) = at_place cpu 0x6900 true is load (refuses1 cpu small other)
    refusing (inl (inr is, other)) = at_place cpu 0x6926 true is load (refuses2 cpu small other)
    refusing (inr (inl (inl is, other))) = at_place cpu 0x6959 true is load (refuses3 cpu small other)
    refusing (inr (inl (inr (inl is), other))) = at_place cpu 0x698B true is load (refuses4 cpu small other)
    refusing (inr (inl (inr (inr is), other))) = at_place cpu 0x6A02 true is load (refuses5 cpu small other)
    refusing (inr (inr (inl (is, other)))) = at_place cpu 0x6945 true is load (refuses6 cpu a_small other)
    refusing (inr (inr (inr (is, other)))) = at_place cpu 0x694B true is load (refuses7 cpu a_small other)

    taking : IsTaking cpu → IsDecided cpu false
    taking (inl is) = at_place cpu 0x6941 false is load (takes1 cpu)
    taking (inr (inl is)) = at_place cpu 0x6953 false is load (takes2 cpu)
    taking (inr (inr is)) = at_place cpu 0x6A15 false is load (takes3 cpu)

-- the first instruction of a call that it refuses
module _ (cpu : Cpu) (has : HasCode cpu.mem) (small : cpu.mem 0x10 < 256) where
  abbrev Turned : Type 0
  Turned = IsDecided (run cpu.s 1 cpu) true × ((run cpu.s 1 cpu).s ≡ cpu.s)

  abbrev phase : ℕ
  phase = cpu.mem 0x10

  -- after its load of Y, and of A
  abbrev with_y : Cpu
  with_y = record cpu { y = phase; n = nat_le 128 phase; z = nat_eq phase 0; log = Reads 0x10 phase ∷ cpu.log }

  abbrev with_a : Cpu
  with_a = record cpu { a = phase; n = nat_le 128 phase; z = nat_eq phase 0; log = Reads 0x10 phase ∷ cpu.log }

  -- it is run by computing
  turned_at : (pc : ℕ) → cpu.pc ≡ pc
      → IsDecided (run cpu.s 1 (from cpu pc)) true × ((run cpu.s 1 (from cpu pc)).s ≡ cpu.s) → Turned
  turned_at pc is done = subst (λ (k : Cpu). IsDecided (run cpu.s 1 k) true × ((run cpu.s 1 k).s ≡ cpu.s))
      (state_coded cpu pc cpu.s is refl has) done

  pub looked : (routine : Routine) → cpu.pc ≡ entry routine → finds_busy routine cpu.mem ≡ true → Turned
  looked (calls.Offer F) is busy = turned_at 0x68FE is (refuses1 with_y small (refuted (nat_eq phase 2) busy), refl)
  looked (calls.Open F) is busy = turned_at 0x6924 is (refuses2 with_y small (refuted (nat_eq phase 2) busy), refl)
  looked calls.Redraw is busy = turned_at 0x6943 is (refuses6 with_a small (refuted (nat_eq phase 2) busy), refl)
  looked (calls.Puts Put) is busy = turned_at 0x6957 is (refuses3 with_y small (refuted (nat_eq phase 7) busy), refl)
  looked (calls.Puts Pair) is busy = turned_at 0x6989 is (refuses4 with_y small (refuted (nat_eq phase 7) busy), refl)
  looked calls.Close is busy = turned_at 0x6A00 is (refuses5 with_y small (refuted (nat_eq phase 7) busy), refl)
  looked _ is busy = absurd (cc)

-- where CLC and RTS are left
module _ (cpu : Cpu) (is : is_leaving cpu.s cpu ≡ true) where
  parts1 : (is_code cpu.pc ≡ true) × ((is_code (cpu.pc + 1) && (nat_eq (cpu.mem cpu.pc) 0x18
      && (nat_eq (cpu.mem (cpu.pc + 1)) 0x60 && nat_eq cpu.s cpu.s))) ≡ true)
  parts1 = both_true (is_code cpu.pc) _ is

  parts2 : (is_code (cpu.pc + 1) ≡ true) × ((nat_eq (cpu.mem cpu.pc) 0x18
      && (nat_eq (cpu.mem (cpu.pc + 1)) 0x60 && nat_eq cpu.s cpu.s)) ≡ true)
  parts2 = both_true (is_code (cpu.pc + 1)) _ parts1.1

  parts3 : (nat_eq (cpu.mem cpu.pc) 0x18 ≡ true)
      × ((nat_eq (cpu.mem (cpu.pc + 1)) 0x60 && nat_eq cpu.s cpu.s) ≡ true)
  parts3 = both_true (nat_eq (cpu.mem cpu.pc) 0x18) _ parts2.1

  clc : cpu.mem cpu.pc ≡ 0x18
  clc = eqb-true (cpu.mem cpu.pc) 0x18 parts3.0

  rts : cpu.mem (cpu.pc + 1) ≡ 0x60
  rts = eqb-true (cpu.mem (cpu.pc + 1)) 0x60 (both_true (nat_eq (cpu.mem (cpu.pc + 1)) 0x60) _ parts3.1).0

  abbrev left : Cpu
  left = carrying false (next 1 cpu)

  abbrev turn_by : ℕ → Cpu
  turn_by byte = if nat_eq byte 0x60 && nat_eq cpu.s cpu.s then cpu else does (decoded opcodes byte) cpu

  abbrev steady_by : ℕ → Bool
  steady_by byte = let instr = decoded opcodes byte in
      is_code cpu.pc && ((nat_eq byte 0x60 && nat_eq cpu.s cpu.s)
      || (all_in (guards is_code cpu.s cpu.s) (touches instr cpu) && goes_home cpu.s instr cpu))

  pub leaving : IsDecided cpu false
  leaving = decided cpu left false 1 (ap turn_by clc) (returned cpu.s left rts refl) refl refl refl
      (ap (λ (t : Bool). t && true) (ap steady_by clc ∙ and_true (is_code cpu.pc) true parts1.0 refl)) parts2.0

-- there a step comes to the return
pub clears : (s : ℕ) (cpu : Cpu) → is_leaving s cpu ≡ true → at_return s (turn s cpu) ≡ true
clears s cpu is = subst (λ q. at_return q (turn q cpu) ≡ true) level
    (ap (at_return cpu.s) (ap (turn_by cpu here) (clc cpu here)) ∙ returned cpu.s (left cpu here) (rts cpu here) refl)
  where
    level : cpu.s ≡ s
    level = eqb-true cpu.s s (both_true (nat_eq (cpu.mem (cpu.pc + 1)) 0x60) (nat_eq cpu.s s)
        (both_true (nat_eq (cpu.mem cpu.pc) 0x18) _ (both_true (is_code (cpu.pc + 1)) _ (both_true (is_code cpu.pc) _ is).1).1).1).1

    here : is_leaving cpu.s cpu ≡ true
    here = subst (λ q. is_leaving q cpu ≡ true) (sym level) is
