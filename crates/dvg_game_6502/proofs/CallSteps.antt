-- A step of a call of the driver leads to what is noted, and writes only what it may.
use Rattle.std.proofs.Common.{◌≡◌, ◌⊎◌, inl, inr, ℕ, suc, ◌+◌, ◌*◌, ◌/◌, ◌%◌, ◌<◌, ◌≤◌, Bool, true}
use Rattle.std.proofs.Common.{false, refl, sym, ap, ◌∙◌, subst, arith, eq-eqb, leb-true, le-leb, Some}
use Rattle.std.proofs.lemmas.Bool.{and_from, ne_eqb}
use Rattle.std.specs.Prelude.{nat_eq, nat_lt, nat_le, ◌&&◌, ◌||◌, not, if◌then◌else◌}
use Rattle.dvg_calls_6502.specs.Processor.{Cpu, at_return, decoded, does, opcodes, put, stack_place, step}
use Rattle.dvg_calls_6502.specs.Processor.{target, turn, word_at}
use Rattle.dvg_calls_6502.specs.Amid.{is_code}
use Rattle.dvg_game_rules.proofs.Facts.{both_true}
use Rattle.dvg_game_6502.specs.Stays.{is_written}
use Rattle.dvg_game_6502.proofs.Claims.{AreHard, Also, Claim, Did, Holds, HoldsIn, MeansIn, Nothing, Ready}
use Rattle.dvg_game_6502.proofs.Claims.{is_known, is_touched, length_of}
use Rattle.dvg_game_6502.proofs.Rules.{kept, straight_known}
use Rattle.dvg_game_6502.proofs.RuleEffects.{known}
use Rattle.dvg_game_6502.proofs.Forks.{Forked, dropped, fork_known, forked, weakened, weaker_known}
use Rattle.dvg_game_6502.proofs.Notes.{noted, outer}
use Rattle.dvg_game_6502.proofs.Rows.{Row, Serves, alone, byte_at, calls, forks, goes_on, jumps, returns, row_of, to}
use Rattle.dvg_game_6502.proofs.CallPlaces.{Good, Level, all_rows, apart, below, code_untouched, home, noted_is_code}
use Rattle.dvg_game_6502.proofs.CallPlaces.{stack_untouched}

-- what a step leaves
pub record Turned (awake : Bool) (s : ℕ) (cpu new : Cpu) : Type 0 where
  pub good : Good awake s new
  pub kept : (b : ℕ) → is_written s b ≡ false → new.mem b ≡ cpu.mem b

-- the level stays
levelled : (s : ℕ) (one two : Bool) (cpu new : Cpu) → (not one || two) ≡ true → new.s ≡ cpu.s
    → ((k : ℕ) → new.mem (stack_place k) ≡ cpu.mem (stack_place k)) → Level s one cpu → Level s two new
levelled s one two cpu new implies same stack (home is) = home (same ∙ is)
levelled s one two cpu new implies same stack (below is small up back) =
    below (sym (ap (λ (t : Bool). not t || two) is) ∙ implies)
    (subst (λ (j : ℕ). j < 256) (sym same) small)
    (ap (λ j. (j + 2) % 256) same ∙ up)
    (ap (λ j. noted ((word_at new.mem (stack_place (j + 1)) (stack_place (j + 2)) + 1) % 65536))
    same
    ∙ ap (λ w. noted ((w + 256 * new.mem (stack_place (cpu.s + 2)) + 1) % 65536))
    (stack (cpu.s + 1))
    ∙ ap (λ w. noted ((cpu.mem (stack_place (cpu.s + 1)) + 256 * w + 1) % 65536))
    (stack (cpu.s + 2)) ∙ back)

module _ (awake : Bool) (s : ℕ) (few : s < 256) (cpu : Cpu) (good : Good awake s cpu)
    (onward : at_return s cpu ≡ false) where
  abbrev here : ℕ
  here = cpu.pc

  abbrev new_by : ℕ → Cpu
  new_by op = does (decoded opcodes op) cpu

  is_in : is_code here ≡ true
  is_in = noted_is_code here good.note good.here

  -- the bytes behind the opcode
  next_code : (k : ℕ) → k ≤ 2 → nat_lt (here + 2) 0x6A87 ≡ true → cpu.mem (here + k) ≡ byte_at (here + k)
  next_code k small room = good.coded (here + k)
      (and_from (nat_le 0x6800 (here + k)) (nat_lt (here + k) 0x6A87) (le-leb 0x6800 (here + k) low)
      (le-leb (suc (here + k)) 0x6A87 high))
    where
      low : 0x6800 ≤ here + k
      low = let two = both_true (nat_le 0x6800 here) (nat_lt here 0x6A87) is_in in let e =
          leb-true 0x6800 here two.0 in omega arith

      high : suc (here + k) ≤ 0x6A87
      high = let e = leb-true (suc (here + 2)) 0x6A87 room in omega arith

  -- a step that leaves all but what may be touched, where its note serves
  serves : (new : Cpu) (within : Bool) (claim : Claim) (also : Also) (at : ℕ) → new.pc ≡ at → new.s ≡ cpu.s
      → new.mem 0x13 < 256 → HoldsIn claim new.mem → MeansIn also new
      → ((b : ℕ) → is_touched b ≡ false → new.mem b ≡ cpu.mem b) → Level s within cpu
      → (awake ≡ true → is_known claim ≡ true) → Serves within claim also at → Turned awake s cpu new
  serves new within claim also at pc same place holds means spares level aware
      (to {note = note} there implies weaker drops) = record {
        good = record {
          coded = λ b is. spares b (code_untouched b is) ∙ good.coded b is;
          place = place;
          note = note;
          here = ap noted pc ∙ there;
          level = levelled s within note.inner cpu new implies same
              (λ k. spares (stack_place k) (stack_untouched k)) level;
          claim = weakened weaker new.mem holds;
          also = dropped drops new means;
          aware = λ is. weaker_known weaker (aware is);
        };
        kept = λ b off. spares b (apart s b off).0;
      }

  jump_to : nat_lt (here + 2) 0x6A87 ≡ true → Serves good.note.inner good.note.claim good.note.also
      (byte_at (here + 1) + 256 * byte_at (here + 2)) → Turned awake s cpu (new_by 0x4C)
  jump_to room there = serves (new_by 0x4C) good.note.inner good.note.claim good.note.also
      (byte_at (here + 1) + 256 * byte_at (here + 2))
      (ap (λ b. b + 256 * cpu.mem (here + 2)) (next_code 1 (omega arith) room)
      ∙ ap (λ b. byte_at (here + 1) + 256 * b)
      (next_code 2 (omega arith) room)) refl good.place good.claim good.also
      (λ b off. refl) good.level good.aware there

  branch_to : {taken : Claim} {one : Also} {passed : Claim} {two : Also} → nat_lt (here + 2) 0x6A87 ≡ true
      → Forked cpu (new_by (byte_at here)) taken one passed two
      → (awake ≡ true → (is_known taken ≡ true) × (is_known passed ≡ true))
      → Serves good.note.inner taken one (target here (byte_at (here + 1)))
      → Serves good.note.inner passed two (here + 2) → Turned awake s cpu (new_by (byte_at here))
  branch_to {taken = taken} {one = one} {passed = passed} {two = two} room did aware yonder next =
      by did.goes
    where
      place : (new_by (byte_at here)).mem 0x13 < 256
      place = subst (λ (m : ℕ → ℕ). m 0x13 < 256) (sym did.mem) good.place

      by : (((new_by (byte_at here)).pc ≡ target here (cpu.mem (here + 1))) × HoldsIn taken cpu.mem
          × MeansIn one (new_by (byte_at here)))
          ⊎ (((new_by (byte_at here)).pc ≡ here + 2) × HoldsIn passed cpu.mem
          × MeansIn two (new_by (byte_at here)))
          → Turned awake s cpu (new_by (byte_at here))
      by (inl is) = serves (new_by (byte_at here)) good.note.inner taken one
          (target here (byte_at (here + 1)))
          (is.0 ∙ ap (target here) (next_code 1 (omega arith) room)) did.s place
          (subst (λ (m : ℕ → ℕ). HoldsIn taken m) (sym did.mem) is.1) is.2
          (λ b off. ap (λ (m : ℕ → ℕ). m b) did.mem) good.level (λ is. (aware is).0) yonder
      by (inr is) = serves (new_by (byte_at here)) good.note.inner passed two
          (here + 2) is.0 did.s place
          (subst (λ (m : ℕ → ℕ). HoldsIn passed m) (sym did.mem) is.1) is.2
          (λ b off. ap (λ (m : ℕ → ℕ). m b) did.mem) good.level (λ is. (aware is).1) next

  -- a call pushes two bytes, and goes on where its address says
  call_to : nat_lt (here + 2) 0x6A87 ≡ true → good.note.inner ≡ false
      → Serves true good.note.claim Nothing (byte_at (here + 1) + 256 * byte_at (here + 2))
      → noted (here + 3) ≡ Some (outer Ready Nothing) → Turned awake s cpu (new_by 0x20)
  call_to room not_within (to {note = note} there implies weaker drops) back = by good.level
    where
      far : (b : ℕ) → nat_eq b (stack_place cpu.s) ≡ false → nat_eq b (stack_place (cpu.s + 255)) ≡ false
          → (new_by 0x20).mem b ≡ cpu.mem b
      far b one two =
          kept (stack_place (cpu.s + 255)) ((here + 2) % 256)
          (put (stack_place cpu.s) ((here + 2) / 256) cpu.mem) b two
          ∙ kept (stack_place cpu.s) ((here + 2) / 256) cpu.mem b one

      off : (b k : ℕ) → (b < 0x100) ⊎ (0x200 ≤ b) → nat_eq b (stack_place k) ≡ false
      off b k (inl less) = ne_eqb b (stack_place k) (λ same. absurd (omega arith))
      off b k (inr above) = ne_eqb b (stack_place k) (λ same. absurd (omega arith))

      own : (b : ℕ) → (b < 0x100) ⊎ (0x200 ≤ b) → (new_by 0x20).mem b ≡ cpu.mem b
      own b out = far b (off b cpu.s out) (off b (cpu.s + 255) out)

      by : Level s good.note.inner cpu → Turned awake s cpu (new_by 0x20)
      by (below is small up returns_to) = absurd (let e = sym is ∙ not_within in cc)
      by (home same) = record {
        good = record {
          coded = λ b is. own b (inr (beyond b is)) ∙ good.coded b is;
          place = subst (λ (j : ℕ). j < 256) (sym (own 0x13 (inl (omega arith)))) good.place;
          note = note;
          here = ap noted (ap (λ b. b + 256 * cpu.mem (here + 2)) (next_code 1 (omega arith) room)
              ∙ ap (λ b. byte_at (here + 1) + 256 * b) (next_code 2 (omega arith) room)) ∙ there;
          level = below implies (omega arith) (level_up same) word;
          claim = weakened weaker (new_by 0x20).mem
              (subst (λ j. Holds good.note.claim j ((new_by 0x20).mem 0x14)
              ((new_by 0x20).mem 0x15))
              (sym (own 0x10 (inl (omega arith))))
              (subst (λ j. Holds good.note.claim (cpu.mem 0x10) j ((new_by 0x20).mem 0x15))
              (sym (own 0x14 (inl (omega arith))))
              (subst (λ j. Holds good.note.claim (cpu.mem 0x10) (cpu.mem 0x14) j)
              (sym (own 0x15 (inl (omega arith)))) good.claim)));
          also = dropped drops (new_by 0x20) tt;
          aware = λ is. weaker_known weaker (good.aware is);
        };
        kept = λ b out. let three = apart s b out in
            far b (ap (λ j. nat_eq b (stack_place j)) same ∙ three.1)
            (ap (λ j. nat_eq b (stack_place (j + 255))) same ∙ three.2);
      }
        where
          beyond : (b : ℕ) → is_code b ≡ true → 0x200 ≤ b
          beyond b is = let two = both_true (nat_le 0x6800 b) (nat_lt b 0x6A87) is in
              let e = leb-true 0x6800 b two.0 in omega arith

          level_up : cpu.s ≡ s → ((cpu.s + 254) % 256 + 2) % 256 ≡ s
          level_up same = omega arith

          first : stack_place ((cpu.s + 254) % 256 + 1) ≡ stack_place (cpu.s + 255)
          first = omega arith

          second : stack_place ((cpu.s + 254) % 256 + 2) ≡ stack_place cpu.s
          second = omega arith

          differ : nat_eq (stack_place cpu.s) (stack_place (cpu.s + 255)) ≡ false
          differ = ne_eqb (stack_place cpu.s) (stack_place (cpu.s + 255)) (λ same. absurd (omega arith))

          low_there : (new_by 0x20).mem (stack_place ((cpu.s + 254) % 256 + 1)) ≡ (here + 2) % 256
          low_there = ap (new_by 0x20).mem first
              ∙ ap (λ (t : Bool). if t then (here + 2) % 256 else put (stack_place cpu.s)
              ((here + 2) / 256) cpu.mem
              (stack_place (cpu.s + 255)))
              (eq-eqb (stack_place (cpu.s + 255)) (stack_place (cpu.s + 255)) refl)

          high_there : (new_by 0x20).mem (stack_place ((cpu.s + 254) % 256 + 2)) ≡ (here + 2) / 256
          high_there = ap (new_by 0x20).mem second
              ∙ ap (λ (t : Bool). if t then (here + 2) % 256 else put (stack_place cpu.s)
              ((here + 2) / 256) cpu.mem
              (stack_place cpu.s)) differ
              ∙ ap (λ (t : Bool). if t then (here + 2) / 256 else cpu.mem (stack_place cpu.s))
              (eq-eqb (stack_place cpu.s) (stack_place cpu.s) refl)

          whole : ((here + 2) % 256 + 256 * ((here + 2) / 256) + 1) % 65536 ≡ here + 3
          whole = let e = leb-true (suc (here + 2)) 0x6A87 room in omega arith

          word : noted ((word_at (new_by 0x20).mem (stack_place ((cpu.s + 254) % 256 + 1))
              (stack_place ((cpu.s + 254) % 256 + 2)) + 1) % 65536) ≡ Some (outer Ready Nothing)
          word = ap (λ b. noted ((b + 256 * (new_by 0x20).mem
              (stack_place ((cpu.s + 254) % 256 + 2)) + 1) % 65536))
              low_there
              ∙ ap (λ b. noted (((here + 2) % 256 + 256 * b + 1) % 65536)) high_there
              ∙ ap noted whole ∙ back

  return_to : byte_at here ≡ 0x60 → HoldsIn Ready cpu.mem → Turned awake s cpu (new_by 0x60)
  return_to is ready = by good.level
    where
      by : Level s good.note.inner cpu → Turned awake s cpu (new_by 0x60)
      by (home same) = absurd (
          let opcode : nat_eq (cpu.mem here) 0x60 ≡ true =
          eq-eqb (cpu.mem here) 0x60 (good.coded here is_in ∙ is) in
          let level : nat_eq cpu.s s ≡ true = eq-eqb cpu.s s same in
          let e = sym onward ∙ ap (λ (t : Bool). t && nat_eq cpu.s s) opcode ∙ level in cc)
      by (below within small up back) = record {
        good = record {
          coded = good.coded;
          place = good.place;
          note = outer Ready Nothing;
          here = back;
          level = home up;
          claim = ready;
          also = tt;
          aware = λ is. refl;
        };
        kept = λ b off. refl;
      }

  stepped : AreHard (step cpu).log → Turned awake s cpu (step cpu)
  stepped hard = subst (λ o. Turned awake s cpu (new_by o)) (sym opcode)
      (by (row_of all_rows here good.note good.here)
      (subst (λ o. AreHard (new_by o).log) opcode hard))
    where
      opcode : cpu.mem here ≡ byte_at here
      opcode = good.coded here is_in

      straight : {claim : Claim} {also : Also} → Did (length_of (decoded opcodes (byte_at here))) cpu
          (new_by (byte_at here)) claim also → (awake ≡ true → is_known claim ≡ true)
          → Serves good.note.inner claim also (here + length_of (decoded opcodes (byte_at here)))
          → Turned awake s cpu (new_by (byte_at here))
      straight {claim = claim} {also = also} did aware there =
          serves (new_by (byte_at here)) good.note.inner claim also
          (here + length_of (decoded opcodes
          (byte_at here))) did.pc did.s did.place did.claim did.also did.spares
          good.level aware there

      by : Row here good.note → AreHard (new_by (byte_at here)).log → Turned awake s cpu (new_by (byte_at here))
      by (goes_on room rule there) hard =
          straight (known cpu good.place rule (next_code 1 (omega arith) room)
          (next_code 2 (omega arith) room) good.claim good.also hard)
          (λ is. straight_known rule (good.aware is)) there
      by (alone rule there) hard =
          straight (known cpu good.place (rule (cpu.mem (here + 1)) (cpu.mem (here + 2))) refl
          refl good.claim good.also hard) (λ is. straight_known (rule 0 0) (good.aware is)) there
      by (forks room rule yonder next) hard = branch_to room (forked cpu rule good.claim good.also)
          (λ is. fork_known rule (good.aware is)) yonder next
      by (jumps room is there) hard = subst (λ o. Turned awake s cpu (new_by o)) (sym is) (jump_to room there)
      by (calls room is within there back) hard =
          subst (λ o. Turned awake s cpu (new_by o)) (sym is) (call_to room within there back)
      by (returns is weaker) hard =
          subst (λ o. Turned awake s cpu (new_by o)) (sym is)
          (return_to is (weakened weaker cpu.mem good.claim))

pub turned : (awake : Bool) (s : ℕ) → s < 256 → (cpu : Cpu) → Good awake s cpu
    → AreHard (turn s cpu).log → Turned awake s cpu (turn s cpu)
turned awake s few cpu good hard = by (at_return s cpu) refl hard
  where
    by : (t : Bool) → at_return s cpu ≡ t → AreHard (if t then cpu else step cpu).log
        → Turned awake s cpu (if t then cpu else step cpu)
    by true is hard = record { good = good; kept = λ b off. refl }
    by false is hard = stepped awake s few cpu good is hard
