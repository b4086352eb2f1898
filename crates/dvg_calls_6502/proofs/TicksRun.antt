-- dvg_ticks: this many ticks.
use Rattle.std.proofs.Common.{◌≡◌, ◌≢◌, ℕ, zero, suc, inl, inr, ◌+◌, ◌%◌, ◌<◌, ◌≤◌, Bool, true, false, List, ◌∷◌}
use Rattle.std.proofs.Common.{◌++◌, refl, sym, ap, ◌∙◌, subst, arith, leb-true}
use Rattle.std.proofs.lemmas.Bool.{ne_eqb}
use Rattle.std.specs.Prelude.{nat_eq, nat_le, nat_lt, ◌⊎◌, if◌then◌else◌}
use Rattle.dvg_driver.specs.Script.{Item}
use Rattle.dvg_calls_6502.specs.Processor.{Cpu, Access, Reads, Writes, put, run, at_return, stack_place}
use Rattle.dvg_calls_6502.specs.Board.{IsLoaded, seen, is_own, is_hardware}
use Rattle.dvg_calls_6502.specs.Amid.{is_kept, is_code, are_steady}
use Rattle.dvg_calls_6502.proofs.ProcessorRuns.{at, run_more, returned, steady_more}
use Rattle.dvg_calls_6502.proofs.Memory.{AreSmall, laid, page_in, known, loaded, put_out, put_small, both_true, state_is, small_page}
use Rattle.dvg_calls_6502.proofs.LifeByAccesses.{Claim, GoesTo, Stretch, idle_stretch, finish, go_on}
use Rattle.dvg_calls_6502.proofs.TickCall.{GoesByTicks, TurnedTo, tick_call_to, past_low}

-- a stretch, and steps after it that touch no hardware
abbrev pub extend : (begin stop q : ℕ) (cpu : Cpu) (k more : ℕ) (life : List Item) → Stretch begin stop q cpu k life
    → seen (run q more (run q k cpu)).log ≡ seen (run q k cpu).log
    → ((tables : ℕ → Bool) → are_steady (is_kept tables) q more (run q k cpu) ≡ true)
    → Stretch begin stop q cpu (more + k) life
extend begin stop q cpu k more life made quiet steady = record {
  items = made.items;
  accesses = made.accesses;
  shown = made.shown;
  placed = made.placed;
  logged = ap (λ (c : Cpu). seen c.log) (run_more q k more cpu) ∙ quiet ∙ made.logged;
  steady = λ tables covers. steady_more (is_kept tables) q k more cpu (made.steady tables covers) (steady tables);
}

pub page_small : (mem : ℕ → ℕ) → IsLoaded mem → AreSmall (page_in mem)
page_small mem load = small_page (load.bytes 0x10) (load.bytes 0x11) (load.bytes 0x12) (load.bytes 0x13)
    (load.bytes 0x14) (load.bytes 0x15) (load.bytes 0x16) (load.bytes 0x17) (load.bytes 0x18) (load.bytes 0x19)
    (load.bytes 0x1A)

-- what holds where only the count of dvg_ticks was changed
count_stood : (P : Claim) (begin stop : ℕ) → GoesByTicks P begin stop → (mem : ℕ → ℕ) (r : ℕ) (life : List Item)
    → r < 256 → P mem life → P (laid (page_in mem) (put 0x1F r mem)) life
count_stood P begin stop goes mem r life small stood = goes.stays mem (laid (page_in mem) (put 0x1F r mem)) life stood
    (loaded (page_in mem) (put 0x1F r mem) (page_small mem load) (put_small 0x1F r mem small load.bytes))
    (λ b own. let high = leb-true (suc b) 0x1B (both_true (nat_le 0x10 b) (nat_lt b 0x1B) own).1 in
    same b (λ is. absurd (omega arith)))
    (λ b ram. let low = leb-true 0x4000 b (both_true (nat_le 0x4000 b) (nat_lt b 0x4800) ram).0 in
    same b (λ is. absurd (omega arith)))
    (λ writing b low high far device. same b (λ is. absurd (omega arith)))
  where
    load : IsLoaded mem
    load = goes.loaded mem life stood

    same : (b : ℕ) → b ≢ 0x1F → laid (page_in mem) (put 0x1F r mem) b ≡ mem b
    same b not = past_low 0x1F r (page_in mem) mem refl refl b not ∙ sym (ap (λ (m : ℕ → ℕ). m b) (known mem load))

-- after a tick: the count goes down, and says whether it was the last one
module _ (q a x y : ℕ) (n z c v d i : Bool) (mem flags : ℕ → ℕ) (log : List Access) where
  abbrev from : Cpu
  from = at 0x6865 a x y q n z c v d i (laid (page_in mem) mem) flags log

  abbrev r : ℕ
  r = (mem 0x1F + 255) % 256

  abbrev told : Bool → (ℕ → ℕ) → Cpu
  told t m = at 0x6867 a x y q (nat_le 128 r) t c v d i m flags (Writes 0x1F r ∷ Reads 0x1F (mem 0x1F) ∷ log)

  abbrev pub then_at : ℕ → Bool → Cpu
  then_at pc t = record (told t (laid (page_in mem) (put 0x1F r mem))) { pc = pc }

  counts : (t : Bool) → nat_eq r 0 ≡ t → run q 1 from ≡ told t (laid (page_in mem) (put 0x1F r mem))
  counts t is = ap (told (nat_eq r 0)) (put_out 0x1F r (page_in mem) mem refl refl)
      ∙ ap (λ u. told u (laid (page_in mem) (put 0x1F r mem))) is

  pub last : nat_eq r 0 ≡ true → run q 2 from ≡ then_at 0x6869 true
  last is = run_more q 1 1 from ∙ ap (run q 1) (counts true is)

  pub again : nat_eq r 0 ≡ false → run q 2 from ≡ then_at 0x6862 false
  again is = run_more q 1 1 from ∙ ap (run q 1) (counts false is)

-- memory is as it was, but for what dvg_ticks may change
abbrev pub Leaves : (q : ℕ) (now before : ℕ → ℕ) → Type 0
Leaves q now before = (b : ℕ) → is_own b ≡ false → b ≢ 0x1F → is_hardware b ≡ false → b ≢ stack_place q
    → b ≢ stack_place (q + 255) → now b ≡ before b

-- a count that isn't 1 goes down, and not to zero
pub lower : (n m : ℕ) → m ≡ suc (suc n) % 256 → suc n ≤ 255 → (m + 255) % 256 ≡ suc n % 256
lower n m count most = omega (arith, count, most)

pub not_last : (n m : ℕ) → m ≡ suc (suc n) % 256 → suc n ≤ 255 → (m + 255) % 256 ≢ 0
not_last n m count most none = absurd (omega (arith, count, most, none))

-- the ticks that are left
module _ (P : Claim) (begin stop : ℕ) (goes : GoesByTicks P begin stop) (q : ℕ) (q_small : q < 256) where
  -- what follows a tick: the count was the last one, or there are more
  abbrev Follows : (cpu : Cpu) (after : List Item) → Type 0
  Follows cpu after = (nat_eq ((cpu.mem 0x1F + 255) % 256) 0 ≡ true) ⊎ ((nat_eq ((cpu.mem 0x1F + 255) % 256) 0 ≡ false)
      × ((j : ℕ) (next : Cpu) → next.pc ≡ 0x6862 → next.s ≡ q → next.mem 0x1F ≡ (cpu.mem 0x1F + 255) % 256
      → P next.mem after → GoesTo P q j next begin stop after))

  one_tick : (k : ℕ) (cpu : Cpu) (life : List Item) → (t : TurnedTo P q false cpu begin stop life)
      → Follows cpu (t.made.items ++ life) → GoesTo P q k cpu begin stop life
  one_tick k cpu life t follows = by follows
    where
      mid : Cpu
      mid = run q t.steps cpu

      from_is : at 0x6865 mid.a mid.x mid.y q mid.n mid.z mid.c mid.v mid.d mid.i
          (laid (page_in mid.mem) mid.mem) mid.flags mid.log ≡ mid
      from_is = state_is mid 0x6865 q t.pc t.stack (goes.loaded mid.mem (t.made.items ++ life) t.stood)

      r : ℕ
      r = (mid.mem 0x1F + 255) % 256

      count_is : (cpu.mem 0x1F + 255) % 256 ≡ r
      count_is = ap (λ m. (m + 255) % 256) (sym t.kept)

      end : ℕ → Bool → Cpu
      end pc z = then_at q mid.a mid.x mid.y mid.n mid.z mid.c mid.v mid.d mid.i mid.mem mid.flags mid.log pc z

      left : P (laid (page_in mid.mem) (put 0x1F r mid.mem)) (t.made.items ++ life)
      left = count_stood P begin stop goes mid.mem r (t.made.items ++ life) (omega arith) t.stood

      made : (pc : ℕ) (z : Bool) → run q 2 mid ≡ end pc z → Stretch begin stop q cpu (2 + t.steps) life
      made pc z is = extend begin stop q cpu t.steps 2 life t.made (ap (λ (c : Cpu). seen c.log) is)
          (λ tables. ap (are_steady (is_kept tables) q 2) (sym from_is))

      whole : (pc : ℕ) (z : Bool) → run q 2 mid ≡ end pc z → run q (2 + t.steps) cpu ≡ end pc z
      whole pc z is = run_more q t.steps 2 cpu ∙ is

      by : Follows cpu (t.made.items ++ life) → GoesTo P q k cpu begin stop life
      by (inl none) =
          let is = ap (run q 2) (sym from_is)
          ∙ last q mid.a mid.x mid.y mid.n mid.z mid.c mid.v mid.d mid.i mid.mem mid.flags mid.log
          (ap (λ m. nat_eq m 0) (sym count_is) ∙ none) in
          finish P q k cpu begin stop life (2 + t.steps) (made 0x6869 true is)
          (ap (at_return q) (whole 0x6869 true is) ∙ returned q (end 0x6869 true) refl refl)
          (ap (λ (c : Cpu). is_code c.pc) (whole 0x6869 true is))
          (subst (λ (c : Cpu). P c.mem (t.made.items ++ life)) (sym (whole 0x6869 true is)) left)
      by (inr more) =
          let is = ap (run q 2) (sym from_is)
          ∙ again q mid.a mid.x mid.y mid.n mid.z mid.c mid.v mid.d mid.i mid.mem mid.flags mid.log
          (ap (λ m. nat_eq m 0) (sym count_is) ∙ more.0) in
          go_on P q k cpu begin stop life (2 + t.steps) (made 0x6862 false is) (omega arith)
          (ap (at_return q) (whole 0x6862 false is))
          (λ j less. subst (λ (c : Cpu). GoesTo P q j c begin stop (t.made.items ++ life)) (sym (whole 0x6862 false is))
          (more.1 j (end 0x6862 false) refl refl (sym count_is) left))

  ticks_left : (n k : ℕ) (cpu : Cpu) (life : List Item) → n ≤ 255 → cpu.pc ≡ 0x6862 → cpu.s ≡ q
      → cpu.mem 0x1F ≡ suc n % 256 → P cpu.mem life → GoesTo P q k cpu begin stop life
  ticks_left zero k cpu life most at_pc at_q count stood =
      one_tick k cpu life (tick_call_to P begin stop goes q false cpu life q_small at_pc at_q stood)
      (inl (ap (λ m. nat_eq ((m + 255) % 256) 0) count))
  ticks_left (suc n) k cpu life most at_pc at_q count stood =
      let t = tick_call_to P begin stop goes q false cpu life q_small at_pc at_q stood in
      let down : (cpu.mem 0x1F + 255) % 256 ≡ suc n % 256 = omega (arith, count, most) in
      let some : (cpu.mem 0x1F + 255) % 256 ≢ 0 = λ none. absurd (omega (arith, down, most, none)) in
      one_tick k cpu life t (inr (
        ne_eqb ((cpu.mem 0x1F + 255) % 256) 0 some,
        λ j next next_pc next_q next_count next_stood. ticks_left n j next (t.made.items ++ life)
            (omega (arith, most)) next_pc next_q (next_count ∙ down) next_stood,
      ))

  -- after the count nothing else is changed
  counted : (mid : Cpu) (r : ℕ) (life : List Item) → P mid.mem life → (b : ℕ) → b ≢ 0x1F
      → laid (page_in mid.mem) (put 0x1F r mid.mem) b ≡ mid.mem b
  counted mid r life stood b not = past_low 0x1F r (page_in mid.mem) mid.mem refl refl b not
      ∙ sym (ap (λ (m : ℕ → ℕ). m b) (known mid.mem (goes.loaded mid.mem life stood)))

  -- they come to their end
  ticks_end : (n : ℕ) (cpu : Cpu) (life : List Item) → n ≤ 255 → cpu.pc ≡ 0x6862 → cpu.s ≡ q
      → cpu.mem 0x1F ≡ suc n % 256 → P cpu.mem life
      → (k : ℕ) × (at_return q (run q k cpu) ≡ true) × ((run q k cpu).mem 0x1F ≡ 0) × Leaves q (run q k cpu).mem cpu.mem
  ticks_end zero cpu life most at_pc at_q count stood =
      let t = tick_call_to P begin stop goes q false cpu life q_small at_pc at_q stood in
      let mid = run q t.steps cpu in
      let is = ap (run q 2) (sym (state_is mid 0x6865 q t.pc t.stack (goes.loaded mid.mem (t.made.items ++ life) t.stood)))
      ∙ last q mid.a mid.x mid.y mid.n mid.z mid.c mid.v mid.d mid.i mid.mem mid.flags mid.log
      (ap (λ m. nat_eq ((m + 255) % 256) 0) (t.kept ∙ count)) in
      let on = run_more q t.steps 2 cpu ∙ is in (
        2 + t.steps,
        ap (at_return q) on
            ∙ returned q (then_at q mid.a mid.x mid.y mid.n mid.z mid.c mid.v mid.d mid.i mid.mem mid.flags mid.log 0x6869 true) refl refl,
        ap (λ (c : Cpu). c.mem 0x1F) on ∙ ap (λ m. (m + 255) % 256) (t.kept ∙ count),
        (λ b own not out not0 not1. ap (λ (c : Cpu). c.mem b) on
            ∙ counted mid ((mid.mem 0x1F + 255) % 256) (t.made.items ++ life) t.stood b not
            ∙ t.spared b own out not0 not1),
      )
  ticks_end (suc n) cpu life most at_pc at_q count stood =
      let t = tick_call_to P begin stop goes q false cpu life q_small at_pc at_q stood in
      let mid = run q t.steps cpu in
      let down : (mid.mem 0x1F + 255) % 256 ≡ suc n % 256 = lower n (mid.mem 0x1F) (t.kept ∙ count) most in
      let is = ap (run q 2) (sym (state_is mid 0x6865 q t.pc t.stack (goes.loaded mid.mem (t.made.items ++ life) t.stood)))
      ∙ again q mid.a mid.x mid.y mid.n mid.z mid.c mid.v mid.d mid.i mid.mem mid.flags mid.log
      (ne_eqb ((mid.mem 0x1F + 255) % 256) 0 (not_last n (mid.mem 0x1F) (t.kept ∙ count) most)) in
      let next = then_at q mid.a mid.x mid.y mid.n mid.z mid.c mid.v mid.d mid.i mid.mem mid.flags mid.log 0x6862 false in
      let rest = ticks_end n next (t.made.items ++ life) (omega (arith, most)) refl refl down
      (count_stood P begin stop goes mid.mem ((mid.mem 0x1F + 255) % 256) (t.made.items ++ life) (omega arith) t.stood) in
      let on = run_more q (2 + t.steps) rest.0 cpu ∙ ap (run q rest.0) (run_more q t.steps 2 cpu ∙ is) in (
        rest.0 + (2 + t.steps),
        ap (at_return q) on ∙ rest.1,
        ap (λ (c : Cpu). c.mem 0x1F) on ∙ rest.2,
        (λ b own not out not0 not1. ap (λ (c : Cpu). c.mem b) on ∙ rest.3 b own not out not0 not1
            ∙ counted mid ((mid.mem 0x1F + 255) % 256) (t.made.items ++ life) t.stood b not
            ∙ t.spared b own out not0 not1),
      )

-- a call of dvg_ticks: A is the count
module _ (P : Claim) (cpu : Cpu) (begin stop : ℕ) (life : List Item) (goes : GoesByTicks P begin stop)
    (at_pc : cpu.pc ≡ 0x6860) (a_small : cpu.a < 256) (s_small : cpu.s < 256) (stood : P cpu.mem life) where
  abbrev first : Cpu
  first = at 0x6860 cpu.a cpu.x cpu.y cpu.s cpu.n cpu.z cpu.c cpu.v cpu.d cpu.i (laid (page_in cpu.mem) cpu.mem) cpu.flags cpu.log

  first_is : first ≡ cpu
  first_is = state_is cpu 0x6860 cpu.s at_pc refl (goes.loaded cpu.mem life stood)

  set : P (run cpu.s 1 first).mem life
  set = subst (λ (m : ℕ → ℕ). P m life) (sym (put_out 0x1F cpu.a (page_in cpu.mem) cpu.mem refl refl))
      (count_stood P begin stop goes cpu.mem cpu.a life a_small stood)

  pub ticks_go : (k : ℕ) → GoesTo P cpu.s k cpu begin stop life
  ticks_go k = subst (λ (c : Cpu). GoesTo P cpu.s k c begin stop life) first_is
      (go_on P cpu.s k first begin stop life 1
      (idle_stretch cpu.s first 1 begin stop life (goes.placed cpu.mem life stood) refl (λ tables. refl)) (omega arith) refl
      (λ j less. ticks_left P begin stop goes cpu.s s_small ((cpu.a + 255) % 256) j (run cpu.s 1 first) life
      (omega arith) refl refl (omega (arith, a_small)) set))

  -- it returns
  pub ticks_return : (k : ℕ) × (at_return cpu.s (run cpu.s k cpu) ≡ true) × ((run cpu.s k cpu).mem 0x1F ≡ 0)
      × Leaves cpu.s (run cpu.s k cpu).mem cpu.mem
  ticks_return =
      let rest = ticks_end P begin stop goes cpu.s s_small ((cpu.a + 255) % 256) (run cpu.s 1 first) life
      (omega arith) refl refl (omega (arith, a_small)) set in
      let on = ap (run cpu.s (rest.0 + 1)) (sym first_is) ∙ run_more cpu.s 1 rest.0 first in (
        rest.0 + 1,
        ap (at_return cpu.s) on ∙ rest.1,
        ap (λ (c : Cpu). c.mem 0x1F) on ∙ rest.2,
        (λ b own not out not0 not1. ap (λ (c : Cpu). c.mem b) on ∙ rest.3 b own not out not0 not1
            ∙ ap (λ (t : Bool). if t then cpu.a else first.mem b) (ne_eqb b 0x1F not) ∙ ap (λ (c : Cpu). c.mem b) first_is),
      )
