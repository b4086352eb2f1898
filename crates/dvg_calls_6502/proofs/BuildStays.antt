-- Where dvg_put, dvg_pair or dvg_close finds a frame that is being built, the phase stays so until the call is over.
use Rattle.std.proofs.Common.{◌≡◌, ℕ, suc, inl, inr, ◌+◌, ◌*◌, ◌%◌, ◌<◌, ◌≤◌, Bool, true, false, List, [], ◌∷◌}
use Rattle.std.proofs.Common.{refl, sym, ap, ◌∙◌, subst, arith, leb-true, le-leb, eqb-true, eq-eqb}
use Rattle.std.proofs.lemmas.Bool.{leb-false, eqb-false, ne_eqb}
use Rattle.std.specs.Prelude.{nat_eq, nat_le, nat_lt, ◌&&◌, ◌⊎◌, if◌then◌else◌, Option, Some, None}
use Rattle.dvg_mem.specs.declared.half.Half.{Half}
use Rattle.dvg_mem.specs.Areas.{other}
use Rattle.dvg_driver.specs.Script.{Item}
use Rattle.dvg_calls_6502.specs.Processor.{Cpu, put, run}
use Rattle.dvg_calls_6502.specs.Board.{IsLoaded}
use Rattle.dvg_calls_6502.specs.Routines.{Put, Pair, Labs, Vector}
use Rattle.dvg_calls_6502.specs.Calls.{Routine, Reset, Tick, Ticks, Run, Offer, Redraw, Open, Puts, Close, entry, frame_of}
use Rattle.dvg_calls_6502.specs.Calls.{Follows, UnlessReset, IsSession}
use Rattle.dvg_calls_6502.specs.Build.{IsBuilding}
use Rattle.dvg_calls_6502.specs.Decided.{goes_on, StaysBuilding}
use Rattle.dvg_calls_6502.proofs.ProcessorRuns.{at}
use Rattle.dvg_calls_6502.proofs.Memory.{laid, page_of, HasCode, code_known, state_coded, in_code}
use Rattle.dvg_calls_6502.proofs.IdlePhaseStays.{are_in, StaysTo, after, call_stays}
use Rattle.dvg_calls_6502.proofs.Building.{goal_low, goal_high, place_low, base_low}
use Rattle.dvg_calls_6502.proofs.Built.{holds_in}
use Rattle.dvg_calls_6502.proofs.BuildCalls.{not_building}
use Rattle.dvg_calls_6502.proofs.DraftsForCalls.{held}
use Rattle.dvg_calls_6502.proofs.Sessions.{by_reset}

-- at a place, while a frame is being built
record Here (pc : ℕ) (cpu : Cpu) : Type 0 where
  at_pc : cpu.pc ≡ pc
  has : HasCode cpu.mem
  phase : cpu.mem 0x10 ≡ 7

abbrev page7 : (ℕ → ℕ) → List ℕ
page7 mem = page_of 7 (mem 0x11) (mem 0x12) (mem 0x13) (mem 0x14) (mem 0x15) (mem 0x16) (mem 0x17) (mem 0x18) (mem 0x19)
    (mem 0x1A)

abbrev paged : (ℕ → ℕ) → ℕ → ℕ
paged mem = laid (page7 mem) mem

abbrev form : ℕ → Cpu → Cpu
form pc cpu = at pc cpu.a cpu.x cpu.y cpu.s cpu.n cpu.z cpu.c cpu.v cpu.d cpu.i (paged cpu.mem) cpu.flags cpu.log

paged_is : (mem : ℕ → ℕ) → HasCode mem → mem 0x10 ≡ 7 → paged mem ≡ mem
paged_is mem has phase = ap (λ p. laid (page_of p (mem 0x11) (mem 0x12) (mem 0x13) (mem 0x14) (mem 0x15) (mem 0x16)
    (mem 0x17) (mem 0x18) (mem 0x19) (mem 0x1A)) mem) (sym phase) ∙ sym (code_known mem has)

form_is : (pc : ℕ) (cpu : Cpu) → Here pc cpu → form pc cpu ≡ cpu
form_is pc cpu h =
    ap (λ (m : ℕ → ℕ). at pc cpu.a cpu.x cpu.y cpu.s cpu.n cpu.z cpu.c cpu.v cpu.d cpu.i m cpu.flags cpu.log)
    (paged_is cpu.mem h.has h.phase ∙ code_known cpu.mem h.has) ∙ state_coded cpu pc cpu.s h.at_pc refl h.has

put_has : (a v : ℕ) (mem : ℕ → ℕ) → in_code a ≡ false → HasCode mem → HasCode (put a v mem)
put_has a v mem out has i h =
    ap (λ (t : Bool). if t then v else mem (0x6800 + i)) (ne_eqb (0x6800 + i) a (λ same. absurd (away same))) ∙ has i h
  where
    there : in_code (0x6800 + i) ≡ true
    there = ap (λ (t : Bool). t && nat_lt (0x6800 + i) 0x6A87) (le-leb 0x6800 (0x6800 + i) (omega arith))
        ∙ le-leb (suc (0x6800 + i)) 0x6A87 (omega (arith, h))

    away : 0x6800 + i ≡ a → ⊥
    away same = absurd (let e = sym there ∙ ap in_code same ∙ out in cc)

-- a byte of the vector RAM
record InRam (a : ℕ) : Type 0 where
  low : 0x4002 ≤ a
  high : a < 0x4800

ram_out : (a : ℕ) → InRam a → in_code a ≡ false
ram_out a ram = by (nat_le 0x6800 a) refl
  where
    by : (t : Bool) → nat_le 0x6800 a ≡ t → (t && nat_lt a 0x6A87) ≡ false
    by false is = refl
    by true is = absurd (let l = leb-true 0x6800 a is in let h = ram.high in omega (arith, l, h))

beside : (a v b : ℕ) (mem : ℕ → ℕ) → InRam a → b < 0x100 → put a v mem b ≡ mem b
beside a v b mem ram small = ap (λ (t : Bool). if t then v else mem b)
    (ne_eqb b a (λ same. absurd (let l = ram.low in omega (arith, same, small, l))))

-- what two processors have in common: memory of the zero page, and S
record Like (nx cpu : Cpu) : Type 0 where
  mem : (b : ℕ) → b < 0x100 → nx.mem b ≡ cpu.mem b

-- a stretch whose last step stores a byte in the vector RAM
stores : (k pc pc' a v : ℕ) (cpu nx : Cpu) → Here pc cpu → run cpu.s k (form pc cpu) ≡ nx
    → are_in 7 cpu.s k (form pc cpu) ≡ true → nx.mem ≡ put a v (paged cpu.mem) → nx.pc ≡ pc' → InRam a
    → (Here pc' nx → Like nx cpu → StaysTo 7 cpu.s nx) → StaysTo 7 cpu.s cpu
stores k pc pc' a v cpu nx h to so memory place ram rest =
    let is : nx.mem ≡ put a v cpu.mem = memory ∙ ap (put a v) (paged_is cpu.mem h.has h.phase) in
    subst (StaysTo 7 cpu.s) (form_is pc cpu h) (after 7 cpu.s k (form pc cpu) so (subst (StaysTo 7 cpu.s) (sym to) (rest
    (record {
      at_pc = place;
      has = subst HasCode (sym is) (put_has a v cpu.mem (ram_out a ram) h.has);
      phase = ap (λ (m : ℕ → ℕ). m 0x10) is ∙ beside a v 0x10 cpu.mem ram (omega arith) ∙ h.phase;
    })
    (record { mem = λ b small. ap (λ (m : ℕ → ℕ). m b) is ∙ beside a v b cpu.mem ram small }))))

-- a stretch that stores none
reads : (k pc pc' : ℕ) (cpu nx : Cpu) → Here pc cpu → run cpu.s k (form pc cpu) ≡ nx
    → are_in 7 cpu.s k (form pc cpu) ≡ true → (Here pc' nx → StaysTo 7 cpu.s nx) → nx.mem ≡ paged cpu.mem → nx.pc ≡ pc'
    → StaysTo 7 cpu.s cpu
reads k pc pc' cpu nx h to so rest memory place =
    let is : nx.mem ≡ cpu.mem = memory ∙ paged_is cpu.mem h.has h.phase in
    subst (StaysTo 7 cpu.s) (form_is pc cpu h) (after 7 cpu.s k (form pc cpu) so (subst (StaysTo 7 cpu.s) (sym to) (rest
    (record {
      at_pc = place;
      has = subst HasCode (sym is) h.has;
      phase = ap (λ (m : ℕ → ℕ). m 0x10) is ∙ h.phase;
    }))))

-- where the next byte goes
abbrev goes_to : Cpu → ℕ
goes_to cpu = (cpu.mem 0x14 + 256 * cpu.mem 0x15 + cpu.y) % 65536

-- the HALT of dvg_close
module _ (cpu : Cpu) (h : Here 0x6A00 cpu) (ram0 : InRam ((cpu.mem 0x14 + 256 * cpu.mem 0x15 + cpu.mem 0x13) % 65536))
    (ram1 : InRam ((cpu.mem 0x14 + 256 * cpu.mem 0x15 + (cpu.mem 0x13 + 1) % 256) % 65536)) where
  abbrev s1 : Cpu
  s1 = run cpu.s 6 (form 0x6A00 cpu)

  same_s : nat_eq cpu.s cpu.s ≡ true
  same_s = eq-eqb cpu.s cpu.s refl

  halted : Here 0x6A0C s1 → Like s1 cpu → StaysTo 7 cpu.s s1
  halted h1 like =
      stores 3 0x6A0C 0x6A11 (goes_to (record s1 { y = (cpu.mem 0x13 + 1) % 256 })) 0xB0 s1
      (run cpu.s 3 (form 0x6A0C s1)) h1 refl refl refl refl
      (let e0 = like.mem 0x14 (omega arith) in let e1 = like.mem 0x15 (omega arith) in
      subst InRam (ap (λ p. (p + 256 * cpu.mem 0x15 + (cpu.mem 0x13 + 1) % 256) % 65536) (sym e0)
      ∙ ap (λ p. (s1.mem 0x14 + 256 * p + (cpu.mem 0x13 + 1) % 256) % 65536) (sym e1)) ram1)
      (λ h2 like2. subst (StaysTo 7 cpu.s) (form_is 0x6A11 (run cpu.s 3 (form 0x6A0C s1)) h2)
      (record { steps = 2; so = refl; ends = inl same_s }))

  close_stays : StaysTo 7 cpu.s cpu
  close_stays = stores 6 0x6A00 0x6A0C ((cpu.mem 0x14 + 256 * cpu.mem 0x15 + cpu.mem 0x13) % 65536) 0 cpu s1 h refl refl
      refl refl ram0 halted

-- with what a comparison tells
with_c : (q : ℕ) (nx : Cpu) (t : Bool) → nx.c ≡ t → StaysTo 7 q (record nx { c = t }) → StaysTo 7 q nx
with_c q nx t is to = subst (λ (u : Bool). StaysTo 7 q (record nx { c = u })) (sym is) to

with_z : (q : ℕ) (nx : Cpu) (t : Bool) → nx.z ≡ t → StaysTo 7 q (record nx { z = t }) → StaysTo 7 q nx
with_z q nx t is to = subst (λ (u : Bool). StaysTo 7 q (record nx { z = u })) (sym is) to

-- where the bytes of a word go
record Room (cpu : Cpu) : Type 0 where
  zero : cpu.mem 0x14 ≡ 0
  low : 0x4002 ≤ 256 * cpu.mem 0x15 + cpu.y
  high : 256 * cpu.mem 0x15 + cpu.y + 2 ≤ 0x4800
  small : cpu.y < 255

ram_first : (cpu : Cpu) → Room cpu → InRam (goes_to cpu)
ram_first cpu r = let z = r.zero in let l = r.low in let h = r.high in
    record { low = omega (arith, z, l, h); high = omega (arith, z, l, h) }

ram_next : (cpu nx : Cpu) → Room cpu → nx.mem 0x14 ≡ cpu.mem 0x14 → nx.mem 0x15 ≡ cpu.mem 0x15
    → InRam ((nx.mem 0x14 + 256 * nx.mem 0x15 + (cpu.y + 1) % 256) % 65536)
ram_next cpu nx r same14 same15 = let z = r.zero in let l = r.low in let h = r.high in let s = r.small in
    record { low = omega (arith, z, l, h, s, same14, same15); high = omega (arith, z, l, h, s, same14, same15) }

-- the word of dvg_put
module _ (cpu : Cpu) (h : Here 0x6969 cpu) (room : Room cpu) where
  abbrev w1 : Cpu
  w1 = run cpu.s 1 (form 0x6969 cpu)

  abbrev w2 : Cpu
  w2 = run cpu.s 3 (form 0x696B w1)

  put_s : nat_eq cpu.s cpu.s ≡ true
  put_s = eq-eqb cpu.s cpu.s refl

  put_told : (t : Bool) → StaysTo 7 cpu.s (record (run cpu.s 2 (form 0x696F w2)) { z = t })
  put_told true = record { steps = 3; so = refl; ends = inr put_s }
  put_told false = record { steps = 1; so = refl; ends = inr put_s }

  put_tail : Here 0x696F w2 → StaysTo 7 cpu.s w2
  put_tail h2 = subst (StaysTo 7 cpu.s) (form_is 0x696F w2 h2)
      (after 7 cpu.s 2 (form 0x696F w2) refl (put_told (run cpu.s 2 (form 0x696F w2)).z))

  put_word : StaysTo 7 cpu.s cpu
  put_word = stores 1 0x6969 0x696B (goes_to cpu) cpu.a cpu w1 h refl refl refl refl (ram_first cpu room)
      (λ h1 like. stores 3 0x696B 0x696F ((w1.mem 0x14 + 256 * w1.mem 0x15 + (cpu.y + 1) % 256) % 65536) cpu.x w1 w2 h1
      refl refl refl refl (ram_next cpu w1 room (like.mem 0x14 (omega arith)) (like.mem 0x15 (omega arith)))
      (λ h2 like2. put_tail h2))

-- dvg_put
module _ (cpu : Cpu) (h : Here 0x6957 cpu) (zero : cpu.mem 0x14 ≡ 0) (low : 0x4002 ≤ 256 * cpu.mem 0x15 + cpu.mem 0x13)
    (high : 256 * cpu.mem 0x15 + cpu.mem 0x13 + 2 ≤ 0x4800) (small : cpu.mem 0x13 < 255) where
  abbrev p1 : Cpu
  p1 = run cpu.s 6 (form 0x6957 cpu)

  abbrev p2 : Cpu
  p2 = run cpu.s 2 (form 0x6963 (record p1 { c = true }))

  put_late : Here 0x6967 p2 → (t : Bool) → p2.c ≡ t → StaysTo 7 cpu.s p2
  put_late h2 true is = with_c cpu.s p2 true is
      (subst (StaysTo 7 cpu.s) (form_is 0x6967 (record p2 { c = true })
      (record { at_pc = h2.at_pc; has = h2.has; phase = h2.phase }))
      (record { steps = 1; so = refl; ends = inr (eq-eqb cpu.s cpu.s refl) }))
  put_late h2 false is = with_c cpu.s p2 false is
      (reads 1 0x6967 0x6969 (record p2 { c = false }) (run cpu.s 1 (form 0x6967 (record p2 { c = false })))
      (record { at_pc = h2.at_pc; has = h2.has; phase = h2.phase }) refl refl
      (λ h3. put_word (run cpu.s 1 (form 0x6967 (record p2 { c = false }))) h3
      (record { zero = zero; low = low; high = high; small = small })) refl refl)

  put_last : Here 0x6963 p1 → (t : Bool) → p1.c ≡ t → StaysTo 7 cpu.s p1
  put_last h1 true is = with_c cpu.s p1 true is
      (reads 2 0x6963 0x6967 (record p1 { c = true }) p2 (record { at_pc = h1.at_pc; has = h1.has; phase = h1.phase })
      refl refl (λ h2. put_late h2 p2.c refl) refl refl)
  put_last h1 false is = with_c cpu.s p1 false is
      (reads 1 0x6963 0x6969 (record p1 { c = false }) (run cpu.s 1 (form 0x6963 (record p1 { c = false })))
      (record { at_pc = h1.at_pc; has = h1.has; phase = h1.phase }) refl refl
      (λ h2. put_word (run cpu.s 1 (form 0x6963 (record p1 { c = false }))) h2
      (record { zero = zero; low = low; high = high; small = small })) refl refl)

  put_stays : StaysTo 7 cpu.s cpu
  put_stays = reads 6 0x6957 0x6963 cpu p1 h refl refl (λ h1. put_last h1 p1.c refl) refl refl

-- the two words of dvg_pair: the second one, from 69AB on
module _ (cpu : Cpu) (h : Here 0x69AB cpu) (room : Room cpu) where
  abbrev v1 : Cpu
  v1 = run cpu.s 2 (form 0x69AB cpu)

  abbrev v2 : Cpu
  v2 = run cpu.s 3 (form 0x69AF v1)

  second_told : (t : Bool) → StaysTo 7 cpu.s (record (run cpu.s 2 (form 0x69B4 v2)) { z = t })
  second_told true = record { steps = 3; so = refl; ends = inr (eq-eqb cpu.s cpu.s refl) }
  second_told false = record { steps = 1; so = refl; ends = inr (eq-eqb cpu.s cpu.s refl) }

  second_tail : Here 0x69B4 v2 → StaysTo 7 cpu.s v2
  second_tail h2 = subst (StaysTo 7 cpu.s) (form_is 0x69B4 v2 h2)
      (after 7 cpu.s 2 (form 0x69B4 v2) refl (second_told (run cpu.s 2 (form 0x69B4 v2)).z))

  second_word : StaysTo 7 cpu.s cpu
  second_word = stores 2 0x69AB 0x69AF (goes_to cpu) (cpu.mem 0x1D) cpu v1 h refl refl refl refl (ram_first cpu room)
      (λ h1 like. stores 3 0x69AF 0x69B4 ((v1.mem 0x14 + 256 * v1.mem 0x15 + (cpu.y + 1) % 256) % 65536) (v1.mem 0x1E) v1 v2
      h1 refl refl refl refl (ram_next cpu v1 room (like.mem 0x14 (omega arith)) (like.mem 0x15 (omega arith)))
      (λ h2 like2. second_tail h2))

-- and the first one, from 699B on
module _ (cpu : Cpu) (h : Here 0x699B cpu) (room : Room cpu) (even : cpu.y % 2 ≡ 0)
    (high : 256 * cpu.mem 0x15 + cpu.y + 4 ≤ 0x4800) where
  abbrev u1 : Cpu
  u1 = run cpu.s 2 (form 0x699B cpu)

  abbrev u2 : Cpu
  u2 = run cpu.s 3 (form 0x699F u1)

  abbrev u3 : Cpu
  u3 = run cpu.s 1 (form 0x69A4 u2)

  abbrev mid : ℕ
  mid = ((cpu.y + 1) % 256 + 1) % 256

  -- a page ends
  over : (h3 : Here 0x69A5 u3) → u3.mem 0x14 ≡ cpu.mem 0x14 → u3.mem 0x15 ≡ cpu.mem 0x15 → nat_eq mid 0 ≡ true
      → StaysTo 7 cpu.s (record u3 { z = true })
  over h3 same14 same15 wraps =
      let w : Cpu = record u3 { z = true } in
      let hw : Here 0x69A5 w = record { at_pc = h3.at_pc; has = h3.has; phase = h3.phase } in
      let nx : Cpu = run cpu.s 3 (form 0x69A5 w) in
      let none = eqb-true mid 0 wraps in
      let z = room.zero in let l = room.low in let s = room.small in
      subst (StaysTo 7 cpu.s) (form_is 0x69A5 w hw) (after 7 cpu.s 3 (form 0x69A5 w) refl (second_word nx
      (record {
        at_pc = refl;
        has = put_has 0x16 ((u3.mem 0x16 + 1) % 256) (put 0x15 ((u3.mem 0x15 + 1) % 256) (paged u3.mem)) refl (put_has 0x15 ((u3.mem 0x15 + 1) % 256) (paged u3.mem) refl
            (subst HasCode (sym (paged_is w.mem hw.has hw.phase)) hw.has));
        phase = refl;
      })
      (record {
        zero = same14 ∙ z;
        low = omega (arith, same15, l, high, s, even, none);
        high = omega (arith, same15, l, high, s, even, none);
        small = omega (arith, none);
      })))

  within_page : (h3 : Here 0x69A5 u3) → u3.mem 0x14 ≡ cpu.mem 0x14 → u3.mem 0x15 ≡ cpu.mem 0x15 → nat_eq mid 0 ≡ false
      → StaysTo 7 cpu.s (record u3 { z = false })
  within_page h3 same14 same15 stays =
      let w : Cpu = record u3 { z = false } in
      let some = eqb-false mid 0 stays in
      let z = room.zero in let l = room.low in let s = room.small in
      let less : cpu.y < 254 = below cpu.y s even some in
      reads 1 0x69A5 0x69AB w (run cpu.s 1 (form 0x69A5 w)) (record { at_pc = h3.at_pc; has = h3.has; phase = h3.phase })
      refl refl (λ h4. second_word (run cpu.s 1 (form 0x69A5 w)) h4 (record {
        zero = same14 ∙ z;
        low = omega (arith, same15, l, less);
        high = omega (arith, same15, high, less);
        small = omega (arith, less, even);
      })) refl refl
    where
      below : (y : ℕ) → y < 255 → y % 2 ≡ 0 → (((y + 1) % 256 + 1) % 256 ≡ 0 → ⊥) → y < 254
      below y small even open_yet = by (nat_eq y 254) refl
        where
          by : (t : Bool) → nat_eq y 254 ≡ t → y < 254
          by true is = let e = eqb-true y 254 is in absurd (open_yet (omega (arith, e)))
          by false is = let e = eqb-false y 254 is in omega (arith, e, small, even)

  first_told : (h3 : Here 0x69A5 u3) → u3.mem 0x14 ≡ cpu.mem 0x14 → u3.mem 0x15 ≡ cpu.mem 0x15
      → (t : Bool) → nat_eq mid 0 ≡ t → StaysTo 7 cpu.s u3
  first_told h3 same14 same15 true is = with_z cpu.s u3 true is (over h3 same14 same15 is)
  first_told h3 same14 same15 false is = with_z cpu.s u3 false is (within_page h3 same14 same15 is)

  first_word : StaysTo 7 cpu.s cpu
  first_word = stores 2 0x699B 0x699F (goes_to cpu) (cpu.mem 0x1B) cpu u1 h refl refl refl refl (ram_first cpu room)
      (λ h1 like. stores 3 0x699F 0x69A4 ((u1.mem 0x14 + 256 * u1.mem 0x15 + (cpu.y + 1) % 256) % 65536) (u1.mem 0x1C) u1 u2
      h1 refl refl refl refl (ram_next cpu u1 room (like.mem 0x14 (omega arith)) (like.mem 0x15 (omega arith)))
      (λ h2 like2. reads 1 0x69A4 0x69A5 u2 u3 h2 refl refl
      (λ h3. first_told h3 (like2.mem 0x14 (omega arith) ∙ like.mem 0x14 (omega arith))
      (like2.mem 0x15 (omega arith) ∙ like.mem 0x15 (omega arith)) (nat_eq mid 0) refl) refl refl))

-- dvg_pair
module _ (cpu : Cpu) (h : Here 0x6989 cpu) (zero : cpu.mem 0x14 ≡ 0) (low : 0x4002 ≤ 256 * cpu.mem 0x15 + cpu.mem 0x13)
    (small : cpu.mem 0x13 < 255) (even : cpu.mem 0x13 % 2 ≡ 0)
    (high : nat_le 3 (cpu.mem 0x16) ≡ false ⊎ (nat_le 0xFC (cpu.mem 0x13) ≡ false)
    → 256 * cpu.mem 0x15 + cpu.mem 0x13 + 4 ≤ 0x4800) where
  abbrev q1 : Cpu
  q1 = run cpu.s 6 (form 0x6989 cpu)

  abbrev q2 : Cpu
  q2 = run cpu.s 2 (form 0x6995 (record q1 { c = true }))

  pair_word : (w : Cpu) → w.s ≡ cpu.s → Here 0x699B w → w.y ≡ cpu.mem 0x13 → w.mem 0x14 ≡ cpu.mem 0x14
      → w.mem 0x15 ≡ cpu.mem 0x15 → 256 * cpu.mem 0x15 + cpu.mem 0x13 + 4 ≤ 0x4800 → StaysTo 7 cpu.s w
  pair_word w same_s hw y same14 same15 room = subst (λ q. StaysTo 7 q w) same_s (first_word w hw
      (record {
        zero = same14 ∙ zero;
        low = omega (arith, y, same15, low);
        high = omega (arith, y, same15, room);
        small = omega (arith, y, small);
      })
      (ap (λ n. n % 2) y ∙ even) (omega (arith, y, same15, room)))

  pair_late : Here 0x6999 q2 → (t : Bool) → nat_le 0xFC (cpu.mem 0x13) ≡ t → StaysTo 7 cpu.s q2
  pair_late h2 true is = with_c cpu.s q2 true is
      (subst (StaysTo 7 cpu.s) (form_is 0x6999 (record q2 { c = true })
      (record { at_pc = h2.at_pc; has = h2.has; phase = h2.phase }))
      (record { steps = 1; so = refl; ends = inr (eq-eqb cpu.s cpu.s refl) }))
  pair_late h2 false is = with_c cpu.s q2 false is
      (reads 1 0x6999 0x699B (record q2 { c = false }) (run cpu.s 1 (form 0x6999 (record q2 { c = false })))
      (record { at_pc = h2.at_pc; has = h2.has; phase = h2.phase }) refl refl
      (λ h3. pair_word (run cpu.s 1 (form 0x6999 (record q2 { c = false }))) refl h3 refl refl refl (high (inr is)))
      refl refl)

  pair_last : Here 0x6995 q1 → (t : Bool) → nat_le 3 (cpu.mem 0x16) ≡ t → StaysTo 7 cpu.s q1
  pair_last h1 true is = with_c cpu.s q1 true is
      (reads 2 0x6995 0x6999 (record q1 { c = true }) q2 (record { at_pc = h1.at_pc; has = h1.has; phase = h1.phase })
      refl refl (λ h2. pair_late h2 (nat_le 0xFC (cpu.mem 0x13)) refl) refl refl)
  pair_last h1 false is = with_c cpu.s q1 false is
      (reads 1 0x6995 0x699B (record q1 { c = false }) (run cpu.s 1 (form 0x6995 (record q1 { c = false })))
      (record { at_pc = h1.at_pc; has = h1.has; phase = h1.phase }) refl refl
      (λ h2. pair_word (run cpu.s 1 (form 0x6995 (record q1 { c = false }))) refl h2 refl refl refl (high (inl is)))
      refl refl)

  pair_stays : StaysTo 7 cpu.s cpu
  pair_stays = reads 6 0x6989 0x6995 cpu q1 h refl refl (λ h1. pair_last h1 (nat_le 3 (cpu.mem 0x16)) refl) refl refl

-- what is known of a frame that is being built says where its bytes go
module _ (cpu : Cpu) (half : Half) (flipped : Bool) (rest : List ℕ) (load : IsLoaded cpu.mem)
    (building : IsBuilding cpu.mem half flipped rest) where
  abbrev is_here : (pc : ℕ) → cpu.pc ≡ pc → Here pc cpu
  is_here pc is = record { at_pc = is; has = load.code; phase = building.phase }

  goes_low : 0x4002 ≤ 256 * cpu.mem 0x15 + cpu.mem 0x13
  goes_low = let g = goal_low cpu.mem half flipped rest load building in let z = building.low in omega (arith, g, z)

  goes_high : 256 * cpu.mem 0x15 + cpu.mem 0x13 + 2 ≤ 0x4800
  goes_high = let g = goal_high cpu.mem half flipped rest load building in let z = building.low in
      let some = building.some in omega (arith, g, z, some)

  goes_small : cpu.mem 0x13 < 255
  goes_small = place_low cpu.mem half flipped rest load building

  goes_far : nat_le 3 (cpu.mem 0x16) ≡ false ⊎ (nat_le 0xFC (cpu.mem 0x13) ≡ false)
      → 256 * cpu.mem 0x15 + cpu.mem 0x13 + 4 ≤ 0x4800
  goes_far (inl is) =
      let few = leb-false 3 (cpu.mem 0x16) is in let g = building.page in let b = (base_low (other half)).1 in
      let s = goes_small in omega (arith, few, g, b, s)
  goes_far (inr is) =
      let near = leb-false 0xFC (cpu.mem 0x13) is in let g = building.page in let b = (base_low (other half)).1 in
      let f = building.fits in let some = building.some in omega (arith, near, g, b, f, some)

  halt_ram : (k : ℕ) → k ≤ 1
      → InRam ((cpu.mem 0x14 + 256 * cpu.mem 0x15 + (cpu.mem 0x13 + k) % 256) % 65536)
  halt_ram k one = let z = building.low in let l = goes_low in let h = goes_high in let s = goes_small in
      record { low = omega (arith, z, l, h, s, one); high = omega (arith, z, l, h, s, one) }

  builder_stays : (routine : Routine) → cpu.pc ≡ entry routine → goes_on routine ≡ true → StaysTo 7 cpu.s cpu
  builder_stays (Puts Put) is on = put_stays cpu (is_here 0x6957 is) building.low goes_low goes_high goes_small
  builder_stays (Puts Pair) is on =
      pair_stays cpu (is_here 0x6989 is) building.low goes_low goes_small building.even goes_far
  builder_stays Close is on =
      let e : (cpu.mem 0x13 + 0) % 256 ≡ cpu.mem 0x13 = let s = goes_small in omega (arith, s) in
      close_stays cpu (is_here 0x6A00 is)
      (subst (λ p. InRam ((cpu.mem 0x14 + 256 * cpu.mem 0x15 + p) % 65536)) e (halt_ram 0 (omega arith)))
      (halt_ram 1 (omega arith))
  builder_stays _ is on = absurd (cc)

-- a call of a session, by what held before it
before_it : (cpu : Cpu) (begin stop : ℕ) (frame : Option (ℕ × List ℕ)) (life : List Item) (routine : Routine)
    → holds_in begin stop frame cpu.mem life → cpu.pc ≡ entry routine → goes_on routine ≡ true → cpu.mem 0x10 ≡ 7
    → StaysTo 7 cpu.s cpu
before_it cpu begin stop None life routine stood is on phase =
    absurd (let e = sym (not_building cpu.mem begin stop life stood) ∙ ap (λ p. nat_eq p 7) phase in cc)
before_it cpu begin stop (Some frame) life routine built is on phase =
    builder_stays cpu built.half built.flipped frame.1 built.loaded built.building routine is on

-- no reset goes on
goes_after : (r : Routine) (P : Type 0) → goes_on r ≡ true → UnlessReset r P → P
goes_after r P = by_reset (λ r U S. goes_on r ≡ true → U P → P) (λ on. absurd (cc)) (λ r on is. is) r

pub stays_building : StaysBuilding
stays_building call [] session on phase open_yet = absurd (goes_after call.routine (⊥ × IsSession []) on session.3).0
stays_building call (older ∷ olds) session on phase open_yet =
    let rest = goes_after call.routine (Follows call (older ∷ olds) × IsSession (older ∷ olds)) on session.3 in
    let was = held call older olds session.0 rest.0 rest.1 in
    call_stays 7 call (older ∷ olds) session
    (before_it call.from was.0 was.1.0 (frame_of (older ∷ olds)) was.1.1.0 call.routine was.1.1.1 session.0.entry on phase)
    open_yet
