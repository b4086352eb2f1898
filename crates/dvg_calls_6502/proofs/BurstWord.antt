-- A word of dvg_run's loop: what stands after it.
use Rattle.std.proofs.Common.{◌≡◌, ℕ, zero, suc, ◌+◌, ◌-◌, ◌*◌, ◌%◌, ◌<◌, ◌≤◌, Bool, true, false, List, [], ◌∷◌, refl}
use Rattle.std.proofs.Common.{sym, ap, ◌∙◌, subst, arith, eq-eqb, leb-true}
use Rattle.std.proofs.lemmas.Bool.{ne_eqb}
use Rattle.std.specs.Prelude.{nat_eq, nat_le, nat_lt, ◌&&◌, if◌then◌else◌}
use Rattle.dvg_driver.specs.declared.action.Action.TheVariants.{Wrote}
use Rattle.dvg_driver.specs.Script.{Item, Did}
use Rattle.dvg_calls_6502.specs.Processor.{Cpu, Access, Writes, put}
use Rattle.dvg_calls_6502.specs.Board.{IsLoaded, seen, is_own, is_hardware, source_in, goal_in}
use Rattle.dvg_calls_6502.specs.Feed.{put_for, second_then, second_byte}
use Rattle.dvg_calls_6502.specs.Holds.{publish_byte}
use Rattle.dvg_calls_6502.proofs.ProcessorRuns.{at}
use Rattle.dvg_calls_6502.proofs.Memory.{AreSmall, laid, page_of, page_in, in_page, in_code, known, loaded, put_small, small_page}
use Rattle.dvg_calls_6502.proofs.Memory.{both_true, same_out, kept_write, out_of_page}
use Rattle.dvg_calls_6502.proofs.StoredByte.{phase_then, carried}
use Rattle.dvg_calls_6502.proofs.TableTick.{in_ram, not_flag, second_small, put_for_small, carried_small, phase_small}
use Rattle.dvg_calls_6502.proofs.PlainTicks.{Covers, publish_small}
use Rattle.dvg_calls_6502.specs.Amid.{all_in}
use Rattle.dvg_calls_6502.proofs.DriverInMemory.{Stood, stood_on}
use Rattle.dvg_calls_6502.proofs.BurstRun.{Reaches, pc_then, word}
use Rattle.dvg_calls_6502.proofs.BurstStep.{stepped, stepped_page, Feeds, feeds_of, NextByte, next_byte}

-- memories with the same bytes of the driver
own_all : (now mem : ℕ → ℕ) → now 0x10 ≡ mem 0x10 → now 0x11 ≡ mem 0x11 → now 0x12 ≡ mem 0x12 → now 0x13 ≡ mem 0x13
    → now 0x14 ≡ mem 0x14 → now 0x15 ≡ mem 0x15
    → now 0x16 ≡ mem 0x16 → now 0x17 ≡ mem 0x17 → now 0x18 ≡ mem 0x18 → now 0x19 ≡ mem 0x19 → now 0x1A ≡ mem 0x1A
    → (b : ℕ) → is_own b ≡ true → now b ≡ mem b
own_all now mem e0 e1 e2 e3 e4 e5 e6 e7 e8 e9 ea b own =
    let two = both_true (nat_le 0x10 b) (nat_lt b 0x1B) own in
    let low = leb-true 0x10 b two.0 in let high = leb-true (suc b) 0x1B two.1 in
    let back : 0x10 + (b - 0x10) ≡ b = omega (arith, low) in
    sym (ap now back) ∙ by (b - 0x10) (omega (arith, low, high)) ∙ ap mem back
  where
    by : (i : ℕ) → i < 11 → now (0x10 + i) ≡ mem (0x10 + i)
    by zero h = e0
    by (suc zero) h = e1
    by (suc (suc zero)) h = e2
    by (suc (suc (suc zero))) h = e3
    by (suc (suc (suc (suc zero)))) h = e4
    by (suc (suc (suc (suc (suc zero))))) h = e5
    by (suc (suc (suc (suc (suc (suc zero)))))) h = e6
    by (suc (suc (suc (suc (suc (suc (suc zero))))))) h = e7
    by (suc (suc (suc (suc (suc (suc (suc (suc zero)))))))) h = e8
    by (suc (suc (suc (suc (suc (suc (suc (suc (suc zero))))))))) h = e9
    by (suc (suc (suc (suc (suc (suc (suc (suc (suc (suc zero)))))))))) h = ea
    by (suc (suc (suc (suc (suc (suc (suc (suc (suc (suc (suc i))))))))))) h = absurd (omega arith)

-- the place's byte matters only while a table is written
put_loaded : (v : ℕ) (mem : ℕ → ℕ) → v < 256 → IsLoaded mem → IsLoaded (put 0x13 v mem)
put_loaded v mem small load = record {
  code = λ i h. ap (λ (t : Bool). if t then v else mem (0x6800 + i))
      (ne_eqb (0x6800 + i) 0x13 (λ same. absurd (omega arith))) ∙ load.code i h;
  bytes = put_small 0x13 v mem small load.bytes;
}

-- a driver that is in the loop
pub record Bursts (q : ℕ) (cpu : Cpu) (begin stop : ℕ) (life : List Item) : Type 0 where
  pub pc : cpu.pc ≡ 0x6822
  pub stack : cpu.s ≡ q
  pub loaded : IsLoaded cpu.mem
  pub phase : cpu.mem 0x10 ≡ 0x80
  pub even : cpu.y % 2 ≡ 0
  pub stood : Stood (put 0x13 cpu.y cpu.mem) begin stop life

module _ (q y : ℕ) (mem : ℕ → ℕ) (begin stop : ℕ) (life : List Item) (load : IsLoaded mem) (phase : mem 0x10 ≡ 0x80)
    (even : y % 2 ≡ 0) (stood : Stood (put 0x13 y mem) begin stop life) where
  -- the memory as it would be where the place were kept in it
  abbrev pub vm : ℕ → ℕ
  vm = put 0x13 y mem

  pub feeds : Feeds vm begin stop life
  feeds = feeds_of vm begin stop life stood phase

  pub y_small : y < 256
  y_small = stood.loaded.bytes 0x13

  abbrev pub second : Bool
  second = feeds.feeding.second

  pub one : NextByte vm begin stop life false second
  one = next_byte vm begin stop life feeds false second (ap (λ r. nat_eq r 1) even) feeds.feeding.mark

  abbrev pub b0 : ℕ
  b0 = one.byte

  abbrev pub vm1 : ℕ → ℕ
  vm1 = stepped vm false second b0

  abbrev pub odd : ℕ
  odd = (y + 1) % 256

  abbrev pub after : ℕ
  after = (odd + 1) % 256

  abbrev pub item0 : Item
  item0 = Did (Wrote (goal_in vm - 0x4000) b0)

  no_wrap : nat_eq odd 0 ≡ false
  no_wrap = ne_eqb odd 0 (λ none. absurd (omega (arith, even, y_small, none)))

  not_end : nat_eq ((odd + 256 - mem 0x17) % 256) 0 ≡ false
  not_end = let end_small = load.bytes 0x17 in let end_even = one.even in
      ne_eqb ((odd + 256 - mem 0x17) % 256) 0 (λ none. absurd (omega (arith, even, y_small, none, end_small, end_even)))

  phase1 : vm1 0x10 ≡ 0x80
  phase1 = ap (λ (t : Bool). phase_then t (nat_eq (carried (nat_eq odd 0) 255 (mem 0x16)) 0) (mem 0x12)) not_end

  is_odd : nat_eq (odd % 2) 1 ≡ true
  is_odd = let e : odd % 2 ≡ 1 = omega (arith, even, y_small) in eq-eqb (odd % 2) 1 e

  pub two : NextByte vm1 begin stop (item0 ∷ life) true second
  two = next_byte vm1 begin stop (item0 ∷ life) (feeds_of vm1 begin stop (item0 ∷ life) one.stood phase1) true second
      is_odd refl

  abbrev pub b1 : ℕ
  b1 = two.byte

  abbrev pub w1 : ℕ
  w1 = put_for (mem 0x11) true second b1

  abbrev pub vm2 : ℕ → ℕ
  vm2 = stepped vm1 true second b1

  abbrev pub item1 : Item
  item1 = Did (Wrote (goal_in vm1 - 0x4000) w1)

  plain : (by' byte : ℕ) → carried (nat_eq odd 0) by' byte ≡ byte
  plain by' byte = ap (λ t. carried t by' byte) no_wrap

  source1 : source_in vm1 ≡ mem 0x19 + 256 * mem 0x1A + odd
  source1 = ap (λ h. mem 0x19 + 256 * h + odd) (plain 1 (mem 0x1A))

  goal1 : goal_in vm1 ≡ mem 0x14 + 256 * mem 0x15 + odd
  goal1 = ap (λ h. mem 0x14 + 256 * h + odd) (plain 1 (mem 0x15))

  from0_is : (mem 0x19 + 256 * mem 0x1A + y) % 65536 ≡ source_in vm
  from0_is = let less = one.below in omega (arith, less)

  from1_is : (mem 0x19 + 256 * mem 0x1A + odd) % 65536 ≡ source_in vm1
  from1_is = let less = two.below in omega (arith, less, source1)

  to0_is : (mem 0x14 + 256 * mem 0x15 + y) % 65536 ≡ goal_in vm
  to0_is = let less = one.high in omega (arith, less)

  to1_is : (mem 0x14 + 256 * mem 0x15 + odd) % 65536 ≡ goal_in vm1
  to1_is = let less = two.high in omega (arith, less, goal1)

  ram0 : (in_page (goal_in vm) ≡ false) × (in_code (goal_in vm) ≡ false) × (nat_le 0x200 (goal_in vm) ≡ true)
      × (is_hardware (goal_in vm) ≡ true)
  ram0 = in_ram (goal_in vm) one.low one.high

  ram1 : (in_page (goal_in vm1) ≡ false) × (in_code (goal_in vm1) ≡ false) × (nat_le 0x200 (goal_in vm1) ≡ true)
      × (is_hardware (goal_in vm1) ≡ true)
  ram1 = in_ram (goal_in vm1) two.low two.high

  -- what a page leaves of memory
  whole : (page : List ℕ) (b : ℕ) → 0x200 ≤ b → laid page mem b ≡ mem b
  whole page b low = same_out page (page_in mem) mem b (out_of_page b low)
      ∙ sym (ap (λ (m : ℕ → ℕ). m b) (known mem load))

  vm_is : (b : ℕ) → 0x200 ≤ b → vm b ≡ mem b
  vm_is b low = ap (λ (t : Bool). if t then y else mem b) (ne_eqb b 0x13 (λ same. absurd (omega (arith, low, same))))

  -- both memories after the low byte
  abbrev pub new0 : ℕ → ℕ
  new0 = put (goal_in vm) b0 mem

  real1 : (page : List ℕ) (b : ℕ) → 0x200 ≤ b → laid page new0 b ≡ put (goal_in vm) b0 mem b
  real1 page b low = kept_write (goal_in vm) b0 page page mem ram0.0 ram0.1 b (out_of_page b low)
      ∙ ap (λ k. if nat_eq b (goal_in vm) then b0 else k) (whole page b low)

  virtual1 : (b : ℕ) → 0x200 ≤ b → vm1 b ≡ put (goal_in vm) b0 mem b
  virtual1 b low = kept_write (goal_in vm) b0 (page_in vm) (stepped_page vm false second b0) vm ram0.0 ram0.1 b
      (out_of_page b low)
      ∙ ap (λ k. if nat_eq b (goal_in vm) then b0 else k) (sym (ap (λ (m : ℕ → ℕ). m b) (known vm stood.loaded))
      ∙ vm_is b low)

  -- and after the high byte
  real2 : (page : List ℕ) (b : ℕ) → 0x200 ≤ b → laid page (put (goal_in vm1) w1 new0) b ≡ put (goal_in vm1) w1 new0 b
  real2 page b low = kept_write (goal_in vm1) w1 page page new0 ram1.0 ram1.1 b (out_of_page b low)
      ∙ ap (λ k. if nat_eq b (goal_in vm1) then w1 else k) (real1 page b low)

  virtual2 : (b : ℕ) → 0x200 ≤ b → vm2 b ≡ put (goal_in vm1) w1 new0 b
  virtual2 b low = kept_write (goal_in vm1) w1 (page_in vm1) (stepped_page vm1 true second b1) vm1 ram1.0 ram1.1 b
      (out_of_page b low)
      ∙ ap (λ k. if nat_eq b (goal_in vm1) then w1 else k) (sym (ap (λ (m : ℕ → ℕ). m b) (known vm1 one.stood.loaded))
      ∙ virtual1 b low)

  abbrev pub set : Bool
  set = feeds.set

  abbrev pub wrap : Bool
  wrap = nat_eq after 0

  abbrev pub ends : Bool
  ends = nat_eq ((after + 256 - mem 0x17) % 256) 0

  abbrev pub last : Bool
  last = nat_eq (carried wrap 255 (mem 0x16)) 0

  abbrev pub phase2 : ℕ
  phase2 = phase_then ends last (publish_byte set)

  abbrev pub page2 : List ℕ
  page2 = page_of phase2 (mem 0x11) (publish_byte set) (mem 0x13) (mem 0x14) (carried wrap 1 (mem 0x15))
      (carried wrap 255 (mem 0x16)) (mem 0x17) (second_byte (second_then true second b1)) (mem 0x19)
      (carried wrap 1 (mem 0x1A))

  abbrev pub final : ℕ → ℕ
  final = laid page2 (put (goal_in vm1) w1 new0)

  b0_small : b0 < 256
  b0_small = subst (λ b. b < 256) one.reads (stood.loaded.bytes (source_in vm))

  b1_small : b1 < 256
  b1_small = subst (λ b. b < 256) two.reads (one.stood.loaded.bytes (source_in vm1))

  page_small : AreSmall page2
  page_small = small_page (phase_small ends last (publish_byte set) (publish_small set)) (load.bytes 0x11)
      (publish_small set) (load.bytes 0x13) (load.bytes 0x14) (carried_small wrap 1 (mem 0x15) (load.bytes 0x15))
      (carried_small wrap 255 (mem 0x16) (load.bytes 0x16)) (load.bytes 0x17)
      (second_small (second_then true second b1)) (load.bytes 0x19)
      (carried_small wrap 1 (mem 0x1A) (load.bytes 0x1A))

  pub final_loaded : IsLoaded final
  final_loaded = loaded page2 (put (goal_in vm1) w1 new0) page_small
      (put_small (goal_in vm1) w1 new0 (put_for_small (mem 0x11) true second b1 b1_small)
      (put_small (goal_in vm) b0 mem b0_small load.bytes))

  -- what stands after the word, with the place in memory
  pub stood2 : Stood (put 0x13 after final) begin stop (item1 ∷ item0 ∷ life)
  stood2 = stood_on vm2 (put 0x13 after final) begin stop (item1 ∷ item0 ∷ life) two.stood
      (put_loaded after final (omega arith) final_loaded)
      (own_all (put 0x13 after final) vm2 phase_same refl (sym feeds.publish) refl refl
      (ap (carried wrap 1) (sym (plain 1 (mem 0x15)))) (ap (carried wrap 255) (sym (plain 255 (mem 0x16)))) refl
      refl refl (ap (carried wrap 1) (sym (plain 1 (mem 0x1A)))))
      (λ b ram. let low = leb-true 0x4000 b (both_true (nat_le 0x4000 b) (nat_lt b 0x4800) ram).0 in
      same b (omega (arith, low)))
      (λ writing b low high far device. same b far)
    where
      phase_same : phase2 ≡ vm2 0x10
      phase_same = ap (λ p. phase_then ends (nat_eq (carried wrap 255 p) 0) (publish_byte set))
          (sym (plain 255 (mem 0x16)))
          ∙ ap (phase_then ends (nat_eq (carried wrap 255 (carried (nat_eq odd 0) 255 (mem 0x16))) 0))
          (sym feeds.publish)

      same : (b : ℕ) → 0x200 ≤ b → put 0x13 after final b ≡ vm2 b
      same b low = ap (λ (t : Bool). if t then after else final b)
          (ne_eqb b 0x13 (λ same. absurd (omega (arith, low, same)))) ∙ real2 page2 b low ∙ sym (virtual2 b low)

  -- the code does that
  read0 : (page : List ℕ) → laid page mem ((mem 0x19 + 256 * mem 0x1A + y) % 65536) ≡ b0
  read0 page = ap (laid page mem) from0_is ∙ whole page (source_in vm) one.far ∙ sym (vm_is (source_in vm) one.far)
      ∙ one.reads

  read1 : (page : List ℕ)
      → laid page (put ((mem 0x14 + 256 * mem 0x15 + y) % 65536) b0 mem) ((mem 0x19 + 256 * mem 0x1A + odd) % 65536)
      ≡ b1
  read1 page = ap (λ p. laid page (put p b0 mem) ((mem 0x19 + 256 * mem 0x1A + odd) % 65536)) to0_is
      ∙ ap (laid page new0) from1_is
      ∙ real1 page (source_in vm1) two.far ∙ sym (virtual1 (source_in vm1) two.far) ∙ two.reads

  abbrev from : (a x : ℕ) (n z c v d i : Bool) (flags : ℕ → ℕ) (log : List Access) → List ℕ → Cpu
  from a x n z c v d i flags log page = at 0x6822 a x y q n z c v d i (laid page mem) flags log

  -- what is taken of the table
  abbrev pub heads : List ℕ
  heads = ((mem 0x19 + 256 * mem 0x1A + y) % 65536) ∷ ((mem 0x19 + 256 * mem 0x1A + odd) % 65536) ∷ []

  pub held : (tables : ℕ → Bool) → Covers tables begin stop → all_in tables heads ≡ true
  held tables covers =
      ap (λ p. tables p && (tables ((mem 0x19 + 256 * mem 0x1A + odd) % 65536) && true)) from0_is
      ∙ ap (λ p. tables (source_in vm) && (tables p && true)) from1_is
      ∙ ap (λ (t : Bool). t && (tables (source_in vm1) && true)) (covers (source_in vm) one.begun one.ended)
      ∙ ap (λ (t : Bool). t && true) (covers (source_in vm1) two.begun two.ended)

  pub writes : (a x : ℕ) (n z c v d i : Bool) (flags : ℕ → ℕ) (log : List Access)
      → Reaches q (from a x n z c v d i flags log (page_in mem)) (pc_then ends last) after q final
      (Writes (goal_in vm1) w1 ∷ Writes (goal_in vm) b0 ∷ seen log) heads
  writes a x n z c v d i flags log =
      subst (λ p. Reaches q (from a x n z c v d i flags log (with_mark p (mem 0x12) (mem 0x18)))
      (pc_then ends last) after q final events heads) (sym phase)
      (subst (λ p. Reaches q (from a x n z c v d i flags log (with_mark 0x80 p (mem 0x18)))
      (pc_then ends last) after q final events heads) (sym feeds.publish)
      (subst (λ m. Reaches q (from a x n z c v d i flags log (with_mark 0x80 (publish_byte set) m))
      (pc_then ends last) after q final events heads) (sym feeds.feeding.mark)
      (subst (λ p. Reaches q (from a x n z c v d i flags log (with_mark 0x80 (publish_byte set) (second_byte second)))
      (pc_then ends last) after q (laid page2 (put (goal_in vm1) w1 (put p b0 mem)))
      (Writes (goal_in vm1) w1 ∷ Writes p b0 ∷ seen log) heads) to0_is
      (subst (λ p. Reaches q (from a x n z c v d i flags log (with_mark 0x80 (publish_byte set) (second_byte second)))
      (pc_then ends last) after q (laid page2 (put p w1 (put to0 b0 mem)))
      (Writes p w1 ∷ Writes to0 b0 ∷ seen log) heads) to1_is
      (word q q (mem 0x11) set (mem 0x13) y (mem 0x14) (mem 0x15) (mem 0x16) (mem 0x17) (mem 0x19)
      (mem 0x1A) mem flags b0 b1 b1_small wrap ends last
      (λ s. read0 (with_mark 0x80 (publish_byte set) (second_byte s)))
      (λ s. read1 (with_mark 0x80 (publish_byte set) (second_byte s)))
      (ap (λ p. nat_eq p 0x2002) from0_is ∙ not_flag (source_in vm) one.silent) (ap (λ p. nat_eq p 0x2002) from1_is
      ∙ not_flag (source_in vm1) two.silent)
      (ap is_hardware from0_is ∙ one.silent) (ap is_hardware from1_is ∙ two.silent)
      (ap in_page to0_is ∙ ram0.0) (ap in_code to0_is ∙ ram0.1) (ap (nat_le 0x200) to0_is ∙ ram0.2)
      (ap in_page to1_is ∙ ram1.0) (ap in_code to1_is ∙ ram1.1) (ap (nat_le 0x200) to1_is ∙ ram1.2)
      refl refl refl second a x n z c v d i log)))))
    where
      to0 : ℕ
      to0 = (mem 0x14 + 256 * mem 0x15 + y) % 65536

      events : List Access
      events = Writes (goal_in vm1) w1 ∷ Writes (goal_in vm) b0 ∷ seen log

      with_mark : (phase publish mark : ℕ) → List ℕ
      with_mark phase publish mark = page_of phase (mem 0x11) publish (mem 0x13) (mem 0x14) (mem 0x15) (mem 0x16)
          (mem 0x17) mark (mem 0x19) (mem 0x1A)
