-- Each rule tells what its instruction leaves.
use Rattle.std.proofs.Common.{◌≡◌, ◌⊎◌, inl, inr, ℕ, zero, suc, ◌+◌, ◌-◌, ◌*◌, ◌%◌, ◌<◌, ◌≤◌, Bool}
use Rattle.std.proofs.Common.{true, false, refl, sym, ap, ◌∙◌, subst, arith, eqb-true, leb-true, le-leb}
use Rattle.std.proofs.lemmas.Bool.{cases_lt, ne_eqb}
use Rattle.std.proofs.lemmas.Nat.{and_le_r}
use Rattle.std.specs.Prelude.{nat_eq, nat_le, ◌||◌, bit_and, bit_or}
use Rattle.dvg_calls_6502.specs.Processor.{Cpu, A, X, Y, Instr, Store, Change, ZeroPage, ZeroPageX, Absolute, Step}
use Rattle.dvg_calls_6502.specs.Processor.{put, does, decoded, opcodes, found, Left, ShiftA, And, Or, Load}
use Rattle.dvg_calls_6502.specs.Processor.{Immediate, Compare, IndirectIndexed}
use Rattle.dvg_calls_6502.specs.Board.{is_hardware, is_own}
use Rattle.dvg_calls_6502.specs.Amid.{is_work}
use Rattle.dvg_calls_6502.proofs.FewAccesses.{high_plain}
use Rattle.dvg_game_6502.proofs.Claims.{Claim, Ready, Low, Blank, Aims, Inside, Points}
use Rattle.dvg_game_6502.proofs.Claims.{Also, Nothing, Is, UpTo, Small, Even, Page, Once, Twice, Says}
use Rattle.dvg_game_6502.proofs.Claims.{Under, Over, Found}
use Rattle.dvg_game_6502.proofs.Claims.{AreHard, Did, HoldsIn, MeansIn, is_quiet, is_storing, is_touched, leaves}
use Rattle.dvg_game_6502.proofs.Claims.{length_of}
use Rattle.dvg_game_6502.proofs.Effects.{Goes, quiet, stored}
use Rattle.dvg_game_6502.proofs.Rules.{Straight, plain, beside, far, axis, axis_down, lda, ldx, ldy}
use Rattle.dvg_game_6502.proofs.Rules.{lda_phase, ldx_phase}
use Rattle.dvg_game_6502.proofs.Rules.{ldy_phase, ldy_at, iny, sty_at, dey, once, twice, count, mask}
use Rattle.dvg_game_6502.proofs.Rules.{double, page, lower}
use Rattle.dvg_game_6502.proofs.Rules.{sta_phase, stx_phase, inc_phase, clear, aim, turn_page, store, cpy}
use Rattle.dvg_game_6502.proofs.Rules.{aside, kept, left, spared, stores_aside}

-- up to 4, with bit 6 set
in_page : (a : ℕ) → a ≤ 4 → (0x40 ≤ bit_or a 0x40) × (bit_or a 0x40 < 0x48)
in_page (suc (suc (suc (suc (suc a))))) low = absurd (omega arith)
in_page _ low = (omega arith, omega arith)

-- an address of the hardware from 4000 on is one of the vector RAM
ram_below : (b : ℕ) → 0x4000 ≤ b → is_hardware b ≡ true → b < 0x4800
ram_below b high is = by (cases_lt b 0x4800)
  where
    by : (b < 0x4800) ⊎ (0x4800 ≤ b) → b < 0x4800
    by (inl less) = less
    by (inr more) = absurd (let no = high_plain b more in cc)

module _ (cpu : Cpu) (place : cpu.mem 0x13 < 256) where
  -- the claim: what is known after the instruction
  abbrev Known : (op low high : ℕ) → Claim → Also → Claim → Also → Type 0
  Known op low high now known later also = cpu.mem (cpu.pc + 1) ≡ low → cpu.mem (cpu.pc + 2) ≡ high
      → HoldsIn now cpu.mem → MeansIn known cpu → AreHard (does (decoded opcodes op) cpu).log
      → Did (length_of (decoded opcodes op)) cpu (does (decoded opcodes op) cpu) later also

  quietly : (op low high : ℕ) (c : Claim) (e : Also) → is_quiet (decoded opcodes op) ≡ true
      → leaves (decoded opcodes op) e ≡ true → Known op low high c e c e
  quietly op low high c e is leaves_it l h holds means hard =
      let q = quiet (decoded opcodes op) cpu is in record {
        pc = q.goes.pc;
        s = q.goes.s;
        place = subst (λ (m : ℕ → ℕ). m 0x13 < 256) (sym q.mem) place;
        claim = subst (λ (m : ℕ → ℕ). HoldsIn c m) (sym q.mem) holds;
        also = left (decoded opcodes op) e cpu (does (decoded opcodes op) cpu) leaves_it q.goes means;
        spares = λ b off. ap (λ (m : ℕ → ℕ). m b) q.mem;
      }

  by_side : (op low high : ℕ) (c : Claim) (e : Also) → is_storing (decoded opcodes op) ≡ true → aside low ≡ true
      → leaves (decoded opcodes op) e ≡ true → Known op low high c e c e
  by_side op low high c e is apart leaves_it l h holds means hard =
      let q = stored (decoded opcodes op) cpu is in
      stores_aside (decoded opcodes op) c e cpu
      (does (decoded opcodes op) cpu) low q.byte place holds means q.goes
      leaves_it (q.mem ∙ ap (λ z. put z q.byte cpu.mem) l) apart

  far_away : (low high : ℕ) (c : Claim) (e : Also) → aside (low + 256 * high) ≡ true
      → leaves (Store A Absolute) e ≡ true → Known 0x8D low high c e c e
  far_away low high c e apart leaves_it l h holds means hard =
      stores_aside (Store A Absolute) c e cpu (does (Store A Absolute) cpu)
      (low + 256 * high) cpu.a place holds means
      (record { pc = refl; s = refl; a = λ none. refl; x = λ none. refl; y = λ none. refl })
      leaves_it
      (ap (λ z. put (z + 256 * cpu.mem (cpu.pc + 2)) cpu.a cpu.mem) l
      ∙ ap (λ z. put (low + 256 * z) cpu.a cpu.mem) h) apart

  axis_place : (low : ℕ) → aside ((low + 0) % 256) ≡ true → aside ((low + 2) % 256) ≡ true
      → (cpu.x ≡ 0) ⊎ (cpu.x ≡ 2) → cpu.mem (cpu.pc + 1) ≡ low → aside ((cpu.mem (cpu.pc + 1) + cpu.x) % 256) ≡ true
  axis_place low first second (inl is) l = ap (λ z. aside ((z + cpu.x) % 256)) l
      ∙ ap (λ z. aside ((low + z) % 256)) is ∙ first
  axis_place low first second (inr is) l = ap (λ z. aside ((z + cpu.x) % 256)) l
      ∙ ap (λ z. aside ((low + z) % 256)) is ∙ second

  axis_sta : (low high : ℕ) (c : Claim) → aside ((low + 0) % 256) ≡ true → aside ((low + 2) % 256) ≡ true
      → Known 0x95 low high c Even c Even
  axis_sta low high c first second l h holds means hard =
      stores_aside (Store A ZeroPageX) c Even cpu (does (Store A ZeroPageX) cpu)
      ((cpu.mem (cpu.pc + 1) + cpu.x) % 256)
      cpu.a place holds means
      (record { pc = refl; s = refl; a = λ none. refl; x = λ none. refl; y = λ none. refl }) refl
      refl
      (axis_place low first second means l)

  axis_dec : (low high : ℕ) (c : Claim) → aside ((low + 0) % 256) ≡ true → aside ((low + 2) % 256) ≡ true
      → Known 0xD6 low high c Even c Even
  axis_dec low high c first second l h holds means hard =
      stores_aside (Change ZeroPageX 255) c Even cpu (does (Change ZeroPageX 255) cpu)
      ((cpu.mem (cpu.pc + 1) + cpu.x) % 256)
      ((found ((cpu.mem (cpu.pc + 1) + cpu.x) % 256) cpu + 255) % 256) place holds means
      (record { pc = refl; s = refl; a = λ none. refl; x = λ none. refl; y = λ none. refl }) refl
      refl
      (axis_place low first second means l)

  -- an instruction that stores nothing, and sets what is known
  sets_it : (instr : Instr) (c : Claim) (e : Also) → is_quiet instr ≡ true → HoldsIn c cpu.mem
      → MeansIn e (does instr cpu) → Did (length_of instr) cpu (does instr cpu) c e
  sets_it instr c e is holds means =
      let q = quiet instr cpu is in record {
        pc = q.goes.pc;
        s = q.goes.s;
        place = subst (λ (m : ℕ → ℕ). m 0x13 < 256) (sym q.mem) place;
        claim = subst (λ (m : ℕ → ℕ). HoldsIn c m) (sym q.mem) holds;
        also = means;
        spares = λ b off. ap (λ (m : ℕ → ℕ). m b) q.mem;
      }

  -- and one that stores one of the driver's bytes
  stores_own : (instr : Instr) (c : Claim) (e : Also) (z v : ℕ) → Goes instr cpu (does instr cpu)
      → (does instr cpu).mem ≡ put z v cpu.mem → is_touched z ≡ true → put z v cpu.mem 0x13 < 256
      → HoldsIn c (put z v cpu.mem) → MeansIn e (does instr cpu) → Did (length_of instr) cpu (does instr cpu) c e
  stores_own instr c e z v goes mem touched small holds means = record {
    pc = goes.pc;
    s = goes.s;
    place = subst (λ (m : ℕ → ℕ). m 0x13 < 256) (sym mem) small;
    claim = subst (λ (m : ℕ → ℕ). HoldsIn c m) (sym mem) holds;
    also = means;
    spares = λ b off. ap (λ (m : ℕ → ℕ). m b) mem ∙ spared z v cpu.mem touched b off;
  }

  -- where a byte is stored by the pointer
  abbrev goal : ℕ
  goal = (cpu.mem 0x14 + 256 * cpu.mem 0x15 + cpu.y) % 65536

  abbrev goal_by : ℕ → ℕ
  goal_by z = (cpu.mem z + 256 * cpu.mem ((z + 1) % 256) + cpu.y) % 65536

  goal_is : cpu.mem 0x14 ≡ 0 → 0x40 ≤ cpu.mem 0x15 → cpu.mem 0x15 < 0x49 → cpu.y < 256
      → (goal ≡ 256 * cpu.mem 0x15 + cpu.y) × (0x4000 ≤ goal)
  goal_is low above under small = (omega arith, omega arith)

  unmoved : (b : ℕ) → b < 0x100 → 0x4000 ≤ goal → put goal cpu.a cpu.mem b ≡ cpu.mem b
  unmoved b less high = kept goal cpu.a cpu.mem b (ne_eqb b goal (λ same. absurd (omega (arith, same, less, high))))

  store_it : cpu.mem (cpu.pc + 1) ≡ 0x14 → Points 1 (cpu.mem 0x14) (cpu.mem 0x15) → cpu.y < 256
      → AreHard (does (Store A IndirectIndexed) cpu).log → Did 2 cpu (does (Store A IndirectIndexed) cpu) Inside Small
  store_it l holds small hard =
      let two = goal_is holds.0 holds.1 holds.2 small in
      let high : 0x4000 ≤ goal = two.1 in
      let far : nat_le 0x200 goal ≡ true = le-leb 0x200 goal (omega arith) in
      let is_hard : is_hardware goal ≡ true =
      subst (λ z. nat_le 0x200 (goal_by z) ≡ true → is_hardware (goal_by z) ≡ true) l hard.0 far in
      let below : goal < 0x4800 = ram_below goal high is_hard in
      stores_own (Store A IndirectIndexed) Inside Small goal cpu.a
      (record { pc = refl; s = refl; a = λ none. refl; x = λ none. refl; y = λ none. refl })
      (ap (λ z. put (goal_by z) cpu.a cpu.mem) l)
      (touched (is_own goal) (is_work goal) (is_hardware goal) is_hard)
      (subst (λ (j : ℕ). j < 256) (sym (unmoved 0x13 (omega arith) high)) place) (
        unmoved 0x14 (omega arith) high ∙ holds.0,
        subst (λ (j : ℕ). 0x40 ≤ j) (sym (unmoved 0x15 (omega arith) high)) holds.1,
        subst (λ (j : ℕ). j < 0x48) (sym (unmoved 0x15 (omega arith) high)) (page_below two.0 below),
      ) small
    where
      touched : (t u v : Bool) → v ≡ true → (t || (u || v)) ≡ true
      touched true u v is = refl
      touched false true v is = refl
      touched false false v is = is

      page_below : goal ≡ 256 * cpu.mem 0x15 + cpu.y → goal < 0x4800 → cpu.mem 0x15 < 0x48
      page_below same below = omega (arith, same, below)

  pub known : {op low high : ℕ} {now : Claim} {e : Also} {later : Claim} {also : Also}
      → Straight op low high now e later also → Known op low high now e later also
  known {op = op} {low = low} {high = high} {now = c} {e = e} (plain is leaves_it) =
      quietly op low high c e is leaves_it
  known {op = op} {low = low} {high = high} {now = c} {e = e} (beside is apart leaves_it) =
      by_side op low high c e is apart leaves_it
  known {low = low} {high = high} {now = c} {e = e} (far apart leaves_it) = far_away low high c e apart leaves_it
  known {low = low} {high = high} {now = c} (axis first second) = axis_sta low high c first second
  known {low = low} {high = high} {now = c} (axis_down first second) = axis_dec low high c first second
  known {low = k} {now = c} lda = λ l h holds means hard. sets_it (Load A Immediate) c (Is A k) refl holds l
  known {now = c} ldx = λ l h holds means hard. sets_it (Load X Immediate) c Even refl holds (inr l)
  known {low = k} {now = c} ldy = λ l h holds means hard. sets_it (Load Y Immediate) c (Is Y k) refl holds l
  known {now = c} lda_phase =
      λ l h holds means hard. sets_it (Load A ZeroPage) c (Says A) refl holds
      (sym (ap (λ z. found z cpu) l), refl, refl)
  known {now = c} ldx_phase =
      λ l h holds means hard. sets_it (Load X ZeroPage) c (Says X) refl holds
      (sym (ap (λ z. found z cpu) l), refl, refl)
  known {now = c} ldy_phase =
      λ l h holds means hard. sets_it (Load Y ZeroPage) c (Says Y) refl holds
      (sym (ap (λ z. found z cpu) l), refl, refl)
  known {now = c} ldy_at = λ l h holds means hard. sets_it (Load Y ZeroPage) c Small refl holds
      (subst (λ (j : ℕ). j < 256) (sym (ap (λ z. found z cpu) l)) place)
  known {now = c} iny = λ l h holds means hard. sets_it (Step Y 1) c Small refl holds (omega arith)
  known {now = c} dey = λ l h holds means hard. sets_it (Step Y 255) c (Is Y 0) refl holds
      (ap (λ y. (y + 255) % 256) means)
  known {now = c} once = λ l h holds means hard. sets_it (Step X 255) c Once refl holds (by means)
    where
      by : (cpu.x ≡ 0) ⊎ (cpu.x ≡ 2) → ((cpu.x + 255) % 256 ≡ 255) ⊎ ((cpu.x + 255) % 256 ≡ 1)
      by (inl is) = inl (ap (λ x. (x + 255) % 256) is)
      by (inr is) = inr (ap (λ x. (x + 255) % 256) is)
  known {now = c} twice = λ l h holds means hard. sets_it (Step X 255) c Twice refl holds
      (by means, refl)
    where
      by : (cpu.x ≡ 255) ⊎ (cpu.x ≡ 1) → ((cpu.x + 255) % 256 ≡ 254) ⊎ ((cpu.x + 255) % 256 ≡ 0)
      by (inl is) = inl (ap (λ x. (x + 255) % 256) is)
      by (inr is) = inr (ap (λ x. (x + 255) % 256) is)
  known {now = c} {e = Over k} count =
      λ l h holds means hard. sets_it (Step X 255) c (Under (suc k)) refl holds
      (down k means, small k means, refl)
    where
      down : (k : ℕ) → (cpu.mem 0x10 ≡ cpu.x + k) × (cpu.x < 128) × (1 ≤ cpu.x)
          → cpu.mem 0x10 ≡ (cpu.x + 255) % 256 + suc k
      down k three = let a = three.0 in let b = three.1 in let d = three.2 in omega (arith, a, b, d)

      small : (k : ℕ) → (cpu.mem 0x10 ≡ cpu.x + k) × (cpu.x < 128) × (1 ≤ cpu.x) → (cpu.x + 255) % 256 < 128
      small k three = let b = three.1 in let d = three.2 in omega (arith, b, d)
  known {now = c} mask = λ l h holds means hard. sets_it (And Immediate) c (UpTo 2) refl holds
      (subst (λ (k : ℕ). bit_and cpu.a k ≤ 2) (sym l) (and_le_r cpu.a 2))
  known {now = c} double = λ l h holds means hard. sets_it (ShiftA Left) c (UpTo 4) refl holds (omega arith)
  known {now = c} page = λ l h holds means hard. sets_it (Or Immediate) c Page refl holds
      (subst (λ (k : ℕ). (0x40 ≤ bit_or cpu.a k) × (bit_or cpu.a k < 0x48)) (sym l)
      (in_page cpu.a means))
  known {now = c} {e = Is A k} (lower low) =
      λ l h holds means hard. stores_own (Store A ZeroPage) Low Nothing 0x10 cpu.a
      (record { pc = refl; s = refl; a = λ none. refl; x = λ none. refl; y = λ none. refl })
      (ap (λ z. put z cpu.a cpu.mem) l) refl place
      (let less = leb-true (suc k) 6 low in subst (λ (a : ℕ). a < 6) (sym means) less) tt
  known {e = e} (sta_phase leaves_it) =
      λ l h holds means hard. stores_own (Store A ZeroPage) Aims e 0x10 cpu.a
      (record { pc = refl; s = refl; a = λ none. refl; x = λ none. refl; y = λ none. refl })
      (ap (λ z. put z cpu.a cpu.mem) l) refl place holds
      (left (Store A ZeroPage) e cpu (does (Store A ZeroPage) cpu) leaves_it
      (record { pc = refl; s = refl; a = λ none. refl; x = λ none. refl; y = λ none. refl }) means)
  known stx_phase = λ l h holds means hard. stores_own (Store X ZeroPage) Aims Nothing 0x10 cpu.x
      (record { pc = refl; s = refl; a = λ none. refl; x = λ none. refl; y = λ none. refl })
      (ap (λ z. put z cpu.x cpu.mem) l) refl place holds tt
  known inc_phase = λ l h holds means hard. stores_own (Change ZeroPage 1) Ready Nothing 0x10
      ((cpu.mem 0x10 + 1) % 256)
      (record { pc = refl; s = refl; a = λ none. refl; x = λ none. refl; y = λ none. refl })
      (ap (λ z. put z ((found z cpu + 1) % 256) cpu.mem) l) refl place
      (inl (omega (arith, holds))) tt
  known clear = λ l h holds means hard. stores_own (Store Y ZeroPage) Blank Nothing 0x14 cpu.y
      (record { pc = refl; s = refl; a = λ none. refl; x = λ none. refl; y = λ none. refl })
      (ap (λ z. put z cpu.y cpu.mem) l) refl place (holds, means) tt
  known aim = λ l h holds means hard. stores_own (Store A ZeroPage) Aims Nothing 0x15 cpu.a
      (record { pc = refl; s = refl; a = λ none. refl; x = λ none. refl; y = λ none. refl })
      (ap (λ z. put z cpu.a cpu.mem) l) refl place
      (holds.1, means.0, (let k = means.1 in omega (arith, k))) tt
  known {e = e} (turn_page leaves_it) =
      λ l h holds means hard. stores_own (Change ZeroPage 1) Aims e 0x15
      ((cpu.mem 0x15 + 1) % 256)
      (record { pc = refl; s = refl; a = λ none. refl; x = λ none. refl; y = λ none. refl })
      (ap (λ z. put z ((found z cpu + 1) % 256) cpu.mem) l) refl place (
        holds.0,
        (let a = holds.1 in let b = holds.2 in omega (arith, a, b)),
        (let a = holds.1 in let b = holds.2 in omega (arith, a, b)),
      )
      (left (Change ZeroPage 1) e cpu (does (Change ZeroPage 1) cpu) leaves_it
      (record { pc = refl; s = refl; a = λ none. refl; x = λ none. refl; y = λ none. refl }) means)
  known {now = c} sty_at = λ l h holds means hard. stores_own (Store Y ZeroPage) c Small 0x13 cpu.y
      (record { pc = refl; s = refl; a = λ none. refl; x = λ none. refl; y = λ none. refl })
      (ap (λ z. put z cpu.y cpu.mem) l) refl means holds means
  known store = λ l h holds means hard. store_it l holds means hard
  known {low = k} {now = c} (cpy small) =
      λ l h holds means hard. sets_it (Compare Y Immediate) c (Found k) refl holds
      (λ is. found_it k (leb-true (suc k) 256 small) l means
      (eqb-true ((cpu.y + 256 - cpu.mem (cpu.pc + 1)) % 256) 0 is))
    where
      found_it : (k : ℕ) → k < 256 → cpu.mem (cpu.pc + 1) ≡ k
          → (cpu.mem 0x10 ≡ cpu.y) × (cpu.z ≡ nat_eq cpu.y 0) × (cpu.n ≡ nat_le 128 cpu.y)
          → (cpu.y + 256 - cpu.mem (cpu.pc + 1)) % 256 ≡ 0 → cpu.mem 0x10 % 256 ≡ k
      found_it k less l three zero_is = let same = three.0 in omega (arith, same)
