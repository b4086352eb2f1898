-- The loop of dvg_run that writes a table: a word of it, as the code does it.
use Rattle.std.proofs.Common.{◌≡◌, ℕ, ◌+◌, ◌-◌, ◌*◌, ◌%◌, ◌<◌, ◌≤◌, Bool, true, false, not, List, [], ◌∷◌, refl, sym, ap}
use Rattle.std.proofs.Common.{◌∙◌, subst, arith, leb-true}
use Rattle.std.proofs.lemmas.Bool.{ne_eqb}
use Rattle.std.proofs.lemmas.Nat.{and_le_l, le_or_r}
use Rattle.std.specs.Prelude.{nat_eq, nat_le, bit_and, bit_or, ◌&&◌, if◌then◌else◌}
use Rattle.dvg_calls_6502.specs.Processor.{Cpu, Access, Reads, Writes, put, run}
use Rattle.dvg_calls_6502.specs.Board.{seen, is_hardware}
use Rattle.dvg_calls_6502.specs.Feed.{moved_byte, put_for, second_then, second_byte}
use Rattle.dvg_calls_6502.specs.Holds.{publish_byte}
use Rattle.dvg_calls_6502.specs.Amid.{is_kept, are_steady, all_in}
use Rattle.dvg_calls_6502.proofs.ProcessorRuns.{at, run_more, steady_more, IsSteady}
use Rattle.dvg_calls_6502.proofs.Memory.{laid, page_of, put_page, put_out, in_page, in_code, both_true}
use Rattle.dvg_calls_6502.proofs.StoredByte.{phase_then, carried}
use Rattle.dvg_calls_6502.proofs.FedByte.{compared, stays, byte_read, flags_then, taken}

-- a run comes to this place, with Y, S, memory and accesses so
pub record Reaches (q : ℕ) (from : Cpu) (there y s : ℕ) (mem : ℕ → ℕ) (events : List Access)
    (taken : List ℕ) : Type 0 where
  pub steps : ℕ
  pub pc : (run q steps from).pc ≡ there
  pub place : (run q steps from).y ≡ y
  pub stack : (run q steps from).s ≡ s
  pub memory : (run q steps from).mem ≡ mem
  pub accesses : seen (run q steps from).log ≡ events
  pub steady : IsSteady q steps taken from

via : (q k : ℕ) (from mid : Cpu) (pc y s : ℕ) (mem : ℕ → ℕ) (events : List Access) {taken : List ℕ}
    → run q k from ≡ mid → IsSteady q k taken from → Reaches q mid pc y s mem events taken
    → Reaches q from pc y s mem events taken
via q k from mid pc y s mem events e steady reaches =
    let both : run q (reaches.steps + k) from ≡ run q reaches.steps mid = run_more q k reaches.steps from
    ∙ ap (run q reaches.steps) e in
    record {
      steps = reaches.steps + k;
      pc = ap (λ (cpu : Cpu). cpu.pc) both ∙ reaches.pc;
      place = ap (λ (cpu : Cpu). cpu.y) both ∙ reaches.place;
      stack = ap (λ (cpu : Cpu). cpu.s) both ∙ reaches.stack;
      memory = ap (λ (cpu : Cpu). cpu.mem) both ∙ reaches.memory;
      accesses = ap (λ (cpu : Cpu). seen cpu.log) both ∙ reaches.accesses;
      steady = λ tables is. steady_more (is_kept tables) q k reaches.steps from (steady tables is)
          (ap (are_steady (is_kept tables) q reaches.steps) e ∙ reaches.steady tables is);
    }

-- where the loop goes after a word: on, or to the tick
abbrev pub pc_then : (ends last : Bool) → ℕ
pc_then true true = 0x6815
pc_then _ _ = 0x6822

-- after the end of a page
module _ (q s : ℕ) (held : List ℕ) (free : ℕ) (set : Bool) (old t0 t1 pages end second f0 f1 : ℕ) (mem flags : ℕ → ℕ) where
  abbrev bytes : ℕ → List ℕ
  bytes phase = page_of phase free (publish_byte set) old t0 t1 pages end second f0 f1

  abbrev Goal : (ends last : Bool) → Cpu → ℕ → List Access → Type 0
  Goal ends last cpu y events =
      Reaches q cpu (pc_then ends last) y s (laid (bytes (phase_then ends last (publish_byte set))) mem) events held

  published : (set' : Bool) (a x y : ℕ) (n z c v d i : Bool) (log : List Access)
      → Reaches q (at 0x684C a x y s n z c v d i
      (laid (page_of 0x80 free (publish_byte set') old t0 t1 pages end second f0 f1) mem) flags log) 0x6815 y s
      (laid (page_of (publish_byte set') free (publish_byte set') old t0 t1 pages end second f0 f1) mem) (seen log) held
  published true a x y n z c v d i log = record {
    steps = 3;
    pc = refl;
    place = refl;
    stack = refl;
    accesses = refl;
    steady = λ tables is. refl;
    memory = put_page 0 4 (page_of 0x80 free 4 old t0 t1 pages end second f0 f1) mem (omega arith) refl;
  }
  published false a x y n z c v d i log = record {
    steps = 3;
    pc = refl;
    place = refl;
    stack = refl;
    accesses = refl;
    steady = λ tables is. refl;
    memory = put_page 0 3 (page_of 0x80 free 3 old t0 t1 pages end second f0 f1) mem (omega arith) refl;
  }

  on_last_page : (a x y : ℕ) (n z c v d i : Bool) (log : List Access) (last : Bool) → nat_eq pages 0 ≡ last
      → Goal true last (at 0x6848 a x y s n z c v d i (laid (bytes 0x80) mem) flags log) y (seen log)
  on_last_page a x y n z c v d i log last is = via q 1 _ (told last) _ _ _ _ _ (ap told is) (λ tables is. refl) (rest last)
    where
      told : Bool → Cpu
      told last = at 0x684A pages x y s (nat_le 128 pages) last c v d i (laid (bytes 0x80) mem) flags
          (Reads 0x16 pages ∷ log)

      rest : (last : Bool) → Goal true last (told last) y (seen log)
      rest true = via q 1 _ (at 0x684C pages x y s (nat_le 128 pages) true c v d i (laid (bytes 0x80) mem) flags
          (Reads 0x16 pages ∷ log)) _ _ _ _ _ refl (λ tables is. refl)
          (published set pages x y (nat_le 128 pages) true c v d i (Reads 0x16 pages ∷ log))
      rest false = record { steps = 1; pc = refl; place = refl; stack = refl; memory = refl; accesses = refl; steady = λ tables is. refl }

  same : (a x y : ℕ) (n z c v d i : Bool) (log : List Access) (ends last : Bool) → nat_eq ((y + 256 - end) % 256) 0 ≡ ends
      → nat_eq pages 0 ≡ last
      → Goal ends last (at 0x6844 a x y s n z c v d i (laid (bytes 0x80) mem) flags log) y (seen log)
  same a x y n z c v d i log ends last is ended = via q 1 _ (told ends) _ _ _ _ _ (ap told is) (λ tables is. refl) (rest ends)
    where
      told : Bool → Cpu
      told ends = at 0x6846 a x y s (nat_le 128 ((y + 256 - end) % 256)) ends (nat_le end y) v d i
          (laid (bytes 0x80) mem) flags (Reads 0x17 end ∷ log)

      rest : (ends : Bool) → Goal ends last (told ends) y (seen log)
      rest true = via q 1 _
          (at 0x6848 a x y s (nat_le 128 ((y + 256 - end) % 256)) true (nat_le end y) v d i (laid (bytes 0x80) mem) flags
          (Reads 0x17 end ∷ log)) _ _ _ _ _ refl (λ tables is. refl)
          (on_last_page a x y (nat_le 128 ((y + 256 - end) % 256)) true (nat_le end y) v d i
          (Reads 0x17 end ∷ log) last ended)
      rest false = record { steps = 1; pc = refl; place = refl; stack = refl; memory = refl; accesses = refl; steady = λ tables is. refl }

-- from the store of a high byte on; Y is the byte's place
module _ (q s : ℕ) (held : List ℕ) (free : ℕ) (set : Bool) (old next t0 t1 pages end second f0 f1 : ℕ) (mem flags : ℕ → ℕ) where
  abbrev up : ℕ
  up = (next + 1) % 256

  abbrev to : ℕ
  to = (t0 + 256 * t1 + next) % 65536

  abbrev here : List ℕ
  here = page_of 0x80 free (publish_byte set) old t0 t1 pages end second f0 f1

  abbrev moved : Bool → ℕ → List ℕ
  moved wrap phase = page_of phase free (publish_byte set) old t0 (carried wrap 1 t1)
      (carried wrap 255 pages) end second f0 (carried wrap 1 f1)

  puts : (w x : ℕ) (n z c v d i : Bool) (log : List Access) (wrap ends last : Bool)
      → in_page to ≡ false → in_code to ≡ false → nat_le 0x200 to ≡ true
      → nat_eq up 0 ≡ wrap → nat_eq ((up + 256 - end) % 256) 0 ≡ ends → nat_eq (carried wrap 255 pages) 0 ≡ last
      → Reaches q (at 0x6839 w x next s n z c v d i (laid here mem) flags log) (pc_then ends last) up s
      (laid (moved wrap (phase_then ends last (publish_byte set))) (put to w mem)) (Writes to w ∷ seen log) held
  puts w x n z c v d i log wrap ends last not_page not_code high wraps ended is =
      via q 1 _ (at 0x683B w x next s n z c v d i (laid here new) flags (Writes to w ∷ log)) _ _ _ _ _
      (ap (λ m. at 0x683B w x next s n z c v d i m flags (Writes to w ∷ log)) (put_out to w here mem not_page not_code)) (λ tables is. refl)
      (via q 1 _ (told wrap) _ _ _ _ _ (ap told wraps) (λ tables is. refl)
      (subst (λ es. Reaches q (told wrap) (pc_then ends last) up s
      (laid (moved wrap (phase_then ends last (publish_byte set))) new) es held) shown (rest wrap is)))
    where
      new : ℕ → ℕ
      new = put to w mem

      shown : seen (Writes to w ∷ log) ≡ Writes to w ∷ seen log
      shown = ap (λ (t : Bool). if t then Writes to w ∷ seen log else seen log) high

      told : Bool → Cpu
      told wrap = at 0x683C w x up s (nat_le 128 up) wrap c v d i (laid here new) flags (Writes to w ∷ log)

      rest : (wrap : Bool) → nat_eq (carried wrap 255 pages) 0 ≡ last
          → Reaches q (told wrap) (pc_then ends last) up s
          (laid (moved wrap (phase_then ends last (publish_byte set))) new) (seen (Writes to w ∷ log)) held
      rest false is = via q 1 _
          (at 0x6844 w x up s (nat_le 128 up) false c v d i (laid here new) flags (Writes to w ∷ log)) _ _ _ _ _ refl (λ tables is. refl)
          (same q s held free set old t0 t1 pages end second f0 f1 new flags w x up (nat_le 128 up) false c v d i
          (Writes to w ∷ log) ends last ended is)
      rest true is =
          let a1 = (f1 + 1) % 256 in
          let b1 = (t1 + 1) % 256 in
          let p1 = (pages + 255) % 256 in
          let log' : List Access = Writes 0x16 p1 ∷ Reads 0x16 pages ∷ Writes 0x15 b1 ∷ Reads 0x15 t1 ∷ Writes 0x1A a1
          ∷ Reads 0x1A f1 ∷ Writes to w ∷ log in
          via q 4 _ (at 0x6844 w x up s (nat_le 128 p1) (nat_eq p1 0) c v d i (laid (moved true 0x80) new) flags log') _ _
          _ _ _
          (ap (λ m. at 0x6844 w x up s (nat_le 128 p1) (nat_eq p1 0) c v d i m flags log')
          (ap (λ m. put 0x16 p1 (put 0x15 b1 m)) (put_page 10 a1 here new (omega arith) refl)
          ∙ ap (put 0x16 p1) (put_page 5 b1 (page_of 0x80 free (publish_byte set) old t0 t1 pages end second f0 a1)
          new (omega arith) refl)
          ∙ put_page 6 p1 (page_of 0x80 free (publish_byte set) old t0 b1 pages end second f0 a1) new
          (omega arith) refl)) (λ tables is. refl)
          (same q s held free set old t0 b1 p1 end second f0 a1 new flags w x up (nat_le 128 p1)
          (nat_eq p1 0) c v d i log' ends last ended is)

-- a word: its low byte at `next`, its high byte after it
module _ (q s : ℕ) (free : ℕ) (set : Bool) (old next t0 t1 pages end f0 f1 : ℕ) (mem flags : ℕ → ℕ) where
  abbrev page : Bool → List ℕ
  page second = page_of 0x80 free (publish_byte set) old t0 t1 pages end (second_byte second) f0 f1

  abbrev odd : ℕ
  odd = (next + 1) % 256

  abbrev after : ℕ
  after = (odd + 1) % 256

  abbrev from0 : ℕ
  from0 = (f0 + 256 * f1 + next) % 65536

  abbrev from1 : ℕ
  from1 = (f0 + 256 * f1 + odd) % 65536

  abbrev to0 : ℕ
  to0 = (t0 + 256 * t1 + next) % 65536

  abbrev to1 : ℕ
  to1 = (t0 + 256 * t1 + odd) % 65536

  -- what is taken of the table
  abbrev held : List ℕ
  held = from0 ∷ from1 ∷ []

  module _ (b0 b1 : ℕ) (b1_small : b1 < 256) (wrap ends last : Bool)
      (read0 : (second : Bool) → laid (page second) mem from0 ≡ b0) (read1 : (second : Bool)
      → laid (page second) (put to0 b0 mem) from1 ≡ b1)
      (flag0 : nat_eq from0 0x2002 ≡ false) (flag1 : nat_eq from1 0x2002 ≡ false) (device0 : is_hardware from0 ≡ false)
      (device1 : is_hardware from1 ≡ false)
      (page0 : in_page to0 ≡ false) (code0 : in_code to0 ≡ false) (high0 : nat_le 0x200 to0 ≡ true)
      (page1 : in_page to1 ≡ false) (code1 : in_code to1 ≡ false) (high1 : nat_le 0x200 to1 ≡ true)
      (wraps : nat_eq after 0 ≡ wrap) (ended : nat_eq ((after + 256 - end) % 256) 0 ≡ ends)
      (is : nat_eq (carried wrap 255 pages) 0 ≡ last) where
    abbrev new : ℕ → ℕ
    new = put to0 b0 mem

    abbrev phase : ℕ
    phase = phase_then ends last (publish_byte set)

    abbrev final : Bool → ℕ → ℕ → ℕ
    final second w = laid
        (page_of phase free (publish_byte set) old t0 (carried wrap 1 t1) (carried wrap 255 pages) end
        (second_byte second) f0 (carried wrap 1 f1)) (put to1 w new)

    abbrev Puts : Cpu → Bool → ℕ → List Access → Type 0
    Puts cpu second w log = Reaches q cpu (pc_then ends last) after s (final second w) (Writes to1 w ∷ seen log) held

    stores : (second : Bool) (w x : ℕ) (n z c v d i : Bool) (log : List Access)
        → Puts (at 0x6839 w x odd s n z c v d i (laid (page second) new) flags log) second w log
    stores second w x n z c v d i log =
        puts q s held free set old odd t0 t1 pages end (second_byte second) f0 f1 new flags w x n z c v d i log wrap ends last
        page1 code1 high1 wraps ended is

    first_held : (tables : ℕ → Bool) → all_in tables held ≡ true → (tables from0 && true) ≡ true
    first_held tables is = ap (λ (t : Bool). t && true) (both_true (tables from0) (tables from1 && true) is).0

    second_held : (tables : ℕ → Bool) → all_in tables held ≡ true → (tables from1 && true) ≡ true
    second_held tables is = (both_true (tables from0) (tables from1 && true) is).1

    -- after the load of the high byte
    loads : (second : Bool) (x : ℕ) (n v d i : Bool) (c : Bool) (log : List Access)
        → Puts (at 0x6829 b1 x odd s n (nat_eq b1 0) c v d i (laid (page second) new) flags log)
        (second_then true second b1) (put_for free true second b1) log
    loads true x n v d i c log =
        via q 2 _ (at 0x6839 b1 x odd s false true true v d i (laid (page false) new) flags
        (Writes 0x18 0 ∷ Reads 0x18 0x80 ∷ log)) _ _ _ _ _
        (ap (λ m. at 0x6839 b1 x odd s false true true v d i m flags (Writes 0x18 0 ∷ Reads 0x18 0x80 ∷ log))
        (put_page 8 0 (page true) new (omega arith) refl)) (λ tables is. refl)
        (stores false b1 x false true true v d i (Writes 0x18 0 ∷ Reads 0x18 0x80 ∷ log))
    loads false x n v d i c log = via q 3 _ (told (nat_le 0xB0 b1)) _ _ _ _ _
        (ap (λ m. at 0x682F b1 x odd s (nat_le 128 ((b1 + 256 - 0xB0) % 256)) (nat_eq ((b1 + 256 - 0xB0) % 256) 0)
        (nat_le 0xB0 b1) v d i m flags log') (put_page 8 0 (page false) new (omega arith) refl)) (λ tables is. refl)
        (opcode (nat_le 0xB0 b1) refl)
      where
        log' : List Access
        log' = Writes 0x18 0 ∷ Reads 0x18 0 ∷ log

        told : Bool → Cpu
        told great = at 0x682F b1 x odd s (nat_le 128 ((b1 + 256 - 0xB0) % 256))
            (nat_eq ((b1 + 256 - 0xB0) % 256) 0) great v d i (laid (page false) new) flags log'

        masked : ℕ
        masked = bit_and b1 0xDC

        found : Bool → Cpu
        found ours = at 0x6836 masked b1 odd s (nat_le 128 ((masked + 256 - 0xC0) % 256)) ours (nat_le 0xC0 masked) v d i
            (laid (page false) new) flags log'

        both : ℕ
        both = bit_or (bit_and free 2) b1

        opcode : (great : Bool) → nat_le 0xB0 b1 ≡ great → Puts (told great) (not great) (moved_byte free b1) log
        opcode false less =
            subst (λ w. Puts (told false) true w log) (sym (stays free b1 less))
            (via q 4 _ (at 0x6839 b1 0x80 odd s true false false v d i (laid (page true) new) flags
            (Writes 0x18 0x80 ∷ log')) _ _ _ _ _
            (ap (λ m. at 0x6839 b1 0x80 odd s true false false v d i m flags (Writes 0x18 0x80 ∷ log'))
            (put_page 8 0x80 (page false) new (omega arith) refl)) (λ tables is. refl)
            (stores true b1 0x80 true false false v d i (Writes 0x18 0x80 ∷ log')))
        opcode true great = via q 4 _ (found (nat_eq masked 0xC0)) _ _ _ _ _
            (ap found (compared masked 0xC0 below (omega arith))) (λ tables is. refl) (mine (nat_eq masked 0xC0))
          where
            below : masked < 256
            below = let less = and_le_l b1 0xDC in omega arith

            large : 0xB0 ≤ b1
            large = leb-true 0xB0 b1 great

            not_zero : nat_eq both 0 ≡ false
            not_zero = let more = le_or_r (bit_and free 2) b1 in
                ne_eqb both 0 (λ zero. absurd (omega (arith, large, more, zero)))

            ored : Bool → ℕ → Bool → Cpu
            ored t b z = let w = bit_or (bit_and free 2) (byte_read t flags b) in
                at 0x685E w b1 odd s (nat_le 128 w) z (nat_le 0xC0 masked) v d i (laid (page false) new)
                (flags_then t flags) (Reads from1 (byte_read t flags b) ∷ Reads 0x11 free ∷ log')

            with_z : Bool → ℕ → Cpu
            with_z t b = ored t b (nat_eq (bit_or (bit_and free 2) (byte_read t flags b)) 0)

            mine : (t : Bool) → Puts (found t) false (if t then both else b1) log
            mine true = via q 4 _ (ored false b1 false) _ _ _ _ _
                (ap (λ t. with_z t (laid (page false) new from1)) flag1 ∙ ap (with_z false) (read1 false)
                ∙ ap (ored false b1) not_zero) (λ tables is. taken from1 tables _ (second_held tables is))
                (via q 1 _ (at 0x6839 both b1 odd s (nat_le 128 both) false (nat_le 0xC0 masked) v d i
                (laid (page false) new) flags (Reads from1 b1 ∷ Reads 0x11 free ∷ log')) _ _ _ _ _ refl (λ tables is. refl)
                (subst (λ es. Reaches q
                (at 0x6839 both b1 odd s (nat_le 128 both) false (nat_le 0xC0 masked) v d i
                (laid (page false) new) flags (Reads from1 b1 ∷ Reads 0x11 free ∷ log'))
                (pc_then ends last) after s (final false both) es held)
                (ap (λ (t : Bool). Writes to1 both ∷ (if t then Reads from1 b1 ∷ seen log else seen log)) device1)
                (stores false both b1 (nat_le 128 both) false (nat_le 0xC0 masked) v d i (Reads from1 b1 ∷ Reads 0x11 free
                ∷ log'))))
            mine false = via q 2 _
                (at 0x6839 b1 b1 odd s (nat_le 128 b1) (nat_eq b1 0) (nat_le 0xC0 masked) v d i
                (laid (page false) new) flags log') _ _ _ _ _ refl (λ tables is. refl)
                (stores false b1 b1 (nat_le 128 b1) (nat_eq b1 0) (nat_le 0xC0 masked) v d i log')

    -- the whole word
    pub word : (second : Bool) (a x : ℕ) (n z c v d i : Bool) (log : List Access)
        → Reaches q (at 0x6822 a x next s n z c v d i (laid (page second) mem) flags log) (pc_then ends last) after s
        (final (second_then true second b1) (put_for free true second b1))
        (Writes to1 (put_for free true second b1) ∷ Writes to0 b0 ∷ seen log) held
    word second a x n z c v d i log =
        via q 1 _ (told0 false b0) _ _ _ _ _ (ap (λ t. told0 t (laid (page second) mem from0)) flag0
        ∙ ap (told0 false) (read0 second)) (λ tables is. taken from0 tables _ (first_held tables is))
        (via q 1 _ (at 0x6826 b0 x next s (nat_le 128 b0) (nat_eq b0 0) c v d i (laid (page second) new) flags log1) _ _ _
        _ _
        (ap (λ m. at 0x6826 b0 x next s (nat_le 128 b0) (nat_eq b0 0) c v d i m flags log1)
        (put_out to0 b0 (page second) mem page0 code0)) (λ tables is. refl)
        (via q 2 _ (told1 false b1) _ _ _ _ _ (ap (λ t. told1 t (laid (page second) new from1)) flag1
        ∙ ap (told1 false) (read1 second)) (λ tables is. taken from1 tables _ (second_held tables is))
        (subst (λ es. Reaches q (told1 false b1) (pc_then ends last) after s (final (second_then true second b1) w1)
        (Writes to1 w1 ∷ es) held) quiet
        (loads second x (nat_le 128 b1) v d i c (Reads from1 b1 ∷ log1)))))
      where
        w1 : ℕ
        w1 = put_for free true second b1

        log1 : List Access
        log1 = Writes to0 b0 ∷ Reads from0 b0 ∷ log

        told0 : Bool → ℕ → Cpu
        told0 t b = let byte = byte_read t flags b in
            at 0x6824 byte x next s (nat_le 128 byte) (nat_eq byte 0) c v d i (laid (page second) mem)
            (flags_then t flags) (Reads from0 byte ∷ log)

        told1 : Bool → ℕ → Cpu
        told1 t b = let byte = byte_read t flags b in
            at 0x6829 byte x odd s (nat_le 128 byte) (nat_eq byte 0) c v d i (laid (page second) new) (flags_then t flags)
            (Reads from1 byte ∷ log1)

        quiet : seen (Reads from1 b1 ∷ log1) ≡ Writes to0 b0 ∷ seen log
        quiet = ap (λ (t : Bool). if t then Reads from1 b1 ∷ seen log1 else seen log1) device1
            ∙ ap (λ (t : Bool). if t then Writes to0 b0
            ∷ seen (Reads from0 b0 ∷ log) else seen (Reads from0 b0 ∷ log)) high0
            ∙ ap (λ (t : Bool). Writes to0 b0 ∷ (if t then Reads from0 b0 ∷ seen log else seen log)) device0
