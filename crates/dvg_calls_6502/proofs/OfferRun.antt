-- dvg_reset, dvg_offer and dvg_redraw, as the code does them.
use Rattle.std.proofs.Common.{◌≡◌, ℕ, ◌+◌, ◌-◌, ◌*◌, ◌%◌, ◌<◌, Bool, true, false, List, [], ◌∷◌, refl, ap, ◌∙◌, subst}
use Rattle.std.proofs.Common.{arith}
use Rattle.std.specs.Prelude.{nat_eq, nat_le, ◌&&◌, if◌then◌else◌}
use Rattle.dvg_calls_6502.specs.Processor.{Cpu, Access, Reads, Writes, put, run, bit_of}
use Rattle.dvg_calls_6502.specs.Board.{seen, is_hardware}
use Rattle.dvg_calls_6502.proofs.ProcessorRuns.{Comes, by, at, comes}
use Rattle.dvg_calls_6502.proofs.Memory.{laid, page_of, put_page, both_true}
use Rattle.dvg_calls_6502.proofs.FedByte.{compared, byte_read, flags_then, taken}

abbrev pub free_of : Bool → ℕ
free_of true = 0xE2
free_of false = 0xE0

abbrev pub high_of : Bool → ℕ
high_of true = 0x44
high_of false = 0x40

module _ (q a x y s : ℕ) (n z c v d i : Bool) (free next t0 t1 pages end second f0 f1 : ℕ) (mem flags : ℕ
    → ℕ) (log : List Access) where
  abbrev page : ℕ → ℕ → List ℕ
  page phase publish = page_of phase free publish next t0 t1 pages end second f0 f1

  pub reset : (phase publish : ℕ)
      → Comes q (at 0x6800 a x y s n z c v d i (laid (page phase publish) mem) flags log) s c (laid (page 0 3) mem)
      (seen log) []
  reset phase publish = comes 4 refl refl refl refl refl (λ tables is. refl)
      (ap (put 0x12 3) (put_page 0 0 (page phase publish) mem (omega arith) refl)
      ∙ put_page 2 3 (page 0 publish) mem (omega arith) refl)

  pub offer_refuses : (phase publish : ℕ) → phase < 256 → nat_eq phase 2 ≡ false
      → Comes q (at 0x68FE a x y s n z c v d i (laid (page phase publish) mem) flags log) s true
      (laid (page phase publish) mem) (seen log) []
  offer_refuses phase publish small not_idle =
      by q 2 _ (told false) s _ _ _ (ap told (compared phase 2 small (omega arith) ∙ not_idle)) (λ tables is. refl)
      (record { steps = 2; returns = refl; stack = refl; carry = refl; memory = refl; accesses = refl; steady = λ tables is. refl; there = refl })
    where
      told : Bool → Cpu
      told t = at 0x6902 a x phase s (nat_le 128 ((phase + 256 - 2) % 256)) t (nat_le 2 phase) v d i
          (laid (page phase publish) mem) flags (Reads 0x10 phase ∷ log)

  pub redraw_takes : Comes q (at 0x6943 a x y s n z c v d i (laid (page 2 4) mem) flags log) s false (laid (page 5 4) mem)
      (seen log) []
  redraw_takes = comes 9 refl refl refl refl refl (λ tables is. refl) (put_page 0 5 (page 2 4) mem (omega arith) refl)

  -- nothing was published
  pub redraw_first : Comes q (at 0x6943 a x y s n z c v d i (laid (page 2 3) mem) flags log) s true (laid (page 2 3) mem)
      (seen log) []
  redraw_first = record { steps = 7; returns = refl; stack = refl; carry = refl; accesses = refl; memory = refl; steady = λ tables is. refl; there = refl }

  pub redraw_refuses : (phase publish : ℕ) → phase < 256 → nat_eq phase 2 ≡ false
      → Comes q (at 0x6943 a x y s n z c v d i (laid (page phase publish) mem) flags log) s true
      (laid (page phase publish) mem) (seen log) []
  redraw_refuses phase publish small not_idle =
      by q 2 _ (told false) s _ _ _ (ap told (compared phase 2 small (omega arith) ∙ not_idle)) (λ tables is. refl)
      (record { steps = 2; returns = refl; stack = refl; carry = refl; memory = refl; accesses = refl; steady = λ tables is. refl; there = refl })
    where
      told : Bool → Cpu
      told t = at 0x6947 phase x y s (nat_le 128 ((phase + 256 - 2) % 256)) t (nat_le 2 phase) v d i
          (laid (page phase publish) mem) flags (Reads 0x10 phase ∷ log)

first : (t u : Bool) → (t && u) ≡ true → (t && true) ≡ true
first true u is = refl
first false u is = absurd (cc)

module _ (q a x y s : ℕ) (n z c v d i : Bool) (publish next t0 t1 pages end second f0 f1 : ℕ) (mem flags : ℕ
    → ℕ) (log : List Access) where
  abbrev low_place : ℕ
  low_place = (a + 256 * x + 0) % 65536

  abbrev high_place : ℕ
  high_place = (a + 256 * x + 1) % 65536

  module _ (h : Bool) (wl wh : ℕ) (low_read : (page : List ℕ) → laid page mem low_place ≡ wl)
      (high_read : (page : List ℕ) → laid page mem high_place ≡ wh)
      (low_flag : nat_eq low_place 0x2002 ≡ false) (high_flag : nat_eq high_place 0x2002 ≡ false)
      (low_device : is_hardware low_place ≡ false) (high_device : is_hardware high_place ≡ false) where
    abbrev paged : ℕ → ℕ → List ℕ
    paged pages end = page_of 2 (free_of h) publish next t0 t1 pages end second a x

    -- the table's bytes, and the pages among them
    abbrev e0 : ℕ
    e0 = 2 * wl % 256

    abbrev e2 : ℕ
    e2 = ((e0 + 1) % 256 + 1) % 256

    abbrev p0 : ℕ
    p0 = (2 * wh + bit_of (nat_le 128 wl)) % 256

    abbrev p2 : Bool → ℕ
    p2 t = if t then (p0 + 1) % 256 else p0

    abbrev final : Bool → ℕ → ℕ
    final t = laid (page_of 0x80 (free_of h) publish 2 0 (high_of h) (p2 t) e2 0 a x) mem

    -- the states in between
    abbrev log1 : List Access
    log1 = Writes 0x1A x ∷ Writes 0x19 a ∷ Reads 0x10 2 ∷ log

    abbrev log2 : List Access
    log2 = Reads high_place wh ∷ log1

    abbrev log3 : List Access
    log3 = Writes 0x16 wh ∷ log2

    abbrev log4 : List Access
    log4 = Reads low_place wl ∷ log3

    abbrev s1 : Cpu
    s1 = at 0x690A a x 1 s false false true v d i (laid (paged pages end) mem) flags log1

    abbrev told2 : Bool → ℕ → Cpu
    told2 t b = let byte = byte_read t flags b in
        at 0x690C byte x 1 s (nat_le 128 byte) (nat_eq byte 0) true v d i (laid (paged pages end) mem)
        (flags_then t flags) (Reads high_place byte ∷ log1)

    abbrev s3 : Cpu
    s3 = at 0x690F wh x 0 s false true true v d i (laid (paged wh end) mem) flags log3

    abbrev told4 : Bool → ℕ → Cpu
    told4 t b = let byte = byte_read t flags b in
        at 0x6911 byte x 0 s (nat_le 128 byte) (nat_eq byte 0) true v d i (laid (paged wh end) mem) (flags_then t flags)
        (Reads low_place byte ∷ log3)

    abbrev log5 : List Access
    log5 = Writes 0x17 e2 ∷ Reads 0x17 ((e0 + 1) % 256) ∷ Writes 0x17 ((e0 + 1) % 256) ∷ Reads 0x17 e0
        ∷ Writes 0x17 e0 ∷ Writes 0x16 p0 ∷ Reads 0x16 wh ∷ log4

    abbrev told5 : Bool → (ℕ → ℕ) → Cpu
    told5 t m = at 0x691A e0 x 0 s (nat_le 128 e2) t (nat_le 128 wh) v d i m flags log5

    to1 : (h : Bool) → run q 6
        (at 0x68FE a x y s n z c v d i (laid (page_of 2 (free_of h) publish next t0 t1 pages end second f0 f1) mem) flags
        log)
        ≡ at 0x690A a x 1 s false false true v d i
        (laid (page_of 2 (free_of h) publish next t0 t1 pages end second a x) mem) flags log1
    to1 h = ap (λ m. at 0x690A a x 1 s false false true v d i m flags log1)
        (ap (put 0x1A x) (put_page 9 a (page_of 2 (free_of h) publish next t0 t1 pages end second f0 f1) mem
        (omega arith) refl)
        ∙ put_page 10 x (page_of 2 (free_of h) publish next t0 t1 pages end second a f1) mem (omega arith) refl)

    to5 : run q 5 (told4 false wl) ≡ told5 (nat_eq e2 0) (laid (paged p0 e2) mem)
    to5 = ap (told5 (nat_eq e2 0))
        (ap (λ m. put 0x17 e2 (put 0x17 ((e0 + 1) % 256) (put 0x17 e0 m)))
        (put_page 6 p0 (paged wh end) mem (omega arith) refl)
        ∙ ap (λ m. put 0x17 e2 (put 0x17 ((e0 + 1) % 256) m)) (put_page 7 e0 (paged p0 end) mem (omega arith) refl)
        ∙ ap (put 0x17 e2) (put_page 7 ((e0 + 1) % 256) (paged p0 e0) mem (omega arith) refl)
        ∙ put_page 7 e2 (paged p0 ((e0 + 1) % 256)) mem (omega arith) refl)

    -- from `sized` on, at either half
    readied : (h : Bool) (p : ℕ)
        → put 0x10 0x80 (put 0x13 2
        (put 0x15 (high_of h)
        (put 0x14 0 (put 0x18 0 (laid (page_of 2 (free_of h) publish next t0 t1 p e2 second a x) mem)))))
        ≡ laid (page_of 0x80 (free_of h) publish 2 0 (high_of h) p e2 0 a x) mem
    readied h p =
        ap (λ m. put 0x10 0x80 (put 0x13 2 (put 0x15 (high_of h) (put 0x14 0 m))))
        (put_page 8 0 (page_of 2 (free_of h) publish next t0 t1 p e2 second a x) mem (omega arith) refl)
        ∙ ap (λ m. put 0x10 0x80 (put 0x13 2 (put 0x15 (high_of h) m)))
        (put_page 4 0 (page_of 2 (free_of h) publish next t0 t1 p e2 0 a x) mem (omega arith) refl)
        ∙ ap (λ m. put 0x10 0x80 (put 0x13 2 m))
        (put_page 5 (high_of h) (page_of 2 (free_of h) publish next 0 t1 p e2 0 a x) mem (omega arith) refl)
        ∙ ap (put 0x10 0x80) (put_page 3 2 (page_of 2 (free_of h) publish next 0 (high_of h) p e2 0 a x) mem
        (omega arith) refl)
        ∙ put_page 0 0x80 (page_of 2 (free_of h) publish 2 0 (high_of h) p e2 0 a x) mem (omega arith) refl

    rest : (h t : Bool) → Comes q
        (at 0x691A e0 x 0 s (nat_le 128 e2) t (nat_le 128 wh) v d i
        (laid (page_of 2 (free_of h) publish next t0 t1 p0 e2 second a x) mem) flags log5) s false
        (laid (page_of 0x80 (free_of h) publish 2 0 (high_of h) (p2 t) e2 0 a x) mem) (seen log5) (low_place ∷ high_place ∷ [])
    rest true true = comes 15 refl refl refl refl refl (λ tables is. refl)
        (ap (λ m. put 0x10 0x80 (put 0x13 2 (put 0x15 0x44 (put 0x14 0 (put 0x18 0 m)))))
        (put_page 6 ((p0 + 1) % 256) (page_of 2 0xE2 publish next t0 t1 p0 e2 second a x) mem (omega arith) refl)
        ∙ readied true ((p0 + 1) % 256))
    rest true false = comes 14 refl refl refl refl refl (λ tables is. refl) (readied true p0)
    rest false true = comes 15 refl refl refl refl refl (λ tables is. refl)
        (ap (λ m. put 0x10 0x80 (put 0x13 2 (put 0x15 0x40 (put 0x14 0 (put 0x18 0 m)))))
        (put_page 6 ((p0 + 1) % 256) (page_of 2 0xE0 publish next t0 t1 p0 e2 second a x) mem (omega arith) refl)
        ∙ readied false ((p0 + 1) % 256))
    rest false false = comes 14 refl refl refl refl refl (λ tables is. refl) (readied false p0)

    quiet : seen log5 ≡ seen log
    quiet = ap (λ (t : Bool). if t then Reads low_place wl ∷ seen log2 else seen log2) low_device
        ∙ ap (λ (t : Bool). if t then Reads high_place wh ∷ seen log else seen log) high_device

    pub offer_takes : Comes q
        (at 0x68FE a x y s n z c v d i (laid (page_of 2 (free_of h) publish next t0 t1 pages end second f0 f1) mem) flags
        log) s false (final (nat_eq e2 0)) (seen log) (low_place ∷ high_place ∷ [])
    offer_takes = subst (λ es. Comes q
        (at 0x68FE a x y s n z c v d i (laid (page_of 2 (free_of h) publish next t0 t1 pages end second f0 f1) mem) flags
        log) s false (final (nat_eq e2 0)) es (low_place ∷ high_place ∷ [])) quiet
        (by q 6 _ s1 s false (final (nat_eq e2 0)) (seen log5) (to1 h) (λ tables is. refl)
        (by q 1 s1 (told2 false wh) s false (final (nat_eq e2 0)) (seen log5)
        (ap (λ t. told2 t (laid (paged pages end) mem high_place)) high_flag
        ∙ ap (told2 false) (high_read (paged pages end)))
        (λ tables is. taken high_place tables _ (both_true (tables low_place) _ is).1)
        (by q 2 (told2 false wh) s3 s false (final (nat_eq e2 0)) (seen log5)
        (ap (λ m. at 0x690F wh x 0 s false true true v d i m flags log3)
        (put_page 6 wh (paged pages end) mem (omega arith) refl)) (λ tables is. refl)
        (by q 1 s3 (told4 false wl) s false (final (nat_eq e2 0)) (seen log5)
        (ap (λ t. told4 t (laid (paged wh end) mem low_place)) low_flag
        ∙ ap (told4 false) (low_read (paged wh end)))
        (λ tables is. taken low_place tables _ (first (tables low_place) _ is))
        (by q 5 (told4 false wl) (told5 (nat_eq e2 0) (laid (paged p0 e2) mem)) s false (final (nat_eq e2 0))
        (seen log5) to5 (λ tables is. refl)
        (rest h (nat_eq e2 0)))))))
