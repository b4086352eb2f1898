-- The routines that build a frame, as the code does them.
use Rattle.std.proofs.Common.{◌≡◌, ℕ, ◌+◌, ◌-◌, ◌*◌, ◌%◌, ◌<◌, Bool, true, false, List, [], ◌∷◌, refl, ap, ◌∙◌, subst}
use Rattle.std.proofs.Common.{arith}
use Rattle.std.specs.Prelude.{nat_eq, nat_le, ◌&&◌, if◌then◌else◌}
use Rattle.dvg_calls_6502.specs.Processor.{Cpu, Access, Reads, Writes, put}
use Rattle.dvg_calls_6502.specs.Board.{seen}
use Rattle.dvg_calls_6502.proofs.ProcessorRuns.{Comes, by, at, comes}
use Rattle.dvg_calls_6502.proofs.Memory.{laid, page_of, put_page, put_out, in_page, in_code}
use Rattle.dvg_calls_6502.proofs.FedByte.{compared}
use Rattle.dvg_calls_6502.proofs.StoredByte.{carried}

-- the last page has no room where the place is its last word's or the one before it
abbrev pub is_full : (last late : Bool) → Bool
is_full last late = last && late

module _ (q a x y s : ℕ) (n z c v d i : Bool) (free publish next t0 t1 pages end second f0 f1 : ℕ) (mem flags : ℕ
    → ℕ) (log : List Access) where
  abbrev page : ℕ → List ℕ
  page phase = page_of phase free publish next t0 t1 pages end second f0 f1

  -- no frame is being built
  pub put_refuses : (phase : ℕ) → phase < 256 → nat_eq phase 7 ≡ false
      → Comes q (at 0x6957 a x y s n z c v d i (laid (page phase) mem) flags log) s true (laid (page phase) mem) (seen log)
      []
  put_refuses phase small other =
      by q 2 _ (told false) s _ _ _ (ap told (compared phase 7 small (omega arith) ∙ other)) (λ tables is. refl)
      (comes 2 refl refl refl refl refl (λ tables is. refl) refl)
    where
      told : Bool → Cpu
      told t = at 0x695B a x phase s (nat_le 128 ((phase + 256 - 7) % 256)) t (nat_le 7 phase) v d i (laid (page phase) mem)
          flags (Reads 0x10 phase ∷ log)

  -- where the two bytes go
  abbrev odd : ℕ
  odd = (next + 1) % 256

  abbrev up : ℕ
  up = (odd + 1) % 256

  abbrev to0 : ℕ
  to0 = (t0 + 256 * t1 + next) % 65536

  abbrev to1 : ℕ
  to1 = (t0 + 256 * t1 + odd) % 65536

  -- the driver's bytes after a word
  abbrev moved : Bool → List ℕ
  moved wrap = page_of 7 free publish up t0 (carried wrap 1 t1) (carried wrap 1 pages) end second f0 f1

  abbrev new : ℕ → ℕ
  new = put to1 x (put to0 a mem)

  abbrev log3 : List Access
  log3 = Reads 0x13 next ∷ Reads 0x16 pages ∷ Reads 0x10 7 ∷ log

  module _ (page0 : in_page to0 ≡ false) (code0 : in_code to0 ≡ false) (high0 : nat_le 0x200 to0 ≡ true)
      (page1 : in_page to1 ≡ false) (code1 : in_code to1 ≡ false) (high1 : nat_le 0x200 to1 ≡ true)
      (wrap : Bool) (wraps : nat_eq up 0 ≡ wrap) where
    -- from the store on
    word : (n z : Bool) → Comes q (at 0x6969 a x next s n z false v d i (laid (page 7) mem) flags log3) s false
        (laid (moved wrap) new) (Writes to1 x ∷ Writes to0 a ∷ seen log) []
    word n z =
        by q 1 _ (at 0x696B a x next s n z false v d i (laid (page 7) (put to0 a mem)) flags log4) s false _ _
        (ap (λ m. at 0x696B a x next s n z false v d i m flags log4) (put_out to0 a (page 7) mem page0 code0))
        (λ tables is. refl)
        (by q 3 _ (at 0x696F x x odd s (nat_le 128 x) (nat_eq x 0) false v d i (laid (page 7) new) flags log5) s false _ _
        (ap (λ m. at 0x696F x x odd s (nat_le 128 x) (nat_eq x 0) false v d i m flags log5)
        (put_out to1 x (page 7) (put to0 a mem) page1 code1)) (λ tables is. refl)
        (by q 2 _ (told wrap) s false _ _
        (ap (λ m. at 0x6972 x x up s (nat_le 128 up) (nat_eq up 0) false v d i m flags log6)
        (put_page 3 up (page 7) new (omega arith) refl) ∙ ap told wraps) (λ tables is. refl)
        (subst (λ es. Comes q (told wrap) s false (laid (moved wrap) new) es []) shown (rest wrap))))
      where
        log4 : List Access
        log4 = Writes to0 a ∷ log3

        log5 : List Access
        log5 = Writes to1 x ∷ log4

        log6 : List Access
        log6 = Writes 0x13 up ∷ log5

        there : List ℕ
        there = page_of 7 free publish up t0 t1 pages end second f0 f1

        told : Bool → Cpu
        told wrap = at 0x6972 x x up s (nat_le 128 up) wrap false v d i (laid there new) flags log6

        shown : seen log6 ≡ Writes to1 x ∷ Writes to0 a ∷ seen log
        shown = ap (λ (t : Bool). if t then Writes to1 x ∷ seen log4 else seen log4) high1
            ∙ ap (λ (t : Bool). Writes to1 x ∷ (if t then Writes to0 a ∷ seen log else seen log)) high0

        rest : (wrap : Bool) → Comes q (told wrap) s false (laid (moved wrap) new) (seen log6) []
        rest false = comes 1 refl refl refl refl refl (λ tables is. refl) refl
        rest true = comes 3 refl refl refl refl refl (λ tables is. refl)
            (ap (put 0x16 ((pages + 1) % 256)) (put_page 5 ((t1 + 1) % 256) there new (omega arith) refl)
            ∙ put_page 6 ((pages + 1) % 256) (page_of 7 free publish up t0 ((t1 + 1) % 256) pages end second f0 f1) new
            (omega arith) refl)

    abbrev told_page : Bool → Cpu
    told_page last = at 0x6963 a x next s (nat_le 128 next) (nat_eq next 0) last v d i (laid (page 7) mem) flags log3

    abbrev told_place : Bool → Cpu
    told_place late = at 0x6967 a x next s (nat_le 128 ((next + 256 - 0xFE) % 256)) (nat_eq ((next + 256 - 0xFE) % 256) 0)
        late v d i (laid (page 7) mem) flags log3

    pub put_room : (last late : Bool) → nat_le 3 pages ≡ last → nat_le 0xFE next ≡ late → is_full last late ≡ false
        → Comes q (at 0x6957 a x y s n z c v d i (laid (page 7) mem) flags log) s false (laid (moved wrap) new)
        (Writes to1 x ∷ Writes to0 a ∷ seen log) []
    put_room last late is also room =
        by q 6 _ (told_page last) s false _ _ (ap told_page is) (λ tables is. refl) (rest last late also room)
      where
        rest : (last late : Bool) → nat_le 0xFE next ≡ late → is_full last late ≡ false
            → Comes q (told_page last) s false (laid (moved wrap) new) (Writes to1 x ∷ Writes to0 a ∷ seen log) []
        rest false late also room = by q 1 _ (at 0x6969 a x next s (nat_le 128 next) (nat_eq next 0) false v d i
            (laid (page 7) mem) flags log3) s false _ _ refl (λ tables is. refl)
            (word (nat_le 128 next) (nat_eq next 0))
        rest true false also room = by q 2 _ (told_place false) s false _ _ (ap told_place also) (λ tables is. refl)
            (by q 1 _ (at 0x6969 a x next s (nat_le 128 ((next + 256 - 0xFE) % 256))
            (nat_eq ((next + 256 - 0xFE) % 256) 0) false v d i (laid (page 7) mem) flags log3) s false _ _ refl
            (λ tables is. refl)
            (word (nat_le 128 ((next + 256 - 0xFE) % 256)) (nat_eq ((next + 256 - 0xFE) % 256) 0)))
        rest true true also room = absurd (cc)

  -- it is full
  pub put_full : nat_le 3 pages ≡ true → nat_le 0xFE next ≡ true
      → Comes q (at 0x6957 a x y s n z c v d i (laid (page 7) mem) flags log) s true (laid (page 7) mem) (seen log) []
  put_full last late =
      by q 6 _ (told_page true) s true _ _ (ap told_page last) (λ tables is. refl)
      (by q 2 _ (told_place true) s true _ _ (ap told_place late) (λ tables is. refl)
      (comes 1 refl refl refl refl refl (λ tables is. refl) refl))
    where
      told_page : Bool → Cpu
      told_page last = at 0x6963 a x next s (nat_le 128 next) (nat_eq next 0) last v d i (laid (page 7) mem) flags log3

      told_place : Bool → Cpu
      told_place late = at 0x6967 a x next s (nat_le 128 ((next + 256 - 0xFE) % 256))
          (nat_eq ((next + 256 - 0xFE) % 256) 0) late v d i (laid (page 7) mem) flags log3
