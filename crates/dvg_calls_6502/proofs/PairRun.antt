-- dvg_pair, dvg_labs, dvg_open and dvg_close, as the code does them.
use Rattle.std.proofs.Common.{◌≡◌, ℕ, ◌+◌, ◌-◌, ◌*◌, ◌%◌, ◌<◌, Bool, true, false, List, [], ◌∷◌, refl, ap, ◌∙◌, subst}
use Rattle.std.proofs.Common.{arith, sym, zero, suc, not, leb-true, le-leb}
use Rattle.std.specs.Prelude.{nat_eq, nat_le, bit_and, bit_or, bit_xor, if◌then◌else◌, slice_index, nat_lt, ◌&&◌}
use Rattle.dvg_calls_6502.specs.Processor.{Cpu, Access, Reads, Writes, put, run}
use Rattle.dvg_calls_6502.specs.Board.{seen}
use Rattle.dvg_calls_6502.proofs.ProcessorRuns.{Comes, by, at, comes}
use Rattle.dvg_calls_6502.proofs.Memory.{laid, page_of, put_page, put_out, in_page, in_code, le_not}
use Rattle.dvg_calls_6502.proofs.StoredByte.{carried}
use Rattle.dvg_calls_6502.proofs.BuildRun.{is_full}
use Rattle.dvg_calls_6502.proofs.Follow.{Sym, Way, Goes, Puts, IsFar, full, over as over', in_part, follow}
use Rattle.dvg_calls_6502.proofs.Arrive.{arrives}
use Rattle.dvg_calls_6502.proofs.Parts.{parts, work_is, comes_apart}
use Rattle.dvg_calls_6502.proofs.OfferRun.{free_of, high_of}

-- where a byte is stored
pub record Place (to : ℕ) : Type 0 where
  pub page : in_page to ≡ false
  pub code : in_code to ≡ false
  pub high : nat_le 0x200 to ≡ true
  pub near : (b : ℕ) → b < 0x100 → nat_eq b to ≡ false

far : {to : ℕ} → Place to → IsFar to
far {to = to} place = (off, place.code, place.high)
  where
    off : in_part to ≡ false
    off = let low = leb-true 0x200 to place.high in
        let a : nat_le 0x10 to ≡ true = le-leb 0x10 to (omega (arith, low)) in
        let b : nat_lt to 0x21 ≡ false = le_not (suc to) 0x21 (omega (arith, low)) in rw (a, b) refl

module _ (q x s : ℕ) (v d i : Bool) (free publish next t0 t1 pages end second f0 f1 : ℕ) (mem flags : ℕ → ℕ) where
  abbrev odd' : ℕ
  odd' = (next + 1) % 256

  abbrev mid : ℕ
  mid = (odd' + 1) % 256

  abbrev at0 : ℕ
  at0 = (t0 + 256 * t1 + next) % 65536

  abbrev at1 : ℕ
  at1 = (t0 + 256 * t1 + odd') % 65536

  abbrev page : List ℕ
  page = page_of 7 free publish next t0 t1 pages end second f0 f1

  -- the third byte's page, and where it and the fourth go
  abbrev t1' : Bool → ℕ
  t1' wrap = carried wrap 1 t1

  abbrev at2 : Bool → ℕ
  at2 wrap = (t0 + 256 * t1' wrap + mid) % 65536

  abbrev at3 : Bool → ℕ
  at3 wrap = (t0 + 256 * t1' wrap + (mid + 1) % 256) % 65536

  abbrev done : ℕ
  done = ((mid + 1) % 256 + 1) % 256

  -- the driver's bytes after both words
  abbrev paired : (wrap over : Bool) → List ℕ
  paired wrap over = page_of 7 free publish done t0 (carried over 1 (t1' wrap)) (carried over 1 (carried wrap 1 pages)) end
      second f0 f1

  abbrev news : Bool → (b0 b1 b2 b3 : ℕ) → ℕ → ℕ
  news wrap b0 b1 b2 b3 = put (at3 wrap) b3 (put (at2 wrap) b2 (put at1 b1 (put at0 b0 mem)))

  abbrev wrote4 : Bool → (b0 b1 b2 b3 : ℕ) → List Access → List Access
  wrote4 wrap b0 b1 b2 b3 log =
      Writes (at3 wrap) b3 ∷ Writes (at2 wrap) b2 ∷ Writes at1 b1 ∷ Writes at0 b0 ∷ seen log

  module _ (b0 b1 b2 b3 : ℕ) (is0 : mem 0x1B ≡ b0) (is1 : mem 0x1C ≡ b1) (is2 : mem 0x1D ≡ b2) (is3 : mem 0x1E ≡ b3)
      (wrap over : Bool) (wraps : nat_eq mid 0 ≡ wrap) (overs : nat_eq done 0 ≡ over)
      (place0 : Place at0) (place1 : Place at1) (place2 : Place (at2 wrap)) (place3 : Place (at3 wrap))
      (a y : ℕ) (n z c : Bool) (log : List Access) where
    abbrev work : List ℕ
    work = b0 ∷ b1 ∷ b2 ∷ b3 ∷ mem 0x1F ∷ mem 0x20 ∷ []

    abbrev it : Sym
    it = record { cpu = at 0x6989 a x y s n z c v d i mem flags log; page = parts page work; events = seen log }

    -- each way through the code
    path : (last late wrap over : Bool) → nat_le 3 pages ≡ last → nat_le 0xFC next ≡ late → is_full last late ≡ false
        → nat_eq mid 0 ≡ wrap → nat_eq done 0 ≡ over → Place (at2 wrap) → Place (at3 wrap)
        → Comes q (full it) s false (over' (parts (paired wrap over) work) (news wrap b0 b1 b2 b3)) (wrote4 wrap b0 b1 b2 b3 log) []
    path true true wrap over is also room wraps overs place2 place3 = absurd (cc)
    path true false true true is also room wraps overs place2 place3 = arrives q 28 (Goes false ∷ Goes false ∷ Goes false ∷ Puts at0 ∷ Puts at1 ∷ Goes false ∷ Puts (at2 true) ∷ Puts (at3 true) ∷ Goes false ∷ []) it
        (refl, (ap not is, (also, ((refl, far place0), ((refl, far place1), (ap not wraps, ((refl, far place2), ((refl, far place3), (ap not overs, tt))))))))) refl refl refl (λ tables held. refl)
    path true false true false is also room wraps overs place2 place3 = arrives q 26 (Goes false ∷ Goes false ∷ Goes false ∷ Puts at0 ∷ Puts at1 ∷ Goes false ∷ Puts (at2 true) ∷ Puts (at3 true) ∷ Goes true ∷ []) it
        (refl, (ap not is, (also, ((refl, far place0), ((refl, far place1), (ap not wraps, ((refl, far place2), ((refl, far place3), (ap not overs, tt))))))))) refl refl refl (λ tables held. refl)
    path true false false true is also room wraps overs place2 place3 = arrives q 26 (Goes false ∷ Goes false ∷ Goes false ∷ Puts at0 ∷ Puts at1 ∷ Goes true ∷ Puts (at2 false) ∷ Puts (at3 false) ∷ Goes false ∷ []) it
        (refl, (ap not is, (also, ((refl, far place0), ((refl, far place1), (ap not wraps, ((refl, far place2), ((refl, far place3), (ap not overs, tt))))))))) refl refl refl (λ tables held. refl)
    path true false false false is also room wraps overs place2 place3 = arrives q 24 (Goes false ∷ Goes false ∷ Goes false ∷ Puts at0 ∷ Puts at1 ∷ Goes true ∷ Puts (at2 false) ∷ Puts (at3 false) ∷ Goes true ∷ []) it
        (refl, (ap not is, (also, ((refl, far place0), ((refl, far place1), (ap not wraps, ((refl, far place2), ((refl, far place3), (ap not overs, tt))))))))) refl refl refl (λ tables held. refl)
    path false late true true is also room wraps overs place2 place3 = arrives q 26 (Goes false ∷ Goes true ∷ Puts at0 ∷ Puts at1 ∷ Goes false ∷ Puts (at2 true) ∷ Puts (at3 true) ∷ Goes false ∷ []) it
        (refl, (ap not is, ((refl, far place0), ((refl, far place1), (ap not wraps, ((refl, far place2), ((refl, far place3), (ap not overs, tt)))))))) refl refl refl (λ tables held. refl)
    path false late true false is also room wraps overs place2 place3 = arrives q 24 (Goes false ∷ Goes true ∷ Puts at0 ∷ Puts at1 ∷ Goes false ∷ Puts (at2 true) ∷ Puts (at3 true) ∷ Goes true ∷ []) it
        (refl, (ap not is, ((refl, far place0), ((refl, far place1), (ap not wraps, ((refl, far place2), ((refl, far place3), (ap not overs, tt)))))))) refl refl refl (λ tables held. refl)
    path false late false true is also room wraps overs place2 place3 = arrives q 24 (Goes false ∷ Goes true ∷ Puts at0 ∷ Puts at1 ∷ Goes true ∷ Puts (at2 false) ∷ Puts (at3 false) ∷ Goes false ∷ []) it
        (refl, (ap not is, ((refl, far place0), ((refl, far place1), (ap not wraps, ((refl, far place2), ((refl, far place3), (ap not overs, tt)))))))) refl refl refl (λ tables held. refl)
    path false late false false is also room wraps overs place2 place3 = arrives q 22 (Goes false ∷ Goes true ∷ Puts at0 ∷ Puts at1 ∷ Goes true ∷ Puts (at2 false) ∷ Puts (at3 false) ∷ Goes true ∷ []) it
        (refl, (ap not is, ((refl, far place0), ((refl, far place1), (ap not wraps, ((refl, far place2), ((refl, far place3), (ap not overs, tt)))))))) refl refl refl (λ tables held. refl)

    there : (k : ℕ) → k < 6 → slice_index work k ≡ mem (0x1B + k)
    there zero less = sym is0
    there (suc zero) less = sym is1
    there (suc (suc zero)) less = sym is2
    there (suc (suc (suc zero))) less = sym is3
    there (suc (suc (suc (suc zero)))) less = refl
    there (suc (suc (suc (suc (suc zero))))) less = refl
    there (suc (suc (suc (suc (suc (suc k)))))) less = absurd (omega arith)

    later : (k : ℕ) → k < 6 → slice_index work k ≡ news wrap b0 b1 b2 b3 (0x1B + k)
    later k less = there k less
        ∙ sym (near (at3 wrap) b3 place3 (put (at2 wrap) b2 (put at1 b1 (put at0 b0 mem)))
        ∙ near (at2 wrap) b2 place2 (put at1 b1 (put at0 b0 mem)) ∙ near at1 b1 place1 (put at0 b0 mem) ∙ near at0 b0 place0 mem)
      where
        near : (p b : ℕ) → Place p → (m : ℕ → ℕ) → put p b m (0x1B + k) ≡ m (0x1B + k)
        near p b place m = ap (λ (t : Bool). if t then b else m (0x1B + k)) (place.near (0x1B + k) (omega (arith, less)))

  pub pair_room : (b0 b1 b2 b3 : ℕ) (is0 : mem 0x1B ≡ b0) (is1 : mem 0x1C ≡ b1) (is2 : mem 0x1D ≡ b2) (is3 : mem 0x1E ≡ b3)
      (wrap over : Bool) (wraps : nat_eq mid 0 ≡ wrap) (overs : nat_eq done 0 ≡ over)
      (place0 : Place at0) (place1 : Place at1) (place2 : Place (at2 wrap)) (place3 : Place (at3 wrap))
      (a y : ℕ) (n z c : Bool) (log : List Access) (last late : Bool) → nat_le 3 pages ≡ last
      → nat_le 0xFC next ≡ late → is_full last late ≡ false
      → Comes q (at 0x6989 a x y s n z c v d i (laid page mem) flags log) s false
      (laid (paired wrap over) (news wrap b0 b1 b2 b3)) (wrote4 wrap b0 b1 b2 b3 log) []
  pair_room b0 b1 b2 b3 is0 is1 is2 is3 wrap over wraps overs place0 place1 place2 place3 a y n z c log last late is also room =
      comes_apart q s false (it b0 b1 b2 b3 is0 is1 is2 is3 wrap over wraps overs place0 place1 place2 place3 a y n z c log) _ page
      (paired wrap over) (work b0 b1 b2 b3 is0 is1 is2 is3 wrap over wraps overs place0 place1 place2 place3 a y n z c log)
      (news wrap b0 b1 b2 b3) _
      (ap (λ (m : ℕ → ℕ). at 0x6989 a x y s n z c v d i (laid page m) flags log)
      (work_is (b0 ∷ b1 ∷ b2 ∷ b3 ∷ mem 0x1F ∷ mem 0x20 ∷ []) mem
      (there b0 b1 b2 b3 is0 is1 is2 is3 wrap over wraps overs place0 place1 place2 place3 a y n z c log))) refl
      (work_is (b0 ∷ b1 ∷ b2 ∷ b3 ∷ mem 0x1F ∷ mem 0x20 ∷ []) (news wrap b0 b1 b2 b3)
      (later b0 b1 b2 b3 is0 is1 is2 is3 wrap over wraps overs place0 place1 place2 place3 a y n z c log))
      (path b0 b1 b2 b3 is0 is1 is2 is3 wrap over wraps overs place0 place1 place2 place3 a y n z c log
      last late wrap over is also room wraps overs place2 place3)

-- dvg_labs: the two words in place, and then dvg_pair
pub labs_run : (q a x y s : ℕ) (n z c v d i : Bool) (page : List ℕ) (mem flags : ℕ → ℕ) (log : List Access)
    → run q 8 (at 0x6979 a x y s n z c v d i (laid page mem) flags log)
    ≡ (let h = bit_or (bit_and (mem 0x1C) 0x0F) 0xA0 in
    let l = bit_xor (bit_and (bit_xor a (mem 0x1E)) 0xF0) (mem 0x1E) in
    at 0x6989 h x y s (nat_le 128 h) (nat_eq h 0) c v d i (laid page (put 0x1C h (put 0x1E l mem))) flags
    (Writes 0x1C h ∷ Reads 0x1C (mem 0x1C) ∷ Writes 0x1E l ∷ Reads 0x1E (mem 0x1E) ∷ Reads 0x1E (mem 0x1E) ∷ log))
labs_run q a x y s n z c v d i page mem flags log =
    let h = bit_or (bit_and (mem 0x1C) 0x0F) 0xA0 in
    let l = bit_xor (bit_and (bit_xor a (mem 0x1E)) 0xF0) (mem 0x1E) in
    ap (λ m. at 0x6989 h x y s (nat_le 128 h) (nat_eq h 0) c v d i m flags
    (Writes 0x1C h ∷ Reads 0x1C (mem 0x1C) ∷ Writes 0x1E l ∷ Reads 0x1E (mem 0x1E) ∷ Reads 0x1E (mem 0x1E) ∷ log))
    (ap (put 0x1C h) (put_out 0x1E l page mem refl refl) ∙ put_out 0x1C h page (put 0x1E l mem) refl refl)

-- dvg_open and dvg_close
module _ (q a x y s : ℕ) (n z c v d i : Bool) (publish next t0 t1 pages end second f0 f1 : ℕ) (mem flags : ℕ
    → ℕ) (log : List Access) where
  opened : (free high : ℕ) → put 0x10 7 (put 0x13 2 (put 0x15 high (put 0x14 0 (put 0x16 0
      (laid (page_of 2 free publish next t0 t1 pages end second f0 f1) mem)))))
      ≡ laid (page_of 7 free publish 2 0 high 0 end second f0 f1) mem
  opened free high =
      ap (λ m. put 0x10 7 (put 0x13 2 (put 0x15 high (put 0x14 0 m))))
      (put_page 6 0 (page_of 2 free publish next t0 t1 pages end second f0 f1) mem (omega arith) refl)
      ∙ ap (λ m. put 0x10 7 (put 0x13 2 (put 0x15 high m)))
      (put_page 4 0 (page_of 2 free publish next t0 t1 0 end second f0 f1) mem (omega arith) refl)
      ∙ ap (λ m. put 0x10 7 (put 0x13 2 m))
      (put_page 5 high (page_of 2 free publish next 0 t1 0 end second f0 f1) mem (omega arith) refl)
      ∙ ap (put 0x10 7) (put_page 3 2 (page_of 2 free publish next 0 high 0 end second f0 f1) mem (omega arith) refl)
      ∙ put_page 0 7 (page_of 2 free publish 2 0 high 0 end second f0 f1) mem (omega arith) refl

  -- a frame is begun in the free half
  pub open_takes : (h : Bool)
      → Comes q (at 0x6924 a x y s n z c v d i (laid (page_of 2 (free_of h) publish next t0 t1 pages end second f0 f1) mem)
      flags log) s false (laid (page_of 7 (free_of h) publish 2 0 (high_of h) 0 end second f0 f1) mem) (seen log) []
  open_takes true = comes 16 refl refl refl refl refl (λ tables is. refl) (opened 0xE2 0x44)
  open_takes false = comes 16 refl refl refl refl refl (λ tables is. refl) (opened 0xE0 0x40)

-- dvg_close: the HALT's two bytes
module _ (q a x y s : ℕ) (n z c v d i : Bool) (free publish next t0 t1 pages end second f0 f1 : ℕ) (mem flags : ℕ
    → ℕ) (log : List Access) where
  abbrev hpage : ℕ → List ℕ
  hpage phase = page_of phase free publish next t0 t1 pages end second f0 f1

  abbrev h0 : ℕ
  h0 = (t0 + 256 * t1 + next) % 65536

  abbrev h1 : ℕ
  h1 = (t0 + 256 * t1 + (next + 1) % 256) % 65536

  pub close_ends : Place h0 → Place h1
      → Comes q (at 0x6A00 a x y s n z c v d i (laid (hpage 7) mem) flags log) s false
      (laid (hpage publish) (put h1 0xB0 (put h0 0 mem))) (Writes h1 0xB0 ∷ Writes h0 0 ∷ seen log) []
  close_ends place0 place1 =
      by q 6 _ (at 0x6A0C 0 x next s false true true v d i (laid (hpage 7) (put h0 0 mem)) flags log1) s false _ _
      (ap (λ m. at 0x6A0C 0 x next s false true true v d i m flags log1)
      (put_out h0 0 (hpage 7) mem place0.page place0.code)) (λ tables is. refl)
      (by q 3 _ (at 0x6A11 0xB0 x odd1 s true false true v d i (laid (hpage 7) new) flags log2) s false _ _
      (ap (λ m. at 0x6A11 0xB0 x odd1 s true false true v d i m flags log2)
      (put_out h1 0xB0 (hpage 7) (put h0 0 mem) place1.page place1.code)) (λ tables is. refl)
      (subst (λ es. Comes q (at 0x6A11 0xB0 x odd1 s true false true v d i (laid (hpage 7) new) flags log2) s false
      (laid (hpage publish) new) es []) shown
      (comes 3 refl refl refl refl refl (λ tables is. refl) (put_page 0 publish (hpage 7) new (omega arith) refl))))
    where
      odd1 : ℕ
      odd1 = (next + 1) % 256

      new : ℕ → ℕ
      new = put h1 0xB0 (put h0 0 mem)

      log1 : List Access
      log1 = Writes h0 0 ∷ Reads 0x13 next ∷ Reads 0x10 7 ∷ log

      log2 : List Access
      log2 = Writes h1 0xB0 ∷ log1

      shown : seen log2 ≡ Writes h1 0xB0 ∷ Writes h0 0 ∷ seen log
      shown = ap (λ (t : Bool). if t then Writes h1 0xB0 ∷ seen log1 else seen log1) place1.high
          ∙ ap (λ (t : Bool). Writes h1 0xB0 ∷ (if t then Writes h0 0 ∷ seen log else seen log)) place0.high
