-- The end of a tick that writes a byte of a table: from its store on.
use Rattle.std.proofs.Common.{◌≡◌, ℕ, ◌+◌, ◌-◌, ◌*◌, ◌%◌, Bool, true, false, List, ◌∷◌, refl, ap, ◌∙◌, arith}
use Rattle.std.specs.Prelude.{nat_eq, nat_le, if◌then◌else◌}
use Rattle.dvg_calls_6502.specs.Processor.{Cpu, Access, Reads, Writes, put}
use Rattle.dvg_calls_6502.specs.Board.{seen}
use Rattle.dvg_calls_6502.proofs.ProcessorRuns.{Ends, on, at, seen_as, ends}
use Rattle.dvg_calls_6502.proofs.Memory.{laid, page_of, put_page, put_out, in_page, in_code}

-- the phase after a byte: on the last page's last byte the table is done
abbrev pub phase_then : (ends last : Bool) → ℕ → ℕ
phase_then true true publish = publish
phase_then _ _ publish = 0x80

-- a byte that moves on where a page ends
abbrev pub carried : Bool → ℕ → ℕ → ℕ
carried wrap by byte = if wrap then (byte + by) % 256 else byte

-- after the end of a page
module _ (q s : ℕ) (reads : List ℕ) (free publish next t0 t1 pages end second f0 f1 : ℕ) (mem flags : ℕ → ℕ) where
  abbrev bytes : ℕ → List ℕ
  bytes phase = page_of phase free publish next t0 t1 pages end second f0 f1

  on_last_page : (a x y : ℕ) (n z c v d i : Bool) (log : List Access) (last : Bool) → nat_eq pages 0 ≡ last
      → Ends q (at 0x68F5 a x y s n z c v d i (laid (bytes 0x80) mem) flags log) s
      (laid (bytes (phase_then true last publish)) mem) (seen log) reads
  on_last_page a x y n z c v d i log last is = on q 1 _ (told last) s (laid (bytes (phase_then true last publish)) mem)
      (seen log) (ap told is) (λ tables held. refl) (rest last)
    where
      told : Bool → Cpu
      told last = at 0x68F7 pages x y s (nat_le 128 pages) last c v d i (laid (bytes 0x80) mem) flags
          (Reads 0x16 pages ∷ log)

      rest : (last : Bool) → Ends q (told last) s (laid (bytes (phase_then true last publish)) mem) (seen log) reads
      rest true = ends 3 refl refl refl refl (λ tables is. refl)
          (put_page 0 publish (bytes 0x80) mem (omega arith) refl)
      rest false = record { steps = 1; returns = refl; stack = refl; accesses = refl; steady = λ tables is. refl; there = refl; memory = refl }

  same : (a x y : ℕ) (n z c v d i : Bool) (log : List Access) (ends last : Bool) → nat_eq ((y + 256 - end) % 256) 0 ≡ ends
      → nat_eq pages 0 ≡ last
      → Ends q (at 0x68F1 a x y s n z c v d i (laid (bytes 0x80) mem) flags log) s
      (laid (bytes (phase_then ends last publish)) mem) (seen log) reads
  same a x y n z c v d i log ends last is ended = on q 1 _ (told ends) s (laid (bytes (phase_then ends last publish)) mem)
      (seen log) (ap told is) (λ tables held. refl) (rest ends)
    where
      told : Bool → Cpu
      told ends = at 0x68F3 a x y s (nat_le 128 ((y + 256 - end) % 256)) ends (nat_le end y) v d i
          (laid (bytes 0x80) mem) flags (Reads 0x17 end ∷ log)

      rest : (ends : Bool) → Ends q (told ends) s (laid (bytes (phase_then ends last publish)) mem) (seen log) reads
      rest true = on q 1 _ (at 0x68F5 a x y s (nat_le 128 ((y + 256 - end) % 256)) true (nat_le end y) v d i
          (laid (bytes 0x80) mem) flags (Reads 0x17 end ∷ log)) s (laid (bytes (phase_then true last publish)) mem)
          (seen log) refl (λ tables held. refl)
          (on_last_page a x y (nat_le 128 ((y + 256 - end) % 256)) true (nat_le end y) v d i
          (Reads 0x17 end ∷ log) last ended)
      rest false = record { steps = 1; returns = refl; stack = refl; accesses = refl; steady = λ tables is. refl; there = refl; memory = refl }

-- from the store on
module _ (q s : ℕ) (reads : List ℕ) (free publish next t0 t1 pages end second f0 f1 : ℕ) (mem flags : ℕ → ℕ) where
  abbrev up : ℕ
  up = (next + 1) % 256

  -- the page with the place moved on
  abbrev moved : Bool → ℕ → List ℕ
  moved wrap phase = page_of phase free publish up t0 (carried wrap 1 t1) (carried wrap 255 pages) end second f0
      (carried wrap 1 f1)

  -- the page before it
  abbrev here : List ℕ
  here = page_of 0x80 free publish next t0 t1 pages end second f0 f1

  abbrev to : ℕ
  to = (t0 + 256 * t1 + next) % 65536

  pub store : (w x : ℕ) (n z c v d i : Bool) (log : List Access) (wrap ends last : Bool)
      → in_page to ≡ false → in_code to ≡ false → nat_le 0x200 to ≡ true
      → nat_eq up 0 ≡ wrap → nat_eq ((up + 256 - end) % 256) 0 ≡ ends → nat_eq (carried wrap 255 pages) 0 ≡ last
      → Ends q (at 0x68E4 w x next s n z c v d i (laid here mem) flags log) s
      (laid (moved wrap (phase_then ends last publish)) (put to w mem)) (Writes to w ∷ seen log) reads
  store w x n z c v d i log wrap ends last not_page not_code high wraps ended is =
      on q 1 _ (at 0x68E6 w x next s n z c v d i (laid here new) flags (Writes to w ∷ log)) s final events
      (ap (λ m. at 0x68E6 w x next s n z c v d i m flags (Writes to w ∷ log)) (put_out to w here mem not_page not_code)) (λ tables held. refl)
      (on q 2 _ (told wrap) s final events
      (ap (λ m. at 0x68E9 w x up s (nat_le 128 up) (nat_eq up 0) c v d i m flags (Writes 0x13 up ∷ Writes to w ∷ log))
      (put_page 3 up here new (omega arith) refl) ∙ ap told wraps) (λ tables held. refl)
      (seen_as q (told wrap) s final (seen (Writes to w ∷ log)) events shown (rest wrap is)))
    where
      new : ℕ → ℕ
      new = put to w mem

      final : ℕ → ℕ
      final = laid (moved wrap (phase_then ends last publish)) new

      events : List Access
      events = Writes to w ∷ seen log

      shown : seen (Writes to w ∷ log) ≡ events
      shown = ap (λ (t : Bool). if t then Writes to w ∷ seen log else seen log) high

      there : List ℕ
      there = page_of 0x80 free publish up t0 t1 pages end second f0 f1

      told : Bool → Cpu
      told wrap = at 0x68E9 w x up s (nat_le 128 up) wrap c v d i (laid there new) flags
          (Writes 0x13 up ∷ Writes to w ∷ log)

      rest : (wrap : Bool) → nat_eq (carried wrap 255 pages) 0 ≡ last
          → Ends q (told wrap) s (laid (moved wrap (phase_then ends last publish)) new) (seen (Writes to w ∷ log)) reads
      rest false is = on q 1 (told false)
          (at 0x68F1 w x up s (nat_le 128 up) false c v d i (laid there new) flags (Writes 0x13 up ∷ Writes to w ∷ log)) s
          _ _ refl (λ tables held. refl)
          (same q s reads free publish up t0 t1 pages end second f0 f1 new flags w x up (nat_le 128 up) false c v d i
          (Writes 0x13 up ∷ Writes to w ∷ log) ends last ended is)
      rest true is =
          let a1 = (f1 + 1) % 256 in
          let b1 = (t1 + 1) % 256 in
          let p1 = (pages + 255) % 256 in
          let log' : List Access = Writes 0x16 p1 ∷ Reads 0x16 pages ∷ Writes 0x15 b1 ∷ Reads 0x15 t1 ∷ Writes 0x1A a1
          ∷ Reads 0x1A f1 ∷ Writes 0x13 up ∷ Writes to w ∷ log in
          on q 4 (told true) (at 0x68F1 w x up s (nat_le 128 p1) (nat_eq p1 0) c v d i
          (laid (moved true 0x80) new) flags log') s _ _
          (ap (λ m. at 0x68F1 w x up s (nat_le 128 p1) (nat_eq p1 0) c v d i m flags log')
          (ap (λ m. put 0x16 p1 (put 0x15 b1 m)) (put_page 10 a1 there new (omega arith) refl)
          ∙ ap (put 0x16 p1) (put_page 5 b1 (page_of 0x80 free publish up t0 t1 pages end second f0 a1) new
          (omega arith) refl)
          ∙ put_page 6 p1 (page_of 0x80 free publish up t0 b1 pages end second f0 a1) new (omega arith) refl))
          (λ tables held. refl)
          (same q s reads free publish up t0 b1 p1 end second f0 a1 new flags w x up (nat_le 128 p1)
          (nat_eq p1 0) c v d i log' ends last ended is)
