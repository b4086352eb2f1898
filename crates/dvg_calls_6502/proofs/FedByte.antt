-- The tick that writes a byte of a table, from its entry.
use Rattle.std.proofs.Common.{◌≡◌, ℕ, suc, ◌+◌, ◌-◌, ◌*◌, ◌%◌, ◌<◌, ◌≤◌, Bool, true, false, not, List, [], ◌∷◌, refl, sym}
use Rattle.std.proofs.Common.{ap, ◌∙◌, subst, arith, eqb-true, eq-eqb, leb-true}
use Rattle.std.proofs.lemmas.Bool.{eqb-false, ne_eqb, leb-false}
use Rattle.std.proofs.lemmas.Nat.{and_le_l}
use Rattle.std.specs.Prelude.{nat_eq, nat_le, bit_and, bit_or, if◌then◌else◌, ◌&&◌, ◌||◌}
use Rattle.dvg_calls_6502.specs.Processor.{Cpu, Access, Reads, Writes, put}
use Rattle.dvg_calls_6502.specs.Board.{seen, is_hardware, is_own, is_readable}
use Rattle.dvg_calls_6502.specs.Amid.{is_work, is_kept, is_code}
use Rattle.dvg_calls_6502.specs.Feed.{moved_byte, put_for, second_then, second_byte}
use Rattle.dvg_calls_6502.proofs.ProcessorRuns.{Ends, on, at, seen_as}
use Rattle.dvg_calls_6502.proofs.Memory.{laid, page_of, put_page, in_page, in_code}
use Rattle.dvg_calls_6502.proofs.StoredByte.{store, phase_then, carried}

-- what a compare says
pub compared : (v k : ℕ) → v < 256 → k < 256 → nat_eq ((v + 256 - k) % 256) 0 ≡ nat_eq v k
compared v k small also = by (nat_eq v k) refl
  where
    by : (t : Bool) → nat_eq v k ≡ t → nat_eq ((v + 256 - k) % 256) 0 ≡ t
    by true is = let e : v ≡ k = eqb-true v k is in let f : (v + 256 - k) % 256 ≡ 0 = omega arith in eq-eqb _ _ f
    by false is = ne_eqb ((v + 256 - k) % 256) 0 (λ zero. let e : v ≡ k = omega arith in eqb-false v k is e)

-- a byte below B0 calls and jumps nowhere
pub stays : (free byte : ℕ) → nat_le 0xB0 byte ≡ false → moved_byte free byte ≡ byte
stays free byte less =
    let low : byte < 0xB0 = leb-false 0xB0 byte less in
    let most = and_le_l byte 0xDC in
    let differ : nat_eq (bit_and byte 0xDC) 0xC0 ≡ false =
    ne_eqb (bit_and byte 0xDC) 0xC0 (λ is. absurd (omega arith)) in
    ap (λ (t : Bool). if t then bit_or (bit_and free 2) byte else byte) differ

-- a read somewhere that isn't the flag, as it stands in a state
abbrev pub byte_read : Bool → (ℕ → ℕ) → ℕ → ℕ
byte_read is_flag flags byte = if is_flag then flags 0 else byte

abbrev pub flags_then : Bool → (ℕ → ℕ) → ℕ → ℕ
flags_then is_flag flags = if is_flag then (λ n. flags (suc n)) else flags

-- a stretch that ends with the read of another's byte
pub taken : (b : ℕ) (tables : ℕ → Bool) (u : Bool) → (tables b && true) ≡ true
    → ((((is_kept tables b || u) && true) && true) && true) ≡ true
taken b tables u is = by (is_own b) (is_work b) (is_code b) (is_readable b) (tables b) is
  where
    by : (o f c h t : Bool) → (t && true) ≡ true → (((((o || (f || (c || (h || t)))) || u) && true) && true) && true) ≡ true
    by true f c h t is = refl
    by false true c h t is = refl
    by false false true h t is = refl
    by false false false true t is = refl
    by false false false false true is = refl
    by false false false false false is = absurd (cc)

module _ (q s : ℕ) (free publish next t0 t1 pages end f0 f1 : ℕ) (mem flags : ℕ → ℕ) where
  abbrev from : Bool → List ℕ
  from second = page_of 0x80 free publish next t0 t1 pages end (second_byte second) f0 f1

  abbrev source : ℕ
  source = (f0 + 256 * f1 + next) % 65536

  abbrev to : ℕ
  to = (t0 + 256 * t1 + next) % 65536

  abbrev up : ℕ
  up = (next + 1) % 256

  abbrev after : Bool → Bool → ℕ → List ℕ
  after second wrap phase = page_of phase free publish up t0 (carried wrap 1 t1) (carried wrap 255 pages) end
      (second_byte second) f0 (carried wrap 1 f1)

  module _ (wrap ends last : Bool) (not_page : in_page to ≡ false) (not_code : in_code to ≡ false)
      (high : nat_le 0x200 to ≡ true)
      (wraps : nat_eq up 0 ≡ wrap) (ended : nat_eq ((up + 256 - end) % 256) 0 ≡ ends)
      (is : nat_eq (carried wrap 255 pages) 0 ≡ last)
      (not_flag : nat_eq source 0x2002 ≡ false) (device : is_hardware source ≡ false) where
    abbrev phase : ℕ
    phase = phase_then ends last publish

    -- the store, at either mark
    stores : (second : Bool) (w x : ℕ) (n z c v d i : Bool) (log : List Access)
        → Ends q (at 0x68E4 w x next s n z c v d i (laid (from second) mem) flags log) s
        (laid (after second wrap phase) (put to w mem)) (Writes to w ∷ seen log) (source ∷ [])
    stores second w x n z c v d i log =
        store q s (source ∷ []) free publish next t0 t1 pages end (second_byte second) f0 f1 mem flags w x n z c v d i log wrap ends
        last not_page not_code high wraps ended is

    -- after the load
    loads : (odd second : Bool) (byte x : ℕ) (n : Bool) (v d i : Bool) (log : List Access) → byte < 256
        → laid (from true) mem source ≡ byte → laid (from false) mem source ≡ byte
        → Ends q (at 0x68C4 byte x next s n (nat_eq byte 0) odd v d i (laid (from second) mem) flags log) s
        (laid (after (second_then odd second byte) wrap phase) (put to (put_for free odd second byte) mem))
        (Writes to (put_for free odd second byte) ∷ seen log) (source ∷ [])
    loads false second byte x n v d i log small reads reads' =
        on q 1 _ (at 0x68E4 byte x next s n (nat_eq byte 0) false v d i (laid (from second) mem) flags log) s _ _ refl (λ tables held. refl)
        (stores second byte x n (nat_eq byte 0) false v d i log)
    loads true true byte x n v d i log small reads reads' =
        on q 3 _ (at 0x68E4 byte x next s false true true v d i (laid (from false) mem) flags
        (Writes 0x18 0 ∷ Reads 0x18 0x80 ∷ log)) s _ _
        (ap (λ m. at 0x68E4 byte x next s false true true v d i m flags (Writes 0x18 0 ∷ Reads 0x18 0x80 ∷ log))
        (put_page 8 0 (from true) mem (omega arith) refl)) (λ tables held. refl)
        (stores false byte x false true true v d i (Writes 0x18 0 ∷ Reads 0x18 0x80 ∷ log))
    loads true false byte x n v d i log small reads reads' =
        on q 4 _ (told (nat_le 0xB0 byte)) s _ _
        (ap (λ m. at 0x68CC byte x next s (nat_le 128 ((byte + 256 - 0xB0) % 256))
        (nat_eq ((byte + 256 - 0xB0) % 256) 0) (nat_le 0xB0 byte) v d i m flags log')
        (put_page 8 0 (from false) mem (omega arith) refl)) (λ tables held. refl)
        (opcode (nat_le 0xB0 byte) refl)
      where
        log' : List Access
        log' = Writes 0x18 0 ∷ Reads 0x18 0 ∷ log

        told : Bool → Cpu
        told great = at 0x68CC byte x next s (nat_le 128 ((byte + 256 - 0xB0) % 256))
            (nat_eq ((byte + 256 - 0xB0) % 256) 0) great v d i (laid (from false) mem) flags log'

        masked : ℕ
        masked = bit_and byte 0xDC

        found : Bool → Cpu
        found ours = at 0x68D3 masked byte next s (nat_le 128 ((masked + 256 - 0xC0) % 256)) ours
            (nat_le 0xC0 masked) v d i (laid (from false) mem) flags log'

        both : ℕ
        both = bit_or (bit_and free 2) byte

        opcode : (great : Bool) → nat_le 0xB0 byte ≡ great
            → Ends q (told great) s (laid (after (not great) wrap phase) (put to (moved_byte free byte) mem))
            (Writes to (moved_byte free byte) ∷ seen log) (source ∷ [])
        opcode false less =
            let e : byte ≡ moved_byte free byte = sym (stays free byte less) in
            subst (λ w. Ends q (told false) s (laid (after true wrap phase) (put to w mem)) (Writes to w ∷ seen log) (source ∷ [])) e
            (on q 4 _ (at 0x68E4 byte 0x80 next s true false false v d i (laid (from true) mem) flags
            (Writes 0x18 0x80 ∷ log')) s _ _
            (ap (λ m. at 0x68E4 byte 0x80 next s true false false v d i m flags (Writes 0x18 0x80 ∷ log'))
            (put_page 8 0x80 (from false) mem (omega arith) refl)) (λ tables held. refl)
            (stores true byte 0x80 true false false v d i (Writes 0x18 0x80 ∷ log')))
        opcode true great = on q 4 _ (found (nat_eq masked 0xC0)) s _ _
            (ap found (compared masked 0xC0 below (omega arith))) (λ tables held. refl) (mine (nat_eq masked 0xC0))
          where
            below : masked < 256
            below = let less = and_le_l byte 0xDC in omega arith

            not_zero : nat_eq byte 0 ≡ false
            not_zero = let large : 0xB0 ≤ byte = leb-true 0xB0 byte great in
                ne_eqb byte 0 (λ zero. absurd (omega arith))

            -- the OR, by whether its byte is the flag's, and by the byte
            ored : Bool → ℕ → Cpu
            ored t b = let w = bit_or (bit_and free 2) (byte_read t flags b) in
                at 0x68E4 w byte next s (nat_le 128 w) (nat_eq w 0) (nat_le 0xC0 masked) v d i (laid (from false) mem)
                (flags_then t flags) (Reads source (byte_read t flags b) ∷ Reads 0x11 free ∷ log')

            mine : (t : Bool) → Ends q (found t) s
                (laid (after false wrap phase) (put to (if t then both else byte) mem))
                (Writes to (if t then both else byte) ∷ seen log) (source ∷ [])
            mine true = on q 4 _ (ored false byte) s _ _
                (ap (λ t. ored t (laid (from false) mem source)) not_flag ∙ ap (ored false) reads')
                (λ tables held. taken source tables _ held)
                (seen_as q _ s _ (Writes to both ∷ seen (Reads source byte ∷ Reads 0x11 free ∷ log'))
                (Writes to both ∷ seen log)
                (ap (λ (t : Bool). Writes to both ∷ (if t then Reads source byte ∷ seen log else seen log)) device)
                (stores false both byte (nat_le 128 both) (nat_eq both 0) (nat_le 0xC0 masked) v d i
                (Reads source byte ∷ Reads 0x11 free ∷ log')))
            mine false = on q 2 _
                (at 0x68D6 byte byte next s (nat_le 128 byte) false (nat_le 0xC0 masked) v d i
                (laid (from false) mem) flags log') s _ _
                (ap (λ z. at 0x68D6 byte byte next s (nat_le 128 byte) z (nat_le 0xC0 masked) v d i
                (laid (from false) mem) flags log') not_zero) (λ tables held. refl)
                (on q 1 _ (at 0x68E4 byte byte next s (nat_le 128 byte) false (nat_le 0xC0 masked) v d i
                (laid (from false) mem) flags log') s _ _ refl (λ tables held. refl)
                (stores false byte byte (nat_le 128 byte) false (nat_le 0xC0 masked) v d i log'))

    pub writes : (a x y : ℕ) (n z c v d i : Bool) (log : List Access) (odd second : Bool) (byte : ℕ) → byte < 256
        → laid (from true) mem source ≡ byte → laid (from false) mem source ≡ byte → nat_eq (next % 2) 1 ≡ odd
        → Ends q (at 0x686A a x y s n z c v d i (laid (from second) mem) flags log) s
        (laid (after (second_then odd second byte) wrap phase) (put to (put_for free odd second byte) mem))
        (Writes to (put_for free odd second byte) ∷ seen log) (source ∷ [])
    writes a x y n z c v d i log odd second byte small reads reads' parity =
        on q 6 _ (told false byte odd) s _ _
        (ap (λ t. told t (laid (from second) mem source) (nat_eq (next % 2) 1)) not_flag
        ∙ ap (λ b. told false b (nat_eq (next % 2) 1)) (same_read second) ∙ ap (told false byte) parity)
        (λ tables held. taken source tables _ held)
        (seen_as q (told false byte odd) s _ (Writes to (put_for free odd second byte) ∷ seen log')
        (Writes to (put_for free odd second byte) ∷ seen log)
        (ap (λ (t : Bool). Writes to (put_for free odd second byte)
        ∷ (if t then Reads source byte ∷ seen log else seen log)) device)
        (loads odd second byte 0x80 (nat_le 128 byte) v d i log' small reads reads'))
      where
        log' : List Access
        log' = Reads source byte ∷ Reads 0x13 next ∷ Reads 0x10 0x80 ∷ log

        told : Bool → ℕ → Bool → Cpu
        told t b odd = let byte = byte_read t flags b in
            at 0x68C4 byte 0x80 next s (nat_le 128 byte) (nat_eq byte 0) odd v d i (laid (from second) mem)
            (flags_then t flags) (Reads source byte ∷ Reads 0x13 next ∷ Reads 0x10 0x80 ∷ log)

        same_read : (second : Bool) → laid (from second) mem source ≡ byte
        same_read true = reads
        same_read false = reads'
