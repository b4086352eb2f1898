-- The tick that writes a byte of a table, by the script.
use Rattle.std.proofs.Common.{◌≡◌, ℕ, suc, inl, inr, ◌+◌, ◌-◌, ◌*◌, ◌%◌, ◌<◌, ◌≤◌, Bool, true, false, not, List, []}
use Rattle.std.proofs.Common.{◌∷◌, ◌++◌, length, refl, sym, ap, ◌∙◌, subst, arith, Some, eqb-true, le-leb}
use Rattle.std.proofs.lemmas.Bool.{ne_eqb}
use Rattle.std.proofs.lemmas.Nat.{and_le_r, or_lt}
use Rattle.std.specs.Prelude.{nat_eq, nat_le, nat_lt, ◌&&◌, bit_and, bit_or, if◌then◌else◌, option_and_then, slice_index}
use Rattle.dvg_mem.specs.declared.half.Half.{Half}
use Rattle.dvg_mem.specs.Areas.{other, high}
use Rattle.dvg_frame.specs.Bytes.{addressed}
use Rattle.dvg_driver.specs.declared.action.Action.TheVariants.{Wrote}
use Rattle.dvg_driver.specs.Script.{Item, Did, word_zero}
use Rattle.dvg_driver.specs.Place.{Writing, next_place}
use Rattle.dvg_driver.specs.Stands.{Stage, StandsAfter}
use Rattle.dvg_driver.proofs.Places.{with_left-append, write_fits}
use Rattle.dvg_calls_6502.specs.Processor.{Cpu, Access, Writes, put}
use Rattle.dvg_calls_6502.specs.Amid.{all_in}
use Rattle.dvg_calls_6502.specs.Board.{IsLoaded, is_hardware, source_in, goal_in, seen}
use Rattle.dvg_calls_6502.specs.Feed.{fed, put_for, second_then, second_byte}
use Rattle.dvg_calls_6502.specs.Holds.{IsFeeding, Holds, publish_byte}
use Rattle.dvg_calls_6502.proofs.ProcessorRuns.{Ends, at}
use Rattle.dvg_calls_6502.proofs.Memory.{AreSmall, laid, page_of, in_page, in_code, known, page_in, loaded, put_small, small_page}
use Rattle.dvg_calls_6502.proofs.Memory.{same_out, kept_write, le_not, out_of_page}
use Rattle.dvg_calls_6502.proofs.StoredByte.{phase_then, carried}
use Rattle.dvg_calls_6502.proofs.FedByte.{writes}
use Rattle.dvg_calls_6502.proofs.TablePlace.{left_on, address_on, parity_on, stays, done}
use Rattle.dvg_calls_6502.proofs.PlainTicks.{Acts, Covers, close}

-- a byte of the frame is written
pub stands_on : (half : Half) (flipped : Bool) (a byte : ℕ) (list more : List (ℕ × ℕ)) (peeked : ℕ) (life : List Item)
    → list ≡ (a, byte) ∷ more ++ word_zero (other half) (not flipped) → 2 ≤ a
    → StandsAfter (record { place = Writing list; half = half; flipped = flipped }) peeked life
    → StandsAfter (record {
      place = Writing (more ++ word_zero (other half) (not flipped));
      half = half;
      flipped = flipped;
    }) peeked (Did (Wrote a byte) ∷ life)
stands_on half flipped a byte list more peeked life is large stands =
    let end = word_zero (other half) (not flipped) in
    let differs : nat_eq a 1 ≡ false = ne_eqb a 1 (λ one. absurd (omega arith)) in
    record {
      place = ap (option_and_then (λ place. next_place place (Did (Wrote a byte)))) (stands.place
          ∙ ap (λ l. Some (Writing l)) is)
          ∙ write_fits a byte (more ++ end) ∙ ap Some (with_left-append more (other half) (not flipped));
      half = rw differs stands.half;
      flipped = rw differs stands.flipped;
    }

-- no byte is too large
pub put_for_small : (free : ℕ) (odd second : Bool) (byte : ℕ) → byte < 256 → put_for free odd second byte < 256
put_for_small free false second byte small = small
put_for_small free true true byte small = small
put_for_small free true false byte small = by (nat_eq (bit_and byte 0xDC) 0xC0)
  where
    by : (t : Bool) → (if t then bit_or (bit_and free 2) byte else byte) < 256
    by true = let two = and_le_r free 2 in or_lt 8 (bit_and free 2) byte (omega arith) small
    by false = small

pub second_small : (second : Bool) → second_byte second < 256
second_small true = omega arith
second_small false = omega arith

pub phase_small : (ends last : Bool) (publish : ℕ) → publish < 256 → phase_then ends last publish < 256
phase_small true true publish small = small
phase_small true false publish small = omega arith
phase_small false last publish small = omega arith

pub carried_small : (wrap : Bool) (by byte : ℕ) → byte < 256 → carried wrap by byte < 256
carried_small true by byte small = omega arith
carried_small false by byte small = small

-- an address of the vector RAM
pub in_ram : (p : ℕ) → 0x4002 ≤ p → p < 0x4800 → (in_page p ≡ false) × (in_code p ≡ false) × (nat_le 0x200 p ≡ true)
    × (is_hardware p ≡ true)
in_ram p low high =
    let a : nat_le 0x10 p ≡ true = le-leb 0x10 p (omega arith) in
    let b : nat_lt p 0x1B ≡ false = le_not (suc p) 0x1B (omega arith) in
    let d : nat_le 0x6800 p ≡ false = le_not 0x6800 p (omega arith) in
    let e : nat_le 0x200 p ≡ true = le-leb 0x200 p (omega arith) in
    let f : nat_le 0x4000 p ≡ true = le-leb 0x4000 p (omega arith) in
    let g : nat_lt p 0x4800 ≡ true = le-leb (suc p) 0x4800 (omega arith) in
    (rw (a, b) refl, rw d refl, e, rw (f, g) refl)

-- what isn't hardware isn't the flag
pub not_flag : (p : ℕ) → is_hardware p ≡ false → nat_eq p 0x2002 ≡ false
not_flag p not_device = by (nat_eq p 0x2002) refl
  where
    by : (t : Bool) → nat_eq p 0x2002 ≡ t → nat_eq p 0x2002 ≡ false
    by false is = is
    by true is = let e : is_hardware p ≡ true = ap is_hardware (eqb-true p 0x2002 is) in absurd (cc)

module _ (q a x y s : ℕ) (n z c v d i : Bool) (mem flags : ℕ → ℕ) (log : List Access) (load : IsLoaded mem)
    (begin stop peeked : ℕ) (life : List Item) where
  abbrev bytes : (b : ℕ) → mem b < 256
  bytes = load.bytes

  abbrev from : ℕ → ℕ → ℕ → Cpu
  from phase free mark =
      at 0x686A a x y s n z c v d i
      (laid (page_of phase free (mem 0x12) (mem 0x13) (mem 0x14) (mem 0x15) (mem 0x16) (mem 0x17) mark (mem 0x19)
      (mem 0x1A)) mem) flags log

  module _ (half : Half) (set odd second : Bool) (byte : ℕ) (more : List ℕ) (list : List (ℕ × ℕ))
      (is_free : mem 0x11 ≡ high (other half)) (clear : mem 0x12 ≡ publish_byte set)
      (parity : nat_eq (mem 0x13 % 2) 1 ≡ odd) (even : mem 0x17 % 2 ≡ 0) (left : mem 0x13 + suc (length more)
      ≡ 256 * mem 0x16 + mem 0x17)
      (reads : (k : ℕ) → k < suc (length more) → mem (source_in mem + k) ≡ slice_index (byte ∷ more) k)
      (far : (k : ℕ) → k < suc (length more) → (0x200 ≤ source_in mem + k) × (is_hardware (source_in mem + k) ≡ false))
      (after : begin ≤ source_in mem) (ends : source_in mem + suc (length more) ≡ stop) (top : stop ≤ 65536)
      (low : 0x4002 ≤ goal_in mem) (high' : goal_in mem + suc (length more) ≤ 0x4800)
      (are : list ≡ addressed (goal_in mem - 0x4000) (fed (mem 0x11) odd second (byte ∷ more))
      ++ word_zero (other half) (not set))
      (stands : StandsAfter (record { place = Writing list; half = half; flipped = set }) peeked life) where
    abbrev up : ℕ
    up = (mem 0x13 + 1) % 256

    abbrev wrap : Bool
    wrap = nat_eq up 0

    abbrev pages : ℕ
    pages = carried wrap 255 (mem 0x16)

    abbrev here : List ℕ
    here = page_of 0x80 (mem 0x11) (mem 0x12) (mem 0x13) (mem 0x14) (mem 0x15) (mem 0x16) (mem 0x17)
        (second_byte second) (mem 0x19) (mem 0x1A)

    abbrev there : ℕ → List ℕ
    there phase = page_of phase (mem 0x11) (mem 0x12) up (mem 0x14) (carried wrap 1 (mem 0x15)) pages (mem 0x17)
        (second_byte (second_then odd second byte)) (mem 0x19) (carried wrap 1 (mem 0x1A))

    abbrev w : ℕ
    w = put_for (mem 0x11) odd second byte

    abbrev to : ℕ
    to = goal_in mem

    abbrev rest : List (ℕ × ℕ)
    rest = addressed (suc (to - 0x4000)) (fed (mem 0x11) (not odd) (second_then odd second byte) more)

    abbrev phase : ℕ
    phase = phase_then (nat_eq ((up + 256 - mem 0x17) % 256) 0) (nat_eq pages 0) (mem 0x12)

    abbrev final : ℕ → ℕ → ℕ
    final ph = laid (there ph) (put to w mem)

    abbrev stage_then : List (ℕ × ℕ) → Stage
    stage_then list = record { place = Writing (list ++ word_zero (other half) (not set)); half = half; flipped = set }

    left' : up + length more ≡ 256 * pages + mem 0x17
    left' = left_on (mem 0x13) (mem 0x16) (mem 0x17) (length more) wrap (bytes 0x13) (bytes 0x16) (bytes 0x17) refl left

    in_ram' : (in_page to ≡ false) × (in_code to ≡ false) × (nat_le 0x200 to ≡ true) × (is_hardware to ≡ true)
    in_ram' = in_ram to low (omega (arith, high'))

    to_is : (mem 0x14 + 256 * mem 0x15 + mem 0x13) % 65536 ≡ to
    to_is = omega (arith, high', low)

    source_is : (mem 0x19 + 256 * mem 0x1A + mem 0x13) % 65536 ≡ source_in mem
    source_is = omega (arith, ends, top)

    first : (mark : ℕ) → laid
        (page_of 0x80 (mem 0x11) (mem 0x12) (mem 0x13) (mem 0x14) (mem 0x15) (mem 0x16) (mem 0x17) mark (mem 0x19)
        (mem 0x1A)) mem (source_in mem) ≡ byte
    first mark =
        let here' : 0x200 ≤ source_in mem = let f = (far 0 (omega arith)).0 in omega (arith, f) in
        let zero' : source_in mem + 0 ≡ source_in mem = omega arith in
        same_out (page_of 0x80 (mem 0x11) (mem 0x12) (mem 0x13) (mem 0x14) (mem 0x15) (mem 0x16) (mem 0x17) mark
        (mem 0x19) (mem 0x1A)) (page_in mem) mem (source_in mem) (out_of_page (source_in mem) here')
        ∙ sym (ap (λ (m : ℕ → ℕ). m (source_in mem)) (known mem load)) ∙ sym (ap mem zero') ∙ reads 0 (omega arith)

    up_small : up < 256
    up_small = omega arith

    feeding : (next : ℕ) (others : List ℕ) → more ≡ next ∷ others
        → IsFeeding (final 0x80) begin stop half set (rest ++ word_zero (other half) (not set))
    feeding next others is = record {
      phase = refl;
      rest = more;
      odd = not odd;
      second = second_then odd second byte;
      parity = parity_on (mem 0x13) odd parity;
      mark = refl;
      some = some;
      left = left';
      even = even;
      reads = λ k h. on_reads k h;
      far = λ k h. subst (λ q. (0x200 ≤ q) × (is_hardware q ≡ false)) (sym (next_is k)) (far (suc k) (omega (arith, h)));
      after = omega (arith, source', after);
      ends = omega (arith, source', ends);
      top = top;
      low = omega (arith, to', low);
      high = omega (arith, to', high');
      are = let a : suc (to - 0x4000) ≡ goal_in (final 0x80) - 0x4000 = omega (arith, to', low) in
          ap (λ p. addressed p (fed (mem 0x11) (not odd) (second_then odd second byte) more)
          ++ word_zero (other half) (not set)) a;
    }
      where
        some : 1 ≤ length more
        some = let l = ap length is in omega (arith, l)

        source' : source_in (final 0x80) ≡ source_in mem + 1
        source' = address_on (mem 0x19) (mem 0x1A) (mem 0x13) wrap (bytes 0x13) (bytes 0x1A) refl
            (omega (arith, ends, top, some))

        to' : goal_in (final 0x80) ≡ to + 1
        to' = address_on (mem 0x14) (mem 0x15) (mem 0x13) wrap (bytes 0x13) (bytes 0x15) refl (omega (arith, high'))

        next_is : (k : ℕ) → source_in (final 0x80) + k ≡ source_in mem + suc k
        next_is k = omega (arith, source')

        on_reads : (k : ℕ) → k < length more → final 0x80 (source_in (final 0x80) + k) ≡ slice_index more k
        on_reads k h =
            let b = source_in mem + suc k in
            let away = far (suc k) (omega (arith, h)) in
            let out = out_of_page b away.0 in
            let differ : nat_eq b to ≡ false =
            ne_eqb b to (λ same. let e : is_hardware to ≡ false = subst (λ q. is_hardware q ≡ false) same away.1 in
            let f = in_ram'.3 in absurd (cc)) in
            ap (final 0x80) (next_is k) ∙ kept_write to w here (there 0x80) mem in_ram'.0 in_ram'.1 b out
            ∙ ap (λ (t : Bool). if t then w else laid here mem b) differ
            ∙ same_out here (page_in mem) mem b out ∙ sym (ap (λ (m : ℕ → ℕ). m b) (known mem load))
            ∙ reads (suc k) (omega (arith, h))

    last_word : (list' : List (ℕ × ℕ)) (set' : Bool) → list' ≡ [] → set ≡ set'
        → list' ++ word_zero (other half) (not set) ≡ word_zero (other half) (not set')
    last_word list' set' none same =
        ap (λ l. l ++ word_zero (other half) (not set)) none ∙ ap (λ t. word_zero (other half) (not t)) same

    ended : (set' : Bool) → set ≡ set' → mem 0x12 ≡ publish_byte set' → (list' : List (ℕ × ℕ)) → list' ≡ []
        → Holds (final (mem 0x12)) begin stop (stage_then list')
    ended true same is list' none =
        record { flipped = clear; place = (is_free, inr (inr (is, last_word list' true none same))) }
    ended false same is list' none =
        record { flipped = clear; place = (is_free, inr (inl (is, last_word list' false none same))) }

    holds : (m : List ℕ) → more ≡ m → Holds (final phase) begin stop (stage_then rest)
    holds [] is =
        let none : length more ≡ 0 = ap length is in
        let left0 : up + 0 ≡ 256 * pages + mem 0x17 = omega (arith, left', none) in
        subst (λ ph. Holds (final ph) begin stop (stage_then rest))
        (sym (done up pages (mem 0x17) (mem 0x12) up_small (bytes 0x17) left0))
        (ended set refl clear rest
        (ap (λ m. addressed (suc (to - 0x4000)) (fed (mem 0x11) (not odd) (second_then odd second byte) m)) is))
    holds (next ∷ others) is =
        let one : length more ≡ suc (length others) = ap length is in
        let left1 : up + suc (length others) ≡ 256 * pages + mem 0x17 = omega (arith, left', one) in
        subst (λ ph. Holds (final ph) begin stop (stage_then rest))
        (sym (stays up pages (mem 0x17) (length others) (mem 0x12) up_small (bytes 0x17) left1))
        (record { flipped = clear; place = (is_free, inl (feeding next others is)) })

    byte_small : byte < 256
    byte_small = subst (λ b. b < 256) (reads 0 (omega arith)) (bytes (source_in mem + 0))

    silent : is_hardware (source_in mem) ≡ false
    silent = let zero' : source_in mem + 0 ≡ source_in mem = omega arith in
        subst (λ q. is_hardware q ≡ false) zero' (far 0 (omega arith)).1

    -- where the byte comes from, as the code finds it
    abbrev taken : ℕ
    taken = (mem 0x19 + 256 * mem 0x1A + mem 0x13) % 65536

    held : (tables : ℕ → Bool) → Covers tables begin stop → all_in tables (taken ∷ []) ≡ true
    held tables covers = ap (λ (t : Bool). t && true)
        (covers taken (omega (arith, source_is, after)) (omega (arith, source_is, ends)))

    runs : Ends q (from 0x80 (mem 0x11) (second_byte second)) s (final phase) (Writes to w ∷ seen log) (taken ∷ [])
    runs = subst (λ p. Ends q (from 0x80 (mem 0x11) (second_byte second)) s (laid (there phase) (put p w mem))
        (Writes p w ∷ seen log) (taken ∷ [])) to_is
        (writes q s (mem 0x11) (mem 0x12) (mem 0x13) (mem 0x14) (mem 0x15) (mem 0x16) (mem 0x17) (mem 0x19)
        (mem 0x1A) mem flags
        wrap (nat_eq ((up + 256 - mem 0x17) % 256) 0) (nat_eq pages 0)
        (subst (λ p. in_page p ≡ false) (sym to_is) in_ram'.0) (subst (λ p. in_code p ≡ false) (sym to_is) in_ram'.1)
        (subst (λ p. nat_le 0x200 p ≡ true) (sym to_is) in_ram'.2)
        refl refl refl
        (subst (λ q. nat_eq q 0x2002 ≡ false) (sym source_is) (not_flag (source_in mem) silent))
        (subst (λ q. is_hardware q ≡ false) (sym source_is) silent)
        a x y n z c v d i log odd second byte byte_small
        (subst (λ q. laid (page_of 0x80 (mem 0x11) (mem 0x12) (mem 0x13) (mem 0x14) (mem 0x15) (mem 0x16)
        (mem 0x17) 0x80 (mem 0x19) (mem 0x1A)) mem q ≡ byte) (sym source_is) (first 0x80))
        (subst (λ q. laid (page_of 0x80 (mem 0x11) (mem 0x12) (mem 0x13) (mem 0x14) (mem 0x15) (mem 0x16) (mem 0x17) 0
        (mem 0x19) (mem 0x1A)) mem q ≡ byte) (sym source_is) (first 0))
        parity)

    pages_small : AreSmall (there phase)
    pages_small = small_page
        (phase_small (nat_eq ((up + 256 - mem 0x17) % 256) 0) (nat_eq pages 0) (mem 0x12) (bytes 0x12)) (bytes 0x11)
        (bytes 0x12) up_small (bytes 0x14) (carried_small wrap 1 (mem 0x15) (bytes 0x15))
        (carried_small wrap 255 (mem 0x16) (bytes 0x16)) (bytes 0x17) (second_small (second_then odd second byte))
        (bytes 0x19) (carried_small wrap 1 (mem 0x1A) (bytes 0x1A))

    pub tick : Acts q (from 0x80 (mem 0x11) (second_byte second)) begin stop peeked life
    tick =
        close q (from 0x80 (mem 0x11) (second_byte second)) s (final phase) (Writes to w ∷ []) (Wrote (to - 0x4000) w)
        (stage_then rest) begin stop peeked life
        held runs refl (let same : to ≡ 0x4000 + (to - 0x4000) = omega (arith, low) in ap (λ p. Writes p w ∷ []) same) tt
        (stands_on half set (to - 0x4000) w list rest peeked life are (omega (arith, low)) stands)
        (holds more refl)
        (loaded (there phase) (put to w mem) pages_small
        (put_small to w mem (put_for_small (mem 0x11) odd second byte byte_small) bytes))
        (λ b own go. let same : to ≡ 0x4000 + (to - 0x4000) = omega (arith, low) in
        kept_write to w here (there phase) mem in_ram'.0 in_ram'.1 b own ∙ ap (λ p. put p w (laid here mem) b) same)
        (omega (arith, low, high'))

    -- what it leaves, without the code
    pub step : Holds (final phase) begin stop (stage_then rest)
        × StandsAfter (stage_then rest) peeked (Did (Wrote (to - 0x4000) w) ∷ life) × IsLoaded (final phase)
    step = (
      holds more refl,
      stands_on half set (to - 0x4000) w list rest peeked life are (omega (arith, low)) stands,
      loaded (there phase) (put to w mem) pages_small
          (put_small to w mem (put_for_small (mem 0x11) odd second byte byte_small) bytes),
    )
