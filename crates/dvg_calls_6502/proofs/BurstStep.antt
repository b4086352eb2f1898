-- A word of dvg_run's loop, by the script.
use Rattle.std.proofs.Common.{◌≡◌, ◌≢◌, ℕ, suc, inl, inr, ◌+◌, ◌-◌, ◌%◌, ◌<◌, ◌≤◌, Bool, true, false, not, List, []}
use Rattle.std.proofs.Common.{◌∷◌, ◌++◌, length, refl, sym, ap, ◌∙◌, subst, arith, eq-eqb}
use Rattle.std.proofs.lemmas.Bool.{ne_eqb}
use Rattle.std.specs.Prelude.{nat_eq, ◌⊎◌, if◌then◌else◌, slice_index}
use Rattle.dvg_mem.specs.declared.half.Half.{Half}
use Rattle.dvg_mem.specs.Areas.{other, high}
use Rattle.dvg_frame.specs.Bytes.{addressed}
use Rattle.dvg_driver.specs.declared.action.Action.TheVariants.{Wrote}
use Rattle.dvg_driver.specs.Script.{Item, Did, word_zero}
use Rattle.dvg_driver.specs.Place.{Place, Start, Booting, Resting, Writing, Waiting, Sending}
use Rattle.dvg_driver.specs.Stands.{StandsAfter, byte1_of}
use Rattle.dvg_calls_6502.specs.Processor.{put}
use Rattle.dvg_calls_6502.specs.Board.{IsLoaded, is_hardware, source_in, goal_in}
use Rattle.dvg_calls_6502.specs.Feed.{fed, put_for, second_then, second_byte}
use Rattle.dvg_calls_6502.specs.Holds.{HoldsPlace, IsFeeding, publish_byte}
use Rattle.dvg_calls_6502.proofs.Memory.{laid, page_of}
use Rattle.dvg_calls_6502.proofs.StoredByte.{phase_then, carried}
use Rattle.dvg_calls_6502.proofs.TableTick.{step}
use Rattle.dvg_calls_6502.proofs.DriverInMemory.{Stood}

-- the driver's bytes after a byte of a table was written
abbrev pub stepped_page : (ℕ → ℕ) → (odd second : Bool) → ℕ → List ℕ
stepped_page mem odd second byte =
    let up = (mem 0x13 + 1) % 256 in
    let wrap = nat_eq up 0 in
    let pages = carried wrap 255 (mem 0x16) in
    let phase = phase_then (nat_eq ((up + 256 - mem 0x17) % 256) 0) (nat_eq pages 0) (mem 0x12) in
    page_of phase (mem 0x11) (mem 0x12) up (mem 0x14) (carried wrap 1 (mem 0x15)) pages (mem 0x17)
    (second_byte (second_then odd second byte)) (mem 0x19) (carried wrap 1 (mem 0x1A))

-- and a memory after it
abbrev pub stepped : (ℕ → ℕ) → (odd second : Bool) → ℕ → ℕ → ℕ
stepped mem odd second byte =
    laid (stepped_page mem odd second byte) (put (goal_in mem) (put_for (mem 0x11) odd second byte) mem)

-- a driver that writes a table
pub record Feeds (mem : ℕ → ℕ) (begin stop : ℕ) (life : List Item) : Type 0 where
  pub half : Half
  pub set : Bool
  pub writes : List (ℕ × ℕ)
  pub feeding : IsFeeding mem begin stop half set writes
  pub free : mem 0x11 ≡ high (other half)
  pub publish : mem 0x12 ≡ publish_byte set
  pub peeked : ℕ
  pub stands : StandsAfter (record { place = Writing writes; half = half; flipped = set }) peeked life
  pub byte1 : mem 0x4001 ≡ byte1_of peeked life
  pub loaded : IsLoaded mem

-- where the phase tells so
pub feeds_of : (mem : ℕ → ℕ) (begin stop : ℕ) (life : List Item) → Stood mem begin stop life → mem 0x10 ≡ 0x80
    → Feeds mem begin stop life
feeds_of mem begin stop life stood phase = by stood.stage.place refl stood.holds.place
  where
    not_now : (p : ℕ) → mem 0x10 ≡ p → nat_eq p 0x80 ≡ false → Feeds mem begin stop life
    not_now p is differ = absurd (let e = ap (λ k. nat_eq k 0x80) (sym is ∙ phase) ∙ eq-eqb 0x80 0x80 refl in
        let f = sym differ ∙ e in cc)

    by : (place : Place) → stood.stage.place ≡ place
        → HoldsPlace mem begin stop stood.stage.place stood.stage.half stood.stage.flipped → Feeds mem begin stop life
    by Start is h = not_now 0
        (subst (λ place. HoldsPlace mem begin stop place stood.stage.half stood.stage.flipped) is h).0 refl
    by Booting is h = not_now 1
        (subst (λ place. HoldsPlace mem begin stop place stood.stage.half stood.stage.flipped) is h).0 refl
    by (Resting first) is h =
        not_now 2 (subst (λ place. HoldsPlace mem begin stop place stood.stage.half stood.stage.flipped) is h).0 refl
    by (Waiting first) is h =
        not_now 5 (subst (λ place. HoldsPlace mem begin stop place stood.stage.half stood.stage.flipped) is h).0 refl
    by (Sending first) is h =
        not_now 6 (subst (λ place. HoldsPlace mem begin stop place stood.stage.half stood.stage.flipped) is h).0 refl
    by (Writing writes) is h = part now.1
      where
        now : HoldsPlace mem begin stop (Writing writes) stood.stage.half stood.stage.flipped
        now = subst (λ place. HoldsPlace mem begin stop place stood.stage.half stood.stage.flipped) is h

        part : IsFeeding mem begin stop stood.stage.half stood.stage.flipped writes
            ⊎ ((mem 0x10 ≡ 3) × (writes ≡ word_zero (other stood.stage.half) true))
            ⊎ ((mem 0x10 ≡ 4) × (writes ≡ word_zero (other stood.stage.half) false)) → Feeds mem begin stop life
        part (inl f) = record {
          half = stood.stage.half;
          set = stood.stage.flipped;
          writes = writes;
          feeding = f;
          free = now.0;
          publish = stood.holds.flipped;
          peeked = stood.peeked;
          stands = subst (λ (place : Place). StandsAfter
              (record { place = place; half = stood.stage.half; flipped = stood.stage.flipped }) stood.peeked life) is
              stood.stands;
          byte1 = stood.byte1;
          loaded = stood.loaded;
        }
        part (inr (inl three)) = not_now 3 three.0 refl
        part (inr (inr four)) = not_now 4 four.0 refl

-- its next byte
pub record NextByte (mem : ℕ → ℕ) (begin stop : ℕ) (life : List Item) (odd second : Bool) : Type 0 where
  pub byte : ℕ
  pub reads : mem (source_in mem) ≡ byte
  pub far : 0x200 ≤ source_in mem
  pub silent : is_hardware (source_in mem) ≡ false
  pub below : source_in mem < 65536
  pub begun : begin ≤ source_in mem
  pub ended : source_in mem < stop
  pub low : 0x4002 ≤ goal_in mem
  pub high : goal_in mem < 0x4800
  pub even : mem 0x17 % 2 ≡ 0
  pub stood : Stood (stepped mem odd second byte) begin stop
      (Did (Wrote (goal_in mem - 0x4000) (put_for (mem 0x11) odd second byte)) ∷ life)

-- a mark is one of two bytes
second_same : (a b : Bool) → second_byte a ≡ second_byte b → a ≡ b
second_same true true is = refl
second_same false false is = refl
second_same true false is = absurd (omega (arith, is))
second_same false true is = absurd (omega (arith, is))

pub next_byte : (mem : ℕ → ℕ) (begin stop : ℕ) (life : List Item) → Feeds mem begin stop life → (odd second : Bool)
    → nat_eq (mem 0x13 % 2) 1 ≡ odd → mem 0x18 ≡ second_byte second
    → NextByte mem begin stop life odd second
next_byte mem begin stop life feeds odd second parity mark = by f.rest refl
  where
    f : IsFeeding mem begin stop feeds.half feeds.set feeds.writes
    f = feeds.feeding

    odd_is : f.odd ≡ odd
    odd_is = sym f.parity ∙ parity

    second_is : f.second ≡ second
    second_is = second_same f.second second (sym f.mark ∙ mark)

    by : (rest : List ℕ) → f.rest ≡ rest → NextByte mem begin stop life odd second
    by [] none = absurd (let l = ap length none in let some = f.some in omega (arith, l, some))
    by (byte ∷ more) is =
        let some : 1 ≤ length f.rest = f.some in
        let long : length f.rest ≡ suc (length more) = ap length is in
        let zero' : source_in mem + 0 ≡ source_in mem = omega arith in
        let first = f.far 0 (omega (arith, some)) in
        let done = step 0 0 0 0 0 false false false false false false mem mem [] feeds.loaded begin stop feeds.peeked life
        feeds.half feeds.set odd second byte more feeds.writes feeds.free feeds.publish parity f.even
        (omega (arith, f.left, long)) (λ k h. f.reads k (omega (arith, h, long)) ∙ ap (λ l. slice_index l k) is)
        (λ k h. f.far k (omega (arith, h, long)))
        f.after (omega (arith, f.ends, long)) f.top f.low (omega (arith, f.high, long))
        (f.are ∙ ap (λ l. addressed (goal_in mem - 0x4000) (fed (mem 0x11) f.odd f.second l)
        ++ word_zero (other feeds.half) (not feeds.set)) is
        ∙ ap (λ o. addressed (goal_in mem - 0x4000) (fed (mem 0x11) o f.second (byte ∷ more))
        ++ word_zero (other feeds.half) (not feeds.set)) odd_is
        ∙ ap (λ s. addressed (goal_in mem - 0x4000) (fed (mem 0x11) odd s (byte ∷ more))
        ++ word_zero (other feeds.half) (not feeds.set)) second_is)
        feeds.stands in
        let far : 0x200 ≤ source_in mem = omega (arith, first.0) in
        let not_one : goal_in mem - 0x4000 ≢ 1 = λ same. absurd (omega (arith, f.low, same)) in
        let there : 0x4001 ≢ goal_in mem = λ same. absurd (omega (arith, f.low, same)) in
        record {
          byte = byte;
          reads = sym (ap mem zero') ∙ f.reads 0 (omega (arith, some)) ∙ ap (λ l. slice_index l 0) is;
          far = far;
          silent = subst (λ p. is_hardware p ≡ false) zero' first.1;
          below = omega (arith, f.ends, f.top, some);
          begun = f.after;
          ended = omega (arith, f.ends, some);
          low = f.low;
          high = omega (arith, f.high, some);
          even = f.even;
          stood = record {
            stage = _;
            peeked = feeds.peeked;
            stands = done.1;
            holds = done.0;
            loaded = done.2;
            byte1 = ap (λ (t : Bool). if t then put_for (mem 0x11) odd second byte else mem 0x4001)
                (ne_eqb 0x4001 (goal_in mem) there) ∙ feeds.byte1
                ∙ sym (ap (λ (t : Bool). if t then put_for (mem 0x11) odd second byte else byte1_of feeds.peeked life)
                (ne_eqb (goal_in mem - 0x4000) 1 not_one));
          };
        }
