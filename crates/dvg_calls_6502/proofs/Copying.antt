-- What dvg_copy does, by the frame that is being built.
use Rattle.std.proofs.Common.{◌≡◌, ◌≢◌, ℕ, zero, suc, inl, inr, ◌+◌, ◌-◌, ◌*◌, ◌%◌, ◌<◌, ◌≤◌, Bool, true, false, not, cond, List, [], ◌∷◌}
use Rattle.std.proofs.Common.{◌++◌, length, refl, sym, ap, ◌∙◌, subst, arith, eqb-true, le-leb, leb-true, set}
use Rattle.std.proofs.lemmas.Bool.{ne_eqb, eqb-false, leb-false, or_left, or_right, or_parts}
use Rattle.std.specs.Prelude.{nat_eq, nat_le, nat_lt, if◌then◌else◌, ◌&&◌, ◌||◌, ◌⊎◌, slice_index}
use Rattle.dvg_mem.specs.declared.half.Half.{Half}
use Rattle.dvg_mem.specs.Areas.{base, other}
use Rattle.dvg_calls_6502.specs.Processor.{Cpu, Access, Writes, put, run, bit_of}
use Rattle.dvg_calls_6502.specs.Code.{code}
use Rattle.dvg_calls_6502.specs.Board.{IsLoaded, seen, is_hardware, is_own, is_ram, goal_in}
use Rattle.dvg_calls_6502.specs.Amid.{is_kept, is_work, all_in}
use Rattle.dvg_calls_6502.specs.Routines.{Enters}
use Rattle.dvg_calls_6502.specs.Build.{IsBuilding, HasNoRoom, written}
use Rattle.dvg_calls_6502.proofs.ProcessorRuns.{Comes, returned, and_true}
use Rattle.dvg_calls_6502.proofs.Memory.{in_code, same_eqb, both_true, put_small, le_not, AreSmall}
use Rattle.dvg_calls_6502.proofs.FedByte.{compared}
use Rattle.dvg_calls_6502.proofs.Building.{goal_low, goal_high, put_far}
use Rattle.dvg_calls_6502.proofs.AmidOthers.{alike_if, comes_out}
use Rattle.dvg_calls_6502.proofs.Steady.{code_kept}
use Rattle.dvg_calls_6502.specs.Copy.{dvg_copy, CanCopy, CopyTakes, CopyRefuses, CopyRefused, Copies, source, copied, bytes_from, is_spoilt, is_length}
use Rattle.dvg_calls_6502.proofs.Follow.{Sym, Way, Goes, Puts, Gets, IsFar, full, over, in_part, follow, Owes, steadily}
use Rattle.dvg_calls_6502.proofs.Arrive.{arrives, onward, start, start_is, page_from, over_is, loaded_over, kept_set}
use Rattle.dvg_calls_6502.proofs.CopyLoop.{copies, puts, off, IsSource, Fits}

module _ (cpu : Cpu) (enters : Enters cpu dvg_copy) where
  abbrev from : Sym
  from = start dvg_copy cpu

  pub from_is : full from ≡ cpu
  from_is = start_is dvg_copy cpu enters.entry enters.log enters.loaded

  -- no frame is being built
  other_phase : nat_eq (cpu.mem 0x10) 7 ≡ false → (reads : List ℕ)
      → Comes cpu.s (full from) cpu.s true (let e = follow 5 (Goes true ∷ []) from in over e.page e.cpu.mem) [] reads
  other_phase is reads = arrives cpu.s 5 (Goes true ∷ []) from
      (ap not (compared (cpu.mem 0x10) 7 (enters.loaded.bytes 0x10) (omega arith) ∙ is), tt) refl refl refl (λ tables also. refl)

  module _ (at_build : cpu.mem 0x10 ≡ 7) (clear : cpu.d ≡ false) where
    -- D is clear
    abbrev plainly : Sym
    plainly = start dvg_copy (record cpu { d = false })

    plainly_is : full plainly ≡ cpu
    plainly_is = ap (λ t. full (start dvg_copy (record cpu { d = t }))) (sym clear) ∙ from_is

    building : not (nat_eq ((cpu.mem 0x10 + 256 - 7) % 256) 0) ≡ false
    building = ap (λ p. not (nat_eq ((p + 256 - 7) % 256) 0)) at_build

    abbrev sum : ℕ
    sum = cpu.mem 0x16 + 0 + bit_of (nat_le 256 (cpu.y + cpu.mem 0x13 + 0))

    -- there is no room
    full_up : nat_le 4 (sum % 256) ≡ true
        → Comes cpu.s (full plainly) cpu.s true (let e = follow 14 (Goes false ∷ Goes true ∷ []) plainly in over e.page e.cpu.mem) [] []
    full_up is = arrives cpu.s 14 (Goes false ∷ Goes true ∷ []) plainly (building, (is, tt)) refl refl refl (λ tables also. refl)

    -- there is room; from then on `from` counts from `at`, too
    module _ (room : nat_le 4 (sum % 256) ≡ false) where
      abbrev begins : Bool → Sym
      begins t = follow (if t then 21 else 22) (Goes false ∷ Goes false ∷ Goes t ∷ []) plainly

      heads : (t : Bool) → nat_le 256 (cpu.a + (255 - cpu.mem 0x13) + 1) ≡ t → {c' : Bool} {mem' : ℕ → ℕ} {events' : List Access}
          {reads : List ℕ} → Comes cpu.s (full (begins t)) cpu.s c' mem' events' reads → Comes cpu.s (full plainly) cpu.s c' mem' events' reads
      heads true is rest = onward cpu.s 21 (Goes false ∷ Goes false ∷ Goes true ∷ []) plainly cpu.s _ _ _
          (building, (room, (is, tt))) (λ tables also. refl) rest
      heads false is rest = onward cpu.s 22 (Goes false ∷ Goes false ∷ Goes false ∷ []) plainly cpu.s _ _ _
          (building, (room, (is, tt))) (λ tables also. refl) rest

-- what is copied
pub length_from : (mem : ℕ → ℕ) (a count : ℕ) → length (bytes_from mem a count) ≡ count
length_from mem a zero = refl
length_from mem a (suc count) = ap suc (length_from mem (suc a) count)

byte_from : (mem : ℕ → ℕ) (a count k : ℕ) → k < count → slice_index (bytes_from mem a count) k ≡ mem (a + k)
byte_from mem a zero k less = absurd (omega (arith, less))
byte_from mem a (suc count) zero less = let e : a ≡ a + 0 = omega arith in ap mem e
byte_from mem a (suc count) (suc k) less = let e : suc a + k ≡ a + suc k = omega arith in
    byte_from mem (suc a) count k (omega (arith, less)) ∙ ap mem e

places : (a count : ℕ) → List ℕ
places a zero = []
places a (suc count) = a ∷ places (suc a) count

held_at : (tables : ℕ → Bool) (a count : ℕ) → all_in tables (places a count) ≡ true → (k : ℕ) → k < count → tables (a + k) ≡ true
unfolding places
held_at tables a zero is k less = absurd (omega (arith, less))
held_at tables a (suc count) is zero less = let e : a + 0 ≡ a = omega arith in ap tables e ∙ (both_true (tables a) _ is).0
held_at tables a (suc count) is (suc k) less = let e : a + suc k ≡ suc a + k = omega arith in ap tables e
    ∙ held_at tables (suc a) count (both_true (tables a) _ is).1 k (omega (arith, less))

all_held : (tables : ℕ → Bool) (a count : ℕ) → ((k : ℕ) → k < count → tables (a + k) ≡ true) → all_in tables (places a count) ≡ true
unfolding places
all_held tables a zero each = refl
all_held tables a (suc count) each = let e : a ≡ a + 0 = omega arith in
    and_true (tables a) (all_in tables (places (suc a) count)) (ap tables e ∙ each 0 (omega arith))
    (all_held tables (suc a) count (λ k less. let e : suc a + k ≡ a + suc k = omega arith in ap tables e ∙ each (suc k) (omega (arith, less))))

small_from : (mem : ℕ → ℕ) (a count : ℕ) → ((b : ℕ) → mem b < 256) → (goal : ℕ) (to : ℕ → ℕ) → ((b : ℕ) → to b < 256) → (b : ℕ)
    → puts goal (bytes_from mem a count) to b < 256
small_from mem a zero bytes goal to small b = small b
small_from mem a (suc count) bytes goal to small b =
    small_from mem (suc a) count bytes (suc goal) (put goal (mem a) to) (put_small goal (mem a) to (bytes a) small) b

pub puts_far : (goal : ℕ) (now : List ℕ) (mem : ℕ → ℕ) (b : ℕ) → is_ram b ≡ false → 0x4002 ≤ goal → goal + length now ≤ 0x4800
    → puts goal now mem b ≡ mem b
puts_far goal [] mem b out low high = refl
puts_far goal (x ∷ now) mem b out low high =
    puts_far (suc goal) now (put goal x mem) b out (omega (arith, low)) (omega (arith, high))
    ∙ put_far goal x mem b out low (omega (arith, high))

append_nil : (l : List Access) → l ++ [] ≡ l
append_nil [] = refl
append_nil (x ∷ l) = ap (λ l. x ∷ l) (append_nil l)

pub append_length : (l m : List ℕ) → length (l ++ m) ≡ length l + length m
append_length [] m = omega arith
append_length (x ∷ l) m = let e = append_length l m in omega (arith, e)

-- a byte that is the driver's is none that isn't
pub not_own : (b p : ℕ) → is_own b ≡ false → is_own p ≡ true → b ≢ p
not_own b p out own same = let e : false ≡ true = sym out ∙ ap is_own same ∙ own in absurd (cc)

sums : (p w : ℕ) (u : Bool) → nat_le 256 (w + 0) ≡ u → 256 * p + w < 1024 → nat_le 4 ((p + 0 + bit_of u) % 256) ≡ false
sums p w true is few = let over' = leb-true 256 (w + 0) is in le_not 4 ((p + 0 + 1) % 256) (omega (arith, over', few))
sums p w false is few = le_not 4 ((p + 0 + 0) % 256) (omega (arith, few))

no_room : (p w : ℕ) (u : Bool) → nat_le 256 (w + 0) ≡ u → 1022 < 256 * p + w → (256 * p + w) % 2 ≡ 0 → p < 4 → w < 512
    → nat_le 4 ((p + 0 + bit_of u) % 256) ≡ true
no_room p w true is much even few less = le-leb 4 ((p + 0 + 1) % 256) (let c = leb-true 256 (w + 0) is in omega (arith, much, even, few, less, c))
no_room p w false is much even few under = let less = leb-false 256 (w + 0) is in absurd (omega (arith, less, much, even, few))

-- a frame goes on by what is copied
module _ (cpu : Cpu) (enters : Enters cpu dvg_copy) (can : CanCopy cpu) (half : Half) (flipped : Bool) (rest : List ℕ)
    (building' : IsBuilding cpu.mem half flipped (copied cpu ++ rest)) (some : 2 ≤ length rest) where
  abbrev mem : ℕ → ℕ
  mem = cpu.mem

  abbrev now : List ℕ
  now = copied cpu

  abbrev src : ℕ
  src = source cpu

  abbrev goal : ℕ
  goal = goal_in mem

  bytes : (b : ℕ) → mem b < 256
  bytes = enters.loaded.bytes

  count : length now ≡ cpu.y
  count = length_from mem src cpu.y

  whole : length (now ++ rest) ≡ cpu.y + length rest
  whole = append_length now rest ∙ ap (λ k. k + length rest) count

  low : 0x4002 ≤ goal
  low = goal_low mem half flipped (now ++ rest) enters.loaded building'

  high : goal + cpu.y + length rest ≤ 0x4800
  high = let h = goal_high mem half flipped (now ++ rest) enters.loaded building' in omega (arith, h, whole)

  fits : 256 * mem 0x16 + mem 0x13 + cpu.y + length rest ≤ 1024
  fits = let f = building'.fits in omega (arith, f, whole)

  abbrev borrows : Bool
  borrows = nat_le 256 (cpu.a + (255 - mem 0x13) + 1)

  abbrev back : Bool → ℕ
  back true = cpu.x
  back false = (cpu.x + 255) % 256

  reads_at : (t : Bool) → nat_le 256 (cpu.a + (255 - mem 0x13) + 1) ≡ t
      → ((cpu.a + (255 - mem 0x13) + 1) % 256 + 256 * back t + mem 0x13) % 65536 ≡ src
  reads_at true is = let e = leb-true 256 (cpu.a + (255 - mem 0x13) + 1) is in let p = bytes 0x13 in let a = enters.a in let x = enters.x in
      omega (arith, e, p, a, x)
  reads_at false is = let e = leb-false 256 (cpu.a + (255 - mem 0x13) + 1) is in let p = bytes 0x13 in let a = enters.a in let x = enters.x in
      omega (arith, e, p, a, x)

  back_small : (t : Bool) → back t < 256
  back_small true = enters.x
  back_small false = omega arith

  apart : (k : ℕ) → k < cpu.y → in_part (src + k) ≡ false
  apart k less = neither (src + k) (can.apart k less)
    where
      neither : (b : ℕ) → (is_own b || is_work b) ≡ false → in_part b ≡ false
      neither b is = pick (nat_le 0x10 b) (nat_lt b 0x21) refl refl
        where
          pick : (t u : Bool) → nat_le 0x10 b ≡ t → nat_lt b 0x21 ≡ u → (t && u) ≡ false
          pick false u p q = refl
          pick true false p q = refl
          pick true true p q = split (nat_lt b 0x1B) refl
            where
              split : (w : Bool) → nat_lt b 0x1B ≡ w → true ≡ false
              split true less = let e : is_own b ≡ true = and_true (nat_le 0x10 b) (nat_lt b 0x1B) p less in
                  let f = sym (or_left (is_own b) (is_work b) e) ∙ is in f
              split false more = let l : 0x1B ≤ b = let e = leb-false (suc b) 0x1B more in omega (arith, e) in
                  let e : is_work b ≡ true = and_true (nat_le 0x1B b) (nat_lt b 0x21) (le-leb 0x1B b l) q in
                  let f = sym (or_right (is_own b) (is_work b) e) ∙ is in f

  source_is : IsSource (places src cpu.y) mem src now
  source_is = record {
    apart = λ k less. apart k (let c = count in omega (arith, less, c));
    device = λ k less. can.device k (let c = count in omega (arith, less, c));
    byte = λ k less. let l : k < cpu.y = let c = count in omega (arith, less, c) in
        sym (off (page_from mem) mem (src + k) (apart k l)) ∙ ap (λ (m : ℕ → ℕ). m (src + k)) (over_is mem enters.loaded)
        ∙ sym (byte_from mem src cpu.y k l);
    held = λ tables is k less. held_at tables src cpu.y is k (let c = count in omega (arith, less, c));
  }

  fits_at : (t : Bool) → nat_le 256 (cpu.a + (255 - mem 0x13) + 1) ≡ t
      → Fits (mem 0x14) ((cpu.y + mem 0x13 + 0) % 256) ((cpu.a + (255 - mem 0x13) + 1) % 256) (mem 0x13) (mem 0x15) (mem 0x16) (back t)
      src goal (length now)
  fits_at t is = record {
    y_small = bytes 0x13;
    f0_small = omega arith;
    f1_small = back_small t;
    few = let c = count in let b = can.byte in omega (arith, c, b);
    ends_at = let c = count in omega (arith, c);
    reads = reads_at t is;
    top = let c = count in let k = can.top in omega (arith, c, k);
    writes = refl;
    low = low;
    high = let c = count in let h = high in omega (arith, c, h);
    room = let c = count in let f = fits in omega (arith, c, f);
  }

  room : nat_le 4 ((mem 0x16 + 0 + bit_of (nat_le 256 (cpu.y + mem 0x13 + 0))) % 256) ≡ false
  room = sums (mem 0x16) (cpu.y + mem 0x13) (nat_le 256 (cpu.y + mem 0x13 + 0)) refl (let f = fits in omega (arith, f, some))

  abbrev end_page : (up t1 pages f1 : ℕ) → List ℕ
  end_page up t1 pages f1 = mem 0x10 ∷ mem 0x11 ∷ mem 0x12 ∷ up ∷ mem 0x14 ∷ t1 ∷ pages ∷ ((cpu.y + mem 0x13 + 0) % 256) ∷ mem 0x18
      ∷ ((cpu.a + (255 - mem 0x13) + 1) % 256) ∷ f1 ∷ mem 0x1B ∷ mem 0x1C ∷ mem 0x1D ∷ mem 0x1E ∷ mem 0x1F ∷ cpu.y ∷ []

  abbrev end_memory : (up t1 pages f1 : ℕ) → ℕ → ℕ
  end_memory up t1 pages f1 = over (end_page up t1 pages f1) (puts goal now mem)

  -- what is known of its end
  record Done : Type 0 where
    pub up : ℕ
    pub t1 : ℕ
    pub pages : ℕ
    pub f1 : ℕ
    pub comes : Comes cpu.s cpu cpu.s false (end_memory up t1 pages f1) (written goal now ++ []) (places src cpu.y)
    pub goes_on : 256 * t1 + up ≡ 256 * mem 0x15 + mem 0x13 + length now
    pub counts : 256 * pages + up ≡ 256 * mem 0x16 + mem 0x13 + length now
    pub up_small : up < 256
    pub f1_small : f1 < 256

  done_by : (t : Bool) → nat_le 256 (cpu.a + (255 - mem 0x13) + 1) ≡ t → Done
  done_by true is =
      let e = begins cpu enters building'.phase can.clear room true in
      let r = copies cpu.s cpu.x cpu.s e.cpu.v cpu.i (mem 0x10) (mem 0x11) (mem 0x12) (mem 0x13) (mem 0x14) ((cpu.y + mem 0x13 + 0) % 256)
      (mem 0x18) ((cpu.a + (255 - mem 0x13) + 1) % 256) (mem 0x1B) (mem 0x1C) (mem 0x1D) (mem 0x1E) (mem 0x1F) cpu.y cpu.flags
      (places src cpu.y) now e.cpu.a (mem 0x13) e.cpu.n e.cpu.z e.cpu.c (mem 0x15) (mem 0x16) (back true) src goal mem e.cpu.log []
      refl (fits_at true is) source_is in
      record {
        up = r.up;
        t1 = r.t1';
        pages = r.pages';
        f1 = r.f1';
        comes = subst (λ (k : Cpu). Comes cpu.s k cpu.s false (end_memory r.up r.t1' r.pages' r.f1') (written goal now ++ [])
            (places src cpu.y)) (plainly_is cpu enters building'.phase can.clear)
            (heads cpu enters building'.phase can.clear room true is r.comes);
        goes_on = r.goes_on;
        counts = r.counts;
        up_small = r.up_small;
        f1_small = r.f1_small;
      }
  done_by false is =
      let e = begins cpu enters building'.phase can.clear room false in
      let r = copies cpu.s cpu.x cpu.s e.cpu.v cpu.i (mem 0x10) (mem 0x11) (mem 0x12) (mem 0x13) (mem 0x14) ((cpu.y + mem 0x13 + 0) % 256)
      (mem 0x18) ((cpu.a + (255 - mem 0x13) + 1) % 256) (mem 0x1B) (mem 0x1C) (mem 0x1D) (mem 0x1E) (mem 0x1F) cpu.y cpu.flags
      (places src cpu.y) now e.cpu.a (mem 0x13) e.cpu.n e.cpu.z e.cpu.c (mem 0x15) (mem 0x16) (back false) src goal mem e.cpu.log []
      refl (fits_at false is) source_is in
      record {
        up = r.up;
        t1 = r.t1';
        pages = r.pages';
        f1 = r.f1';
        comes = subst (λ (k : Cpu). Comes cpu.s k cpu.s false (end_memory r.up r.t1' r.pages' r.f1') (written goal now ++ [])
            (places src cpu.y)) (plainly_is cpu enters building'.phase can.clear)
            (heads cpu enters building'.phase can.clear room false is r.comes);
        goes_on = r.goes_on;
        counts = r.counts;
        up_small = r.up_small;
        f1_small = r.f1_small;
      }

  done : Done
  done = done_by (nat_le 256 (cpu.a + (255 - mem 0x13) + 1)) refl

  abbrev final : ℕ → ℕ
  final = end_memory done.up done.t1 done.pages done.f1

  to_is : 256 * done.t1 + done.up ≡ 256 * mem 0x15 + mem 0x13 + cpu.y
  to_is = let g = done.goes_on in let c = count in omega (arith, g, c)

  on_is : 256 * done.pages + done.up ≡ 256 * mem 0x16 + mem 0x13 + cpu.y
  on_is = let g = done.counts in let c = count in omega (arith, g, c)

  built : IsBuilding final half flipped rest
  built = record {
    phase = building'.phase;
    free = building'.free;
    publish = building'.publish;
    low = building'.low;
    page = let p = building'.page in let t = to_is in let o = on_is in omega (arith, p, t, o);
    even = let e = building'.even in let y = can.even in let o = on_is in omega (arith, e, y, o);
    begun = let b = building'.begun in let o = on_is in omega (arith, b, o);
    some = some;
    fits = let o = on_is in let f = fits in omega (arith, o, f);
  }

  moved_on : goal_in final ≡ goal + cpu.y
  moved_on = let t = to_is in omega (arith, t)

  new_loaded : IsLoaded final
  new_loaded = loaded_over (end_page done.up done.t1 done.pages done.f1) (puts goal now mem) (
    bytes 0x10,
    (
      bytes 0x11,
      (
        bytes 0x12,
        (
          done.up_small,
          (
            bytes 0x14,
            (
              t1_small,
              (
                pages_small,
                (
                  omega arith,
                  (
                    bytes 0x18,
                    (omega arith, (done.f1_small, (bytes 0x1B, (bytes 0x1C, (bytes 0x1D, (bytes 0x1E, (bytes 0x1F, (can.byte, tt)))))))),
                  ),
                ),
              ),
            ),
          ),
        ),
      ),
    ),
  )
      (small_from mem src cpu.y bytes goal mem bytes)
    where
      t1_small : done.t1 < 256
      t1_small = let t = to_is in let h = high in omega (arith, t, h)

      pages_small : done.pages < 256
      pages_small = let o = on_is in let f = fits in omega (arith, o, f)

  kept : (b : ℕ) → is_own b ≡ false → is_length b ≡ false → is_ram b ≡ false → final b ≡ mem b
  kept b own not_length ram =
      let page = page_from mem in let m = puts goal now mem in
      let y = cpu.y in let f0 = (cpu.a + (255 - mem 0x13) + 1) % 256 in let end = (cpu.y + mem 0x13 + 0) % 256 in
      let p1 = set page 16 y in let p2 = set p1 9 f0 in let p3 = set p2 10 done.f1 in let p4 = set p3 7 end in
      let p5 = set p4 3 done.up in let p6 = set p5 5 done.t1 in
      kept_set 6 done.pages p6 m b (not_own b 0x16 own refl) ∙ kept_set 5 done.t1 p5 m b (not_own b 0x15 own refl)
      ∙ kept_set 3 done.up p4 m b (not_own b 0x13 own refl) ∙ kept_set 7 end p3 m b (not_own b 0x17 own refl)
      ∙ kept_set 10 done.f1 p2 m b (not_own b 0x1A own refl) ∙ kept_set 9 f0 p1 m b (not_own b 0x19 own refl)
      ∙ kept_set 16 y page m b (eqb-false b 0x20 not_length)
      ∙ ap (λ k. if in_part b then slice_index page (b - 0x10) else if in_code b then slice_index code (b - 0x6800) else k)
      (puts_far goal now mem b ram low (let h = high in let c = count in omega (arith, h, c)))
      ∙ ap (λ (m : ℕ → ℕ). m b) (over_is mem enters.loaded)

  copies_so : Copies cpu half flipped rest
  copies_so =
      let comes = done.comes in
      let back = returned cpu.s (run cpu.s comes.steps cpu) comes.returns comes.stack in
      record {
        steps = comes.steps;
        returns = back;
        carry = comes.carry;
        shows = comes.accesses ∙ append_nil (written goal now);
        goes_on = ap goal_in comes.memory ∙ moved_on;
        building = subst (λ (m : ℕ → ℕ). IsBuilding m half flipped rest) (sym comes.memory) built;
        loaded = subst IsLoaded (sym comes.memory) new_loaded;
        kept = λ b own out ram. ap (λ (m : ℕ → ℕ). m b) comes.memory ∙ kept b own out ram;
        alike = λ also held. comes_out (is_kept also) cpu comes.steps (code_kept also) back
            (comes.steady also (all_held also src cpu.y held)) comes.there;
      }

pub copy_takes : CopyTakes
copy_takes cpu half flipped rest enters can building more = copies_so cpu enters can half flipped rest building more

-- what is refused leaves these bytes
module _ (cpu : Cpu) (enters : Enters cpu dvg_copy) where
  refused : (memory : ℕ → ℕ) → Comes cpu.s cpu cpu.s true memory [] [] → IsLoaded memory
      → ((b : ℕ) → is_spoilt cpu.mem b ≡ false → memory b ≡ cpu.mem b) → CopyRefused cpu
  refused memory comes load kept =
      let back = returned cpu.s (run cpu.s comes.steps cpu) comes.returns comes.stack in
      record {
        steps = comes.steps;
        returns = back;
        carry = comes.carry;
        shows = comes.accesses;
        kept = λ b out. ap (λ (m : ℕ → ℕ). m b) comes.memory ∙ kept b out;
        loaded = subst IsLoaded (sym comes.memory) load;
        alike = alike_if cpu comes.steps back (λ tables. comes.steady tables refl) comes.there;
      }

  page_bytes : (y end f0 f1 : ℕ) → y < 256 → end < 256 → f0 < 256 → f1 < 256 → let mem = cpu.mem in
      AreSmall (set (set (set (set (page_from mem) 16 y) 7 end) 9 f0) 10 f1)
  page_bytes y end f0 f1 ys es f0s f1s = let bytes = enters.loaded.bytes in (
    bytes 0x10,
    (
      bytes 0x11,
      (
        bytes 0x12,
        (
          bytes 0x13,
          (
            bytes 0x14,
            (
              bytes 0x15,
              (
                bytes 0x16,
                (
                  es,
                  (
                    bytes 0x18,
                    (f0s, (f1s, (bytes 0x1B, (bytes 0x1C, (bytes 0x1D, (bytes 0x1E, (bytes 0x1F, (ys, tt)))))))),
                  ),
                ),
              ),
            ),
          ),
        ),
      ),
    ),
  )

  was : (b : ℕ) → over (page_from cpu.mem) cpu.mem b ≡ cpu.mem b
  was b = ap (λ (m : ℕ → ℕ). m b) (over_is cpu.mem enters.loaded)

  refused_other : cpu.y < 256 → nat_eq (cpu.mem 0x10) 7 ≡ false → CopyRefused cpu
  refused_other small is = refused (over (set (page_from cpu.mem) 16 cpu.y) cpu.mem)
      (subst (λ (k : Cpu). Comes cpu.s k cpu.s true (over (set (page_from cpu.mem) 16 cpu.y) cpu.mem) [] []) (from_is cpu enters)
      (other_phase cpu enters is []))
      (loaded_over (set (page_from cpu.mem) 16 cpu.y) cpu.mem (page_bytes cpu.y (cpu.mem 0x17) (cpu.mem 0x19) (cpu.mem 0x1A) small (enters.loaded.bytes 0x17)
      (enters.loaded.bytes 0x19) (enters.loaded.bytes 0x1A)) enters.loaded.bytes)
      (λ b out. kept_set 16 cpu.y (page_from cpu.mem) cpu.mem b
      (eqb-false b 0x20 (or_parts (is_length b) _ out).0) ∙ was b)

  refused_full : cpu.y < 256 → cpu.d ≡ false → cpu.y % 2 ≡ 0 → HasNoRoom cpu.mem cpu.y → CopyRefused cpu
  refused_full small clear even none = refused (over (set (set (set (set (page_from cpu.mem) 16 cpu.y) 7 end) 9 cpu.a) 10 cpu.x) cpu.mem)
      (subst (λ (k : Cpu). Comes cpu.s k cpu.s true (over (set (set (set (set (page_from cpu.mem) 16 cpu.y) 7 end) 9 cpu.a) 10 cpu.x)
      cpu.mem) [] []) (plainly_is cpu enters building'.phase clear)
      (full_up cpu enters building'.phase clear full))
      (loaded_over (set (set (set (set (page_from cpu.mem) 16 cpu.y) 7 end) 9 cpu.a) 10 cpu.x) cpu.mem (page_bytes cpu.y end cpu.a cpu.x small (omega arith) enters.a enters.x) enters.loaded.bytes)
      (λ b out. let first = or_parts (is_length b) _ out in
      let others = or_parts (nat_eq b 0x17) _ (sym (ap (λ p. nat_eq p 7 && (nat_eq b 0x17 || (nat_eq b 0x19 || nat_eq b 0x1A))) building'.phase) ∙ first.1) in
      let last = or_parts (nat_eq b 0x19) (nat_eq b 0x1A) others.1 in
      let page = page_from cpu.mem in let p1 = set page 16 cpu.y in let p2 = set p1 7 end in let p3 = set p2 9 cpu.a in
      kept_set 10 cpu.x p3 cpu.mem b (eqb-false b 0x1A last.1) ∙ kept_set 9 cpu.a p2 cpu.mem b (eqb-false b 0x19 last.0)
      ∙ kept_set 7 end p1 cpu.mem b (eqb-false b 0x17 others.0) ∙ kept_set 16 cpu.y page cpu.mem b (eqb-false b 0x20 first.0) ∙ was b)
    where
      end : ℕ
      end = (cpu.y + cpu.mem 0x13 + 0) % 256

      building' : IsBuilding cpu.mem none.0 none.1 none.2
      building' = none.3

      full : nat_le 4 ((cpu.mem 0x16 + 0 + bit_of (nat_le 256 (cpu.y + cpu.mem 0x13 + 0))) % 256) ≡ true
      full = no_room (cpu.mem 0x16) (cpu.y + cpu.mem 0x13) (nat_le 256 (cpu.y + cpu.mem 0x13 + 0)) refl
          (let m = none.4 in omega (arith, m)) (let e = building'.even in omega (arith, e, even))
          (let f = building'.fits in let s = building'.some in omega (arith, f, s))
          (let p = enters.loaded.bytes 0x13 in omega (arith, p, small))

pub copy_refuses : CopyRefuses
copy_refuses cpu enters small (inl other) = refused_other cpu enters small other
copy_refuses cpu enters small (inr full) = refused_full cpu enters small full.0 full.1 full.2
