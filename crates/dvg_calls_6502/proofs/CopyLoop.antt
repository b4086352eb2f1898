-- The loop of dvg_copy.
use Rattle.std.proofs.Common.{◌≡◌, ◌≢◌, ℕ, zero, suc, ◌+◌, ◌-◌, ◌*◌, ◌%◌, ◌<◌, ◌≤◌, Bool, true, false, not, cond, List, [], ◌∷◌}
use Rattle.std.proofs.Common.{◌++◌, length, refl, sym, ap, ◌∙◌, subst, arith, eqb-true, le-leb, leb-true}
use Rattle.std.proofs.lemmas.Bool.{ne_eqb, eqb-false}
use Rattle.std.specs.Prelude.{nat_eq, nat_le, nat_lt, if◌then◌else◌, ◌&&◌, ◌||◌, slice_index}
use Rattle.dvg_calls_6502.specs.Processor.{Cpu, Access, Writes, put, run, stack_place}
use Rattle.dvg_calls_6502.specs.Code.{code}
use Rattle.dvg_calls_6502.specs.Board.{seen, is_hardware}
use Rattle.dvg_calls_6502.specs.Amid.{is_kept, all_in}
use Rattle.dvg_calls_6502.specs.Build.{written}
use Rattle.dvg_calls_6502.proofs.ProcessorRuns.{Comes, at}
use Rattle.dvg_calls_6502.proofs.Memory.{in_code, le_not, same_eqb}
use Rattle.dvg_calls_6502.proofs.FedByte.{compared, taken}
use Rattle.dvg_calls_6502.proofs.TableTick.{in_ram}
use Rattle.dvg_calls_6502.proofs.Follow.{Sym, Way, Goes, Puts, Gets, IsFar, full, over, in_part, follow, Owes, steadily}
use Rattle.dvg_calls_6502.proofs.Sound.{sees}
use Rattle.dvg_calls_6502.proofs.Arrive.{arrives, onward, IsSteadyBy}

-- a memory but for the page
abbrev pub coded : (ℕ → ℕ) → ℕ → ℕ
coded mem b = if in_code b then slice_index code (b - 0x6800) else mem b

-- bytes are put, from an address on
abbrev pub puts : ℕ → List ℕ → (ℕ → ℕ) → ℕ → ℕ
puts a [] mem = mem
puts a (b ∷ bytes) mem = puts (suc a) bytes (put a b mem)

pub far : (p : ℕ) → 0x4002 ≤ p → p < 0x4800 → IsFar p
far p low high =
    let a : nat_le 0x10 p ≡ true = le-leb 0x10 p (omega arith) in
    let b : nat_lt p 0x21 ≡ false = le_not (suc p) 0x21 (omega arith) in
    let r = in_ram p low high in (rw (a, b) refl, r.1, r.2)

pub off : (page : List ℕ) (mem : ℕ → ℕ) (b : ℕ) → in_part b ≡ false → over page mem b ≡ coded mem b
off page mem b is = ap (λ (t : Bool). if t then slice_index page (b - 0x10) else coded mem b) is

-- a write of the vector RAM changes no byte that isn't hardware
untouched : (goal b : ℕ) (mem : ℕ → ℕ) (p : ℕ) → 0x4002 ≤ goal → goal < 0x4800 → is_hardware p ≡ false
    → coded (put goal b mem) p ≡ coded mem p
untouched goal b mem p low high device = ap (λ (t : Bool). if in_code p then slice_index code (p - 0x6800) else if t then b else mem p)
    (ne_eqb p goal (λ same. absurd (let it : is_hardware p ≡ true = ap is_hardware same ∙ (in_ram goal low high).3 in cc)))

assoc : (a b c : List Access) → a ++ (b ++ c) ≡ (a ++ b) ++ c
assoc [] b c = refl
assoc (x ∷ a) b c = ap (λ l. x ∷ l) (assoc a b c)

-- where a copy goes on, of so many bytes
pub record Fits (t0 end f0 y t1 pages f1 src goal count : ℕ) : Type 0 where
  pub y_small : y < 256
  pub f0_small : f0 < 256
  pub f1_small : f1 < 256
  pub few : count < 256
  pub ends_at : (y + count) % 256 ≡ end
  pub reads : (f0 + 256 * f1 + y) % 65536 ≡ src
  pub top : src + count < 65536
  pub writes : t0 + 256 * t1 + y ≡ goal
  pub low : 0x4002 ≤ goal
  pub high : goal + count ≤ 0x4800
  pub room : 256 * pages + y + count ≤ 1024

-- the bytes to be copied
pub record IsSource (R : List ℕ) (mem : ℕ → ℕ) (src : ℕ) (now : List ℕ) : Type 0 where
  pub apart : (k : ℕ) → k < length now → in_part (src + k) ≡ false
  pub device : (k : ℕ) → k < length now → is_hardware (src + k) ≡ false
  pub byte : (k : ℕ) → k < length now → coded mem (src + k) ≡ slice_index now k
  pub held : (tables : ℕ → Bool) → all_in tables R ≡ true → (k : ℕ) → k < length now → tables (src + k) ≡ true

module _ (q x s : ℕ) (v i : Bool) (phase free publish place t0 end second f0 y0 y1 x0 x1 l len : ℕ) (flags : ℕ → ℕ) (R : List ℕ) where
  abbrev pub page : (place t1 pages f1 : ℕ) → List ℕ
  page place t1 pages f1 = phase ∷ free ∷ publish ∷ place ∷ t0 ∷ t1 ∷ pages ∷ end ∷ second ∷ f0 ∷ f1 ∷ y0 ∷ y1 ∷ x0 ∷ x1 ∷ l ∷ len ∷ []

  -- at `more`
  abbrev pub more : (a y : ℕ) (n z c : Bool) (t1 pages f1 : ℕ) (mem : ℕ → ℕ) (log events : List Access) → Sym
  more a y n z c t1 pages f1 mem log events =
      record { cpu = at 0x69F8 a x y s n z c v false i mem flags log; page = page place t1 pages f1; events = events }

  module _ (a y : ℕ) (n z c : Bool) (t1 pages f1 : ℕ) (mem : ℕ → ℕ) (log events : List Access) (quiet : seen log ≡ events) where
    abbrev it : Sym
    it = more a y n z c t1 pages f1 mem log events

    -- the last round
    ends : nat_eq ((y + 256 - end) % 256) 0 ≡ true
        → Comes q (full it) s false (over (page y t1 pages f1) mem) events R
    ends is = arrives q 4 (Goes false ∷ []) it (ap not is, tt) quiet refl refl (λ tables is. refl)

    read_held : {src : ℕ} → (f0 + 256 * f1 + y) % 65536 ≡ src
        → ((tables : ℕ → Bool) → all_in tables R ≡ true → tables src ≡ true)
        → (tables : ℕ → Bool) → all_in tables R ≡ true
        → ((((is_kept tables ((f0 + 256 * f1 + y) % 65536) || (not (nat_eq s q) && (nat_eq ((f0 + 256 * f1 + y) % 65536) (stack_place (s + 1))
        || nat_eq ((f0 + 256 * f1 + y) % 65536) (stack_place (s + 2))))) && true) && true) && true) ≡ true
    read_held {src = src} is held tables also = taken ((f0 + 256 * f1 + y) % 65536) tables _
        (ap (λ p. tables p && true) is ∙ ap (λ (t : Bool). t && true) (held tables also))

    -- a round
    module _ (src goal b : ℕ) (differs : nat_eq ((y + 256 - end) % 256) 0 ≡ false) (is : (f0 + 256 * f1 + y) % 65536 ≡ src)
        (device : is_hardware src ≡ false) (byte : over (page place t1 pages f1) mem src ≡ b)
        (to : (t0 + 256 * t1 + y) % 65536 ≡ goal) (there : IsFar goal)
        (held : (tables : ℕ → Bool) → all_in tables R ≡ true → tables src ≡ true) where
      abbrev path : Bool → List Way
      path wrap = Goes true ∷ Gets src b ∷ Puts goal ∷ Goes (not wrap) ∷ []

      owed : (wrap : Bool) → nat_eq ((y + 1) % 256) 0 ≡ wrap → Owes (if wrap then 9 else 6) (path wrap) it
      owed true wraps = (ap not differs, ((is, device, byte), ((to, there), (ap not wraps, tt))))
      owed false wraps = (ap not differs, ((is, device, byte), ((to, there), (ap not wraps, tt))))

      rounds : (wrap : Bool) → nat_eq ((y + 1) % 256) 0 ≡ wrap → {c' : Bool} {mem' : ℕ → ℕ} {events' : List Access}
          → Comes q (full (follow (if wrap then 9 else 6) (path wrap) it)) s c' mem' events' R
          → Comes q (full it) s c' mem' events' R
      rounds true wraps rest = onward q 9 (path true) it s _ _ _ (owed true wraps) (λ tables also. read_held is held tables also) rest
      rounds false wraps rest = onward q 6 (path false) it s _ _ _ (owed false wraps) (λ tables also. read_held is held tables also) rest

  -- they are copied
  pub record Copied (from : Sym) (t1 pages y count : ℕ) (mem' : ℕ → ℕ) (events' : List Access) : Type 0 where
    pub up : ℕ
    pub t1' : ℕ
    pub pages' : ℕ
    pub f1' : ℕ
    pub comes : Comes q (full from) s false (over (page up t1' pages' f1') mem') events' R
    pub goes_on : 256 * t1' + up ≡ 256 * t1 + y + count
    pub counts : 256 * pages' + up ≡ 256 * pages + y + count
    pub up_small : up < 256
    pub f1_small : f1' < 256

  abbrev Copies : List ℕ → Type 0
  Copies now = (a y : ℕ) (n z c : Bool) (t1 pages f1 src goal : ℕ) (mem : ℕ → ℕ) (log events : List Access) → seen log ≡ events
      → Fits t0 end f0 y t1 pages f1 src goal (length now) → IsSource R mem src now
      → Copied (more a y n z c t1 pages f1 mem log events) t1 pages y (length now) (puts goal now mem) (written goal now ++ events)

  none : Copies []
  none a y n z c t1 pages f1 src goal mem log events quiet fits source =
      record {
        up = y;
        t1' = t1;
        pages' = pages;
        f1' = f1;
        comes = ends a y n z c t1 pages f1 mem log events quiet (compared y end fits.y_small (let e = fits.ends_at in omega (arith, e)) ∙ there);
        goes_on = omega arith;
        counts = omega arith;
        up_small = fits.y_small;
        f1_small = fits.f1_small;
      }
    where
      there : nat_eq y end ≡ true
      there = same_eqb y end (let e = fits.ends_at in let l = fits.y_small in omega (arith, e, l))

  step : (b : ℕ) (rest : List ℕ) → Copies rest → Copies (b ∷ rest)
  step b rest on a y n z c t1 pages f1 src goal mem log events quiet fits source = by (nat_eq ((y + 1) % 256) 0) refl
    where
      from : Sym
      from = more a y n z c t1 pages f1 mem log events

      y_few : y < 256
      y_few = fits.y_small

      few : suc (length rest) < 256
      few = fits.few

      differs : nat_eq ((y + 256 - end) % 256) 0 ≡ false
      differs = compared y end y_few (let e = fits.ends_at in omega (arith, e))
          ∙ ne_eqb y end (λ same. let e = fits.ends_at in absurd (omega (arith, e, y_few, few, same)))

      src_is : src + 0 ≡ src
      src_is = omega arith

      device : is_hardware src ≡ false
      device = sym (ap is_hardware src_is) ∙ source.device 0 (omega arith)

      free0 : in_part src ≡ false
      free0 = sym (ap in_part src_is) ∙ source.apart 0 (omega arith)

      byte : over (page place t1 pages f1) mem src ≡ b
      byte = off (page place t1 pages f1) mem src free0 ∙ sym (ap (coded mem) src_is) ∙ source.byte 0 (omega arith)

      to : (t0 + 256 * t1 + y) % 65536 ≡ goal
      to = let w = fits.writes in let h = fits.high in omega (arith, w, h)

      there : IsFar goal
      there = let h = fits.high in far goal fits.low (omega (arith, h))

      held : (tables : ℕ → Bool) → all_in tables R ≡ true → tables src ≡ true
      held tables is = sym (ap tables src_is) ∙ source.held tables is 0 (omega arith)

      source' : IsSource R (put goal b mem) (suc src) rest
      source' = record {
        apart = λ k less. ap in_part (shift k) ∙ source.apart (suc k) (omega (arith, less));
        device = λ k less. ap is_hardware (shift k) ∙ source.device (suc k) (omega (arith, less));
        byte = λ k less. ap (coded (put goal b mem)) (shift k)
            ∙ untouched goal b mem (src + suc k) fits.low (let h = fits.high in omega (arith, h)) (source.device (suc k) (omega (arith, less)))
            ∙ source.byte (suc k) (omega (arith, less));
        held = λ tables is k less. ap tables (shift k) ∙ source.held tables is (suc k) (omega (arith, less));
      }
        where
          shift : (k : ℕ) → suc src + k ≡ src + suc k
          shift k = omega arith

      shown : written (suc goal) rest ++ Writes goal b ∷ events ≡ written goal (b ∷ rest) ++ events
      shown = assoc (written (suc goal) rest) (Writes goal b ∷ []) events

      full_of : nat_eq ((y + 1) % 256) 0 ≡ true → y ≡ 255
      full_of wraps = let e = eqb-true ((y + 1) % 256) 0 wraps in omega (arith, e, y_few)

      less_of : nat_eq ((y + 1) % 256) 0 ≡ false → y < 255
      less_of open' = let e = eqb-false ((y + 1) % 256) 0 open' in below y y_few e
        where
          below : (y : ℕ) → y < 256 → ((y + 1) % 256 ≡ 0 → ⊥) → y < 255
          below y l e = pick (nat_eq y 255) refl
            where
              pick : (t : Bool) → nat_eq y 255 ≡ t → y < 255
              pick true is = let f = eqb-true y 255 is in absurd (e (omega (arith, f)))
              pick false is = let f = eqb-false y 255 is in omega (arith, f, l)

      by : (wrap : Bool) → nat_eq ((y + 1) % 256) 0 ≡ wrap
          → Copied from t1 pages y (suc (length rest)) (puts goal (b ∷ rest) mem) (written goal (b ∷ rest) ++ events)
      by true wraps =
          let o = owed a y n z c t1 pages f1 mem log events quiet src goal b differs fits.reads device byte to there held true wraps in
          let ways = path a y n z c t1 pages f1 mem log events quiet src goal b differs fits.reads device byte to there held true in
          let e = follow 9 ways from in
          let at_end = full_of wraps in let h = fits.high in let r = fits.room in let w = fits.writes in let low = fits.low in
          let s0 = fits.reads in let f = fits.f0_small in let top = fits.top in let g = fits.f1_small in
          let ends' = fits.ends_at in
          let t_few : t1 < 255 = omega (arith, w, h) in
          let p_few : pages < 255 = omega (arith, r) in
          let two = on b ((y + 1) % 256) e.cpu.n e.cpu.z e.cpu.c ((t1 + 1) % 256) ((pages + 1) % 256) ((f1 + 1) % 256) (suc src) (suc goal)
          (put goal b mem) e.cpu.log (Writes goal b ∷ events) (sees 9 ways from o quiet)
          (record {
            y_small = omega arith;
            f0_small = f;
            f1_small = omega arith;
            few = omega (arith, few);
            ends_at = omega (arith, ends', at_end);
            reads = omega (arith, s0, at_end, f, top, g);
            top = omega (arith, top);
            writes = omega (arith, w, at_end, t_few);
            low = omega (arith, low);
            high = omega (arith, h);
            room = omega (arith, r, at_end, p_few);
          })
          source' in
          let two_to = two.goes_on in let two_on = two.counts in
          record {
            up = two.up;
            t1' = two.t1';
            pages' = two.pages';
            f1' = two.f1';
            comes = rounds a y n z c t1 pages f1 mem log events quiet src goal b differs fits.reads device byte to there held true wraps
                (subst (λ es. Comes q (full e) s false (over (page two.up two.t1' two.pages' two.f1') (puts goal (b ∷ rest) mem)) es R) shown
                two.comes);
            goes_on = omega (arith, two_to, at_end, t_few);
            counts = omega (arith, two_on, at_end, p_few);
            up_small = two.up_small;
            f1_small = two.f1_small;
          }
      by false wraps =
          let o = owed a y n z c t1 pages f1 mem log events quiet src goal b differs fits.reads device byte to there held false wraps in
          let ways = path a y n z c t1 pages f1 mem log events quiet src goal b differs fits.reads device byte to there held false in
          let e = follow 6 ways from in
          let less = less_of wraps in let h = fits.high in let r = fits.room in let w = fits.writes in let low = fits.low in
          let s0 = fits.reads in let f = fits.f0_small in let top = fits.top in let g = fits.f1_small in
          let ends' = fits.ends_at in
          let two = on b ((y + 1) % 256) e.cpu.n e.cpu.z e.cpu.c t1 pages f1 (suc src) (suc goal)
          (put goal b mem) e.cpu.log (Writes goal b ∷ events) (sees 6 ways from o quiet)
          (record {
            y_small = omega arith;
            f0_small = f;
            f1_small = g;
            few = omega (arith, few);
            ends_at = omega (arith, ends', less);
            reads = omega (arith, s0, less, f, top, g);
            top = omega (arith, top);
            writes = omega (arith, w, less);
            low = omega (arith, low);
            high = omega (arith, h);
            room = omega (arith, r, less);
          })
          source' in
          let two_to = two.goes_on in let two_on = two.counts in
          record {
            up = two.up;
            t1' = two.t1';
            pages' = two.pages';
            f1' = two.f1';
            comes = rounds a y n z c t1 pages f1 mem log events quiet src goal b differs fits.reads device byte to there held false wraps
                (subst (λ es. Comes q (full e) s false (over (page two.up two.t1' two.pages' two.f1') (puts goal (b ∷ rest) mem)) es R) shown
                two.comes);
            goes_on = omega (arith, two_to, less);
            counts = omega (arith, two_on, less);
            up_small = two.up_small;
            f1_small = two.f1_small;
          }

  pub copies : (now : List ℕ) → Copies now
  copies [] = none
  copies (b ∷ now) = step b now (copies now)
