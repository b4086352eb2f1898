-- The least memory in which a frame runs, and what the law of undisturbed runs says of it.
use Rattle.std.proofs.Common.{◌≡◌, ◌≢◌, ℕ, zero, suc, ◌+◌, ◌*◌, ◌-◌, ◌≤◌, ◌<◌, List, [], ◌∷◌, length, slice_index, refl, ◌∙◌, ap, Option, Some, None, Bool, true, false, nat_le, nat_lt, ◌&&◌, nat_eq, arith, inl, inr}
use Rattle.std.specs.Prelude.{if◌then◌else◌}
use Rattle.std.proofs.lemmas.Option.{same_Some}
use Rattle.std.proofs.lemmas.Bool.{le-leb, leb-true}
use Rattle.std.proofs.lemmas.Bool.Decides.{eqb_tells, leb_tells}
use Rattle.dvg_code.specs.Words.{word_in}
use Rattle.dvg_mem.specs.declared.half.Half.{Half}
use Rattle.dvg_mem.specs.declared.half.Half.TheVariants.{H0, H1}
use Rattle.dvg_mem.specs.Areas.{base}
use Rattle.dvg_mem.specs.Memory.{rom_word, fetched, IsRom}
use Rattle.dvg_gen.specs.declared.beam.Beam.{Beam}
use Rattle.dvg_gen.specs.declared.stroke.Stroke.{Stroke}
use Rattle.dvg_gen.specs.Run.{Visit, Goes, Finished, Runs, fate, wanted, strokes}
use Rattle.dvg_gen.proofs.OneRun.{before_end, one_end}
use Rattle.dvg_frame.specs.declared.op.OpKind.{OpKind}
use Rattle.dvg_frame.specs.Ops.{IsDraft}
use Rattle.dvg_frame.specs.Bytes.{bytes}
use Rattle.dvg_frame.specs.Layout.{laid}
use Rattle.dvg_frame.specs.Faults.{Accepts}
use Rattle.dvg_frame.specs.Picture.{IsPicture}
use Rattle.dvg_frame.proofs.Sizes.{closed_fits}
use Rattle.dvg_theorem.specs.Law.{HasFrame, IsDrawn}
use Rattle.dvg_theorem.proofs.Law.{any_memory, only_once}
use Rattle.dvg_mem.proofs.Roms.{behind_ram, rom_some}

-- a draft whose frame a driver may be handed
pub record Checked (F : List OpKind) (R : List ℕ) : Type 0 where
  pub draft : IsDraft F
  pub accepts : Accepts F R
  pub rom : IsRom R

pub fits : (half : Half) (F : List OpKind) (R : List ℕ) → Checked F R → length (laid half F) ≤ 511
fits half F R checked = closed_fits half F R checked.accepts.closed

-- the jump in word zero, the frame's words, the ROM's words, and holes everywhere else
abbrev pub frame_memory : Half → List OpKind → List ℕ → ℕ → Option ℕ
frame_memory half F R a =
    if nat_eq a 0 then Some (0xE000 + base half)
    else (if nat_le (base half) a && nat_lt a (base half + length (laid half F)) then Some (slice_index (laid half F) (a - base half)) else rom_word R a)

ram_low : (half : Half) → (1 ≤ base half) × (base half + 511 ≤ 0x400)
ram_low H0 = (omega arith, omega arith)
ram_low H1 = (omega arith, omega arith)

above_le : (a b : ℕ) → b < a → nat_le a b ≡ false
above_le a b h = elim (leb_tells a b) [ inl t ↦ absurd (omega (arith, t.1)) | inr t ↦ t.0 ]

pub not_zero : (a : ℕ) → 1 ≤ a → nat_eq a 0 ≡ false
not_zero a l = elim (eqb_tells a 0) [ inl t ↦ absurd (let e = t.1 in omega arith) | inr t ↦ t.0 ]

pub least_has : (half : Half) (F : List OpKind) (R : List ℕ) → length (laid half F) ≤ 511 → HasFrame (frame_memory half F R) half F R
least_has half F R l = record { zero = refl; laid = λ k lt. in_half k lt; shapes = λ a w e. in_rom a w e }
  where
    in_half : (k : ℕ) → k < length (laid half F) → frame_memory half F R (base half + k) ≡ Some (slice_index (laid half F) k)
    in_half k lt =
        let r = ram_low half in
        let r0 = r.0 in
        let z = not_zero (base half + k) (omega arith) in
        let e1 : nat_le (base half) (base half + k) ≡ true = le-leb (base half) (base half + k) (omega arith) in
        let e2 : nat_lt (base half + k) (base half + length (laid half F)) ≡ true = le-leb (suc (base half + k)) (base half + length (laid half F)) (omega arith) in
        let d : base half + k - base half ≡ k = omega arith in
        rw (z, e1, e2) (ap (λ i. Some (slice_index (laid half F) i)) d)

    in_rom : (a w : ℕ) → rom_word R a ≡ Some w → frame_memory half F R a ≡ Some w
    in_rom a w e =
        let r = ram_low half in
        let r1 = r.1 in
        let b = rom_some R a w e in
        let b0 = b.0 in
        let past = behind_ram R in
        let z = not_zero a (omega arith) in
        let e1 : nat_le (base half) a ≡ true = le-leb (base half) a (omega arith) in
        let e2 : nat_lt a (base half + length (laid half F)) ≡ false = above_le (suc a) (base half + length (laid half F)) (omega arith) in
        rw (z, e1, e2) e

pub least_draws : (half : Half) (F : List OpKind) (R : List ℕ) → Checked F R → IsDrawn F R (frame_memory half F R)
least_draws half F R c = any_memory half F R (frame_memory half F R) c.draft c.rom c.accepts.closed (least_has half F R (fits half F R c))

pub least_once : (half : Half) (F : List OpKind) (R : List ℕ) → Checked F R → (n : ℕ) (vs : List Visit) (held : Option ℕ) → Runs (frame_memory half F R) (suc n) vs held → fate vs ≡ Goes → wanted vs held ≢ 0
least_once half F R c = only_once half F R (frame_memory half F R) c.draft c.rom c.accepts.closed (least_has half F R (fits half F R c))

-- of a frame with a picture, a run that goes on is shorter
pub goes_in_time : {F : List OpKind} {R : List ℕ} {mem : ℕ → Option ℕ} {m n : ℕ} {vs : List Visit} {held : Option ℕ} {s : List Stroke} → IsDrawn F R mem → Runs mem m vs held → fate vs ≡ Goes → IsPicture F R s n → m < n
goes_in_time {n = n} {s = s} d r g p =
    let f = (d.exact (record { x = 0; y = 0; scale = 0 }) s n).1 p in
    before_end r g f.runs f.finished

-- and a run that is finished is as long, and drew it
pub finished_in_time : {F : List OpKind} {R : List ℕ} {mem : ℕ → Option ℕ} {m n : ℕ} {vs : List Visit} {held : Option ℕ} {s : List Stroke} → IsDrawn F R mem → (b : Beam) → Runs mem m vs held → fate vs ≡ Finished → IsPicture F R s n → (m ≡ n) × (strokes b vs ≡ s)
finished_in_time {n = n} {s = s} d b r g p =
    let f = (d.exact b s n).1 p in
    let e = one_end r g f.runs f.finished in
    (e.0, ap (strokes b) e.1 ∙ f.strokes)

pub finished_picture : {F : List OpKind} {R : List ℕ} {mem : ℕ → Option ℕ} {m : ℕ} {vs : List Visit} → IsDrawn F R mem → (b : Beam) → Runs mem m vs None → fate vs ≡ Finished → IsPicture F R (strokes b vs) m
finished_picture {m = m} {vs = vs} d b r g = (d.exact b (strokes b vs) m).0 (record { visits = vs; runs = r; finished = g; strokes = refl })

-- a half holds a frame's bytes
abbrev pub Lies : Half → List OpKind → (ℕ → ℕ) → Type 0
Lies half F byte_at = (k : ℕ) → k < 2 * length (laid half F) → byte_at (2 * base half + k) ≡ slice_index (bytes (laid half F)) k

-- word j of the bytes of words is word j
word_of_bytes : (words : List ℕ) (j : ℕ) → word_in (bytes words) j ≡ slice_index words j
word_of_bytes [] j = refl
word_of_bytes (word ∷ words) zero = omega arith
word_of_bytes (word ∷ words) (suc j) =
    let even : 2 * suc j ≡ suc (suc (2 * j)) = omega arith in
    let odd : 2 * suc j + 1 ≡ suc (suc (2 * j + 1)) = omega arith in
    ap (λ n. slice_index (bytes (word ∷ words)) n + 256 * slice_index (bytes (word ∷ words)) (2 * suc j + 1)) even
    ∙ (ap (λ n. slice_index (bytes words) (2 * j) + 256 * slice_index (bytes (word ∷ words)) n) odd ∙ word_of_bytes words j)

-- the word at an address is that of its two bytes
two_bytes : (some : List ℕ) (a low high : ℕ) → slice_index some (2 * a) ≡ low → slice_index some (2 * a + 1) ≡ high → word_in some a ≡ low + 256 * high
two_bytes some a low high e f = ap (λ n. n + 256 * slice_index some (2 * a + 1)) e ∙ ap (λ n. low + 256 * n) f

-- a half holds a frame's words
pub lies_word : (half : Half) (F : List OpKind) (ram : List ℕ) → Lies half F (slice_index ram) → (k a : ℕ) → k < length (laid half F) → a ≡ base half + k → word_in ram a ≡ slice_index (laid half F) k
lies_word half F ram lies k a within at =
    let low : 2 * a ≡ 2 * base half + 2 * k = omega arith in
    let high : 2 * a + 1 ≡ 2 * base half + (2 * k + 1) = omega arith in
    two_bytes ram a (slice_index (bytes (laid half F)) (2 * k)) (slice_index (bytes (laid half F)) (2 * k + 1))
    (ap (slice_index ram) low ∙ lies (2 * k) (omega arith)) (ap (slice_index ram) high ∙ lies (2 * k + 1) (omega arith))
    ∙ word_of_bytes (laid half F) k

-- where the least memory has a word, other than word zero, so has the RAM or the ROM
pub agrees : (ram R : List ℕ) (half : Half) (F : List OpKind) → length (laid half F) ≤ 511 → Lies half F (slice_index ram) → (a w : ℕ) → a ≢ 0 → frame_memory half F R a ≡ Some w → fetched ram R a ≡ Some w
agrees ram R half F l lies a w n m =
    elim (eqb_tells a 0) [
      | inl t ↦ absurd (n t.1)
      | inr t ↦ inside (nat_le (base half) a) (nat_lt a (base half + length (laid half F))) refl refl (rw t.0 at m)
    ]
  where
    in_rom : rom_word R a ≡ Some w → fetched ram R a ≡ Some w
    in_rom d =
        let b = rom_some R a w d in
        let b0 = b.0 in
        let past = behind_ram R in
        let f : nat_lt a 0x400 ≡ false = above_le (suc a) 0x400 (omega arith) in
        rw f d

    in_half : base half ≤ a → a < base half + length (laid half F) → slice_index (laid half F) (a - base half) ≡ w → fetched ram R a ≡ Some w
    in_half b u d =
        let r = ram_low half in
        let r1 = r.1 in
        let f : nat_lt a 0x400 ≡ true = le-leb (suc a) 0x400 (omega arith) in
        rw f (ap Some (lies_word half F ram lies (a - base half) a (omega arith) (omega arith) ∙ d))

    inside : (s t : Bool) → nat_le (base half) a ≡ s → nat_lt a (base half + length (laid half F)) ≡ t → (if s && t then Some (slice_index (laid half F) (a - base half)) else rom_word R a) ≡ Some w → fetched ram R a ≡ Some w
    inside true true es et d = in_half (leb-true (base half) a es) (leb-true (suc a) (base half + length (laid half F)) et) (same_Some _ _ d)
    inside true false es et d = in_rom d
    inside false t es et d = in_rom d
