-- What a log tells of memory is true, whoever drives.
use Rattle.std.proofs.Common.{◌≡◌, ℕ, ◌+◌, ◌*◌, ◌/◌, ◌%◌, ◌<◌, ◌≤◌, ◌⊎◌, inl, inr, List, [], ◌∷◌, ◌++◌, length, refl, sym, ◌∙◌, ap, subst, Option, Some, None, Bool, true, false, arith}
use Rattle.std.specs.Prelude.{◌==◌, nat_lt, ◌&&◌, if◌then◌else◌, option_map, is_some, slice_index, slice_set}
use Rattle.std.specs.Option.{option_or}
use Rattle.std.proofs.lemmas.Bool.{cases_lt, lt-ltb, le-ltb}
use Rattle.std.proofs.lemmas.Option.{none-some, same_Some}
use Rattle.std.proofs.lemmas.Bool.Decides.{eqb_tells}
use Rattle.dvg_code.specs.Words.{word_in}
use Rattle.dvg_mem.specs.Memory.{IsImage, rom_word, fetched, fetched_byte}
use Rattle.dvg_gen.specs.Bytes.{Whole, met, word_of}
use Rattle.dvg_driver.specs.declared.action.Action.TheVariants.{Wrote}
use Rattle.dvg_log.specs.Events.{Happening}
use Rattle.dvg_log.specs.declared.event.Event.TheVariants.{Tick, Fetch, ResetGen, ResetAll}
use Rattle.dvg_log.specs.Entries.{Shown}
use Rattle.dvg_log.specs.declared.entry.Entry.TheVariants.{Acted, Started, Low, Fetched, Done, Broke}
use Rattle.dvg_log.specs.Log.{◌⟼◌, Log, Throughout, ram, waiting, low_byte, meets, history}
use Rattle.dvg_log.specs.Legal.{IsWanted}
use Rattle.dvg_theorem.proofs.Bytes.{byte, low_met, word_met}
use Rattle.dvg_theorem.proofs.DrawnHalfSpared.{byte_other, byte_here}
use Rattle.dvg_moment.specs.Moment.{stands, told, waits, word_reads, WaitsAsAnother, Contradicts, Changes, HasChanged, StillStands, ReadsThen, IsMoment}
use Rattle.dvg_moment.specs.Played.{FetchesMemory, DrewItsMoment, DrawsTheMoment, NeverContradicts, ErrsUntold}
use Rattle.dvg_moment.proofs.DrawsTheMoment.{AreBytes, are_bytes, wanted_same, low_part, high_part, draws_the_moment}

-- bytes that are fetched are small
fetched_small : (mem R : List ℕ) (x b : ℕ) → fetched_byte mem R x false ≡ Some b → b < 256
fetched_small mem R x b e = by (fetched mem R x) e
  where
    by : (word : Option ℕ) → option_map (λ word. word % 256) word ≡ Some b → b < 256
    by None e = absurd (none-some b e)
    by (Some w) e = let f = same_Some _ _ e in omega arith

-- a byte of the RAM that is fetched stands there
low_there : (mem R : List ℕ) (x b : ℕ) → AreBytes mem → x < 0x400 → fetched_byte mem R x false ≡ Some b → slice_index mem (2 * x) ≡ b
low_there mem R x b small l e =
    let t = lt-ltb x 0x400 l in
    let f : Some (word_in mem x % 256) ≡ Some b = rw t at e in
    sym (low_part (slice_index mem (2 * x)) (slice_index mem (2 * x + 1)) (small.1 (2 * x))) ∙ same_Some _ _ f

high_there : (mem R : List ℕ) (x w : ℕ) (low : Option ℕ) (l : ℕ) → AreBytes mem → x < 0x400 → low ≡ Some l → l < 256 → met low (fetched_byte mem R x (is_some low)) ≡ Whole (Some w)
    → slice_index mem (2 * x + 1) ≡ w / 256
high_there mem R x w None l small lt e s m = absurd (none-some l e)
high_there mem R x w (Some k) l small lt e s m =
    let t = lt-ltb x 0x400 lt in
    let f : Whole (Some (k + 256 * (word_in mem x / 256))) ≡ Whole (Some w) = rw t at m in
    let g : k + 256 * (word_in mem x / 256) ≡ w = same_Some _ _ (ap word_of f) in
    let h = high_part (slice_index mem (2 * x)) (slice_index mem (2 * x + 1)) (small.1 (2 * x)) in
    let i : word_in mem x / 256 ≡ slice_index mem (2 * x + 1) = h in
    let same = same_Some _ _ e in
    omega arith

-- a word that is met is of the low byte that waits and of the high byte that is found
word_parts : (mem R : List ℕ) (x w l : ℕ) → met (Some l) (fetched_byte mem R x true) ≡ Whole (Some w) → (h : ℕ) × (fetched_byte mem R x true ≡ Some h) × (w ≡ l + 256 * h)
word_parts mem R x w l m = by (fetched_byte mem R x true) m
  where
    by : (found : Option ℕ) → met (Some l) found ≡ Whole (Some w) → (h : ℕ) × (found ≡ Some h) × (w ≡ l + 256 * h)
    by None m = absurd (none-some w (ap word_of m))
    by (Some h) m = (h, refl, sym (same_Some _ _ (ap word_of m)))

-- the ROM's byte, the high or the low one of a word
abbrev rom_byte : List ℕ → ℕ → Bool → Option ℕ
rom_byte R x high = option_map (λ word. if high then word / 256 else word % 256) (rom_word R x)

rom_found : (mem R : List ℕ) (x : ℕ) (high : Bool) → 0x400 ≤ x → rom_byte R x high ≡ fetched_byte mem R x high
rom_found mem R x high l = rw (le-ltb x 0x400 l) refl

module _ (R image : List ℕ) (small : IsImage image) where
  abbrev Waiting : Log → ℕ × ℕ → Type 0
  Waiting log low = IsWanted (history R image log) low.0 × (low.1 < 256)

  waiting_wanted : (log : Log) → Throughout (FetchesMemory R image) log → (low : ℕ × ℕ) → waiting log ≡ Some low → Waiting log low
  waiting_wanted [] p low e = absurd (none-some low e)
  waiting_wanted ((event ⟼ Started) ∷ log) p low e = absurd (none-some low e)
  waiting_wanted ((ResetGen ⟼ entry) ∷ log) p low e = absurd (none-some low e)
  waiting_wanted ((ResetAll bytes ⟼ entry) ∷ log) p low e = absurd (none-some low e)
  waiting_wanted ((event ⟼ Fetched x w) ∷ log) p low e = absurd (none-some low e)
  waiting_wanted ((event ⟼ Done x w drew) ∷ log) p low e = absurd (none-some low e)
  waiting_wanted ((event ⟼ Broke x fault) ∷ log) p low e = absurd (none-some low e)
  waiting_wanted ((Fetch ⟼ Low x b) ∷ log) p low e =
      subst (Waiting log) (same_Some _ _ e) (p.0.1, fetched_small (ram image log) R x b (low_met (ram image log) R (low_byte log) x b p.0.0).1)
  waiting_wanted ((event ⟼ Low x b) ∷ log) p low e = absurd p.0
  waiting_wanted ((event ⟼ entry) ∷ log) p low e = waiting_wanted log p.1 low e

  low_of : (low : Option (ℕ × ℕ)) (l : ℕ) → option_map (λ w. w.1) low ≡ Some l → (y : ℕ × ℕ) × (low ≡ Some y) × (y.1 ≡ l)
  low_of None l e = absurd (none-some l e)
  low_of (Some low) l e = (low, refl, same_Some _ _ e)

  waits_is : (low : Option (ℕ × ℕ)) (y : ℕ × ℕ) (x : ℕ) → low ≡ Some y → y.0 ≡ x → waits low x ≡ true
  waits_is low y x e f = rw (e, f) (elim (eqb_tells x x) [ inl t ↦ t.0 | inr t ↦ absurd (t.1 refl) ])

  -- what is told of a byte of the RAM is what stands there
  abbrev IsTrueOf : Option ℕ → Log → ℕ → Type 0
  IsTrueOf known log a = (v : ℕ) → known ≡ Some v → byte image log a ≡ v

  wrote_true : (log : Log) (b w a v : ℕ) → a < 0x800 → AreBytes (ram image log) → IsTrueOf (told log a) log a → (if a == b && nat_lt a 0x800 then Some w else told log a) ≡ Some v → slice_index (slice_set (ram image log) b w) a ≡ v
  wrote_true log b w a v l bytes old e = elim (eqb_tells a b) [
    | inl t ↦ (
        let same : w ≡ v = same_Some _ _ (rw (t.0, lt-ltb a 0x800 l) at e) in
        let count = bytes.0 in
        let here : b < length (ram image log) = let at = t.1 in omega arith in
        subst (λ c. slice_index (slice_set (ram image log) b w) c ≡ v) (sym t.1) (byte_here (ram image log) b w here ∙ same))
    | inr t ↦ byte_other (ram image log) b w a (λ f. t.1 (sym f)) ∙ old v (rw t.0 at e)
  ]

  low_true : (log : Log) (x b a : ℕ) → a < 0x800 → AreBytes (ram image log) → fetched_byte (ram image log) R x false ≡ Some b → IsTrueOf (told log a) log a
      → IsTrueOf (option_or (if a == 2 * x then Some b else None) (told log a)) log a
  low_true log x b a l bytes there old v e = elim (eqb_tells a (2 * x)) [
    | inl t ↦ (
        let same : b ≡ v = same_Some _ _ (rw t.0 at e) in
        let at = t.1 in
        subst (λ c. byte image log c ≡ v) (sym at) (low_there (ram image log) R x b bytes (omega arith) there ∙ same))
    | inr t ↦ old v (rw t.0 at e)
  ]

  word_true : (log : Log) (x w a : ℕ) → a < 0x800 → Throughout (FetchesMemory R image) log → meets R image log x ≡ Whole (Some w) → IsWanted (history R image log) x
      → IsTrueOf (told log a) log a → IsTrueOf (option_or (word_reads (waits (waiting log) x) x w a) (told log a)) log a
  word_true log x w a l p m f old v e =
      let low = word_met (ram image log) R (low_byte log) x w m in
      let y = low_of (waiting log) low.0 low.1 in
      let t = waiting_wanted log p y.0 y.1 in
      let waits_here = waits_is (waiting log) y.0 x y.1 (wanted_same t.0 f) in
      by (waits (waiting log) x) waits_here e (λ lt. high_there (ram image log) R x w (low_byte log) low.0 (are_bytes R image small log p) lt low.1 (let s = t.1 in let g = y.2 in omega arith) m)
    where
      last : (t : Bool) → option_or (if t && false then Some (w % 256) else None) (told log a) ≡ told log a
      last true = refl
      last false = refl

      by : (low_waits : Bool) → low_waits ≡ true → option_or (word_reads low_waits x w a) (told log a) ≡ Some v → (x < 0x400 → slice_index (ram image log) (2 * x + 1) ≡ w / 256) → byte image log a ≡ v
      by false z e there = absurd (cc)
      by true z e there = elim (eqb_tells a (2 * x + 1)) [
        | inl t ↦ (
            let same : w / 256 ≡ v = same_Some _ _ (rw t.0 at e) in
            let at = t.1 in
            subst (λ c. byte image log c ≡ v) (sym at) (there (omega arith) ∙ same))
        | inr t ↦ old v (sym (last (a == 2 * x)) ∙ rw t.0 at e)
      ]

  told_true : (log : Log) → Throughout (FetchesMemory R image) log → (a : ℕ) → a < 0x800 → IsTrueOf (told log a) log a
  told_true [] p a l v e = absurd (none-some v e)
  told_true ((ResetAll bytes ⟼ entry) ∷ log) p a l v e = absurd (none-some v e)
  told_true ((Tick ⟼ Acted (Wrote b w)) ∷ log) p a l v e = wrote_true log b w a v l (are_bytes R image small log p.1) (told_true log p.1 a l) e
  told_true ((Fetch ⟼ Low x b) ∷ log) p a l v e = low_true log x b a l (are_bytes R image small log p.1) (low_met (ram image log) R (low_byte log) x b p.0.0).1 (told_true log p.1 a l) v e
  told_true ((Fetch ⟼ Fetched x w) ∷ log) p a l v e = word_true log x w a l p.1 p.0.0 p.0.1.asked (told_true log p.1 a l) v e
  told_true ((Fetch ⟼ Done x w drew) ∷ log) p a l v e = word_true log x w a l p.1 p.0.0 p.0.1.asked (told_true log p.1 a l) v e
  told_true ((event ⟼ Acted (Wrote b w)) ∷ log) p a l v e = absurd p.0
  told_true ((event ⟼ Low x b) ∷ log) p a l v e = absurd p.0
  told_true ((event ⟼ Fetched x w) ∷ log) p a l v e = absurd p.0
  told_true ((event ⟼ Done x w drew) ∷ log) p a l v e = absurd p.0
  told_true ((event ⟼ entry) ∷ log) p a l v e = told_true log p.1 a l v e

  -- of the word that a fetch meets the low byte waits
  waiting_met : (log : Log) (x w : ℕ) → Throughout (FetchesMemory R image) log → meets R image log x ≡ Whole (Some w) → (low : ℕ × ℕ) → waiting log ≡ Some low
      → (h : ℕ) × (fetched_byte (ram image log) R x true ≡ Some h) × (w ≡ low.1 + 256 * h) × (low.1 < 256)
  waiting_met log x w p m low e =
      let parts = word_parts (ram image log) R x w low.1 (subst (λ known. met (option_map (λ k. k.1) known) (fetched_byte (ram image log) R x (is_some (option_map (λ k. k.1) known))) ≡ Whole (Some w)) e m) in
      (parts.0, parts.1, parts.2, (waiting_wanted log p low e).1)

  waits_right : (log : Log) (x w : ℕ) → Throughout (FetchesMemory R image) log → meets R image log x ≡ Whole (Some w) → ¬ WaitsAsAnother (waiting log) x (w % 256)
  waits_right log x w p m k = by (waiting log) refl k
    where
      by : (known : Option (ℕ × ℕ)) → waiting log ≡ known → WaitsAsAnother known x (w % 256) → ⊥
      by None e k = k
      by (Some low) e k = let t = waiting_met log x w p m low e in k.1 (let sum = t.2 in let l = t.3 in omega arith)

  -- what is told of a byte from 800 on is what the ROM has
  abbrev IsOfRom : Option ℕ → ℕ → Type 0
  IsOfRom known a = (v : ℕ) → known ≡ Some v → ((y : ℕ) → a ≡ 2 * y → rom_byte R y false ≡ Some v) × ((y : ℕ) → a ≡ 2 * y + 1 → rom_byte R y true ≡ Some v)

  unwritten : (log : Log) (b w a : ℕ) → 0x800 ≤ a → (if a == b && nat_lt a 0x800 then Some w else told log a) ≡ told log a
  unwritten log b w a l = rw (le-ltb a 0x800 l) (last (a == b))
    where
      last : (t : Bool) → (if t && false then Some w else told log a) ≡ told log a
      last true = refl
      last false = refl

  low_of_rom : (log : Log) (x b a : ℕ) → 0x800 ≤ a → fetched_byte (ram image log) R x false ≡ Some b → IsOfRom (told log a) a → IsOfRom (option_or (if a == 2 * x then Some b else None) (told log a)) a
  low_of_rom log x b a l there old v e = elim (eqb_tells a (2 * x)) [
    | inl t ↦ (
        let at = t.1 in
        let here : rom_byte R x false ≡ Some v = rom_found (ram image log) R x false (omega arith) ∙ (there ∙ rw t.0 at e) in
        ((λ y f. subst (λ z. rom_byte R z false ≡ Some v) (omega arith) here), λ y f. absurd (omega arith)))
    | inr t ↦ old v (rw t.0 at e)
  ]

  word_of_rom : (log : Log) (x w a : ℕ) → 0x800 ≤ a → Throughout (FetchesMemory R image) log → meets R image log x ≡ Whole (Some w) → IsWanted (history R image log) x
      → IsOfRom (told log a) a → IsOfRom (option_or (word_reads (waits (waiting log) x) x w a) (told log a)) a
  word_of_rom log x w a l p m f old v e =
      let low = word_met (ram image log) R (low_byte log) x w m in
      let y = low_of (waiting log) low.0 low.1 in
      let t = waiting_wanted log p y.0 y.1 in
      let k = waiting_met log x w p m y.0 y.1 in
      let high : w / 256 ≡ k.0 = let sum = k.2 in let under = k.3 in omega arith in
      by (waits (waiting log) x) (waits_is (waiting log) y.0 x y.1 (wanted_same t.0 f)) e (k.1 ∙ ap Some (sym high))
    where
      last : (t : Bool) → option_or (if t && false then Some (w % 256) else None) (told log a) ≡ told log a
      last true = refl
      last false = refl

      by : (low_waits : Bool) → low_waits ≡ true → option_or (word_reads low_waits x w a) (told log a) ≡ Some v → fetched_byte (ram image log) R x true ≡ Some (w / 256)
          → ((y : ℕ) → a ≡ 2 * y → rom_byte R y false ≡ Some v) × ((y : ℕ) → a ≡ 2 * y + 1 → rom_byte R y true ≡ Some v)
      by false z e there = absurd (cc)
      by true z e there = elim (eqb_tells a (2 * x + 1)) [
        | inl t ↦ (
            let at = t.1 in
            let here : rom_byte R x true ≡ Some v = rom_found (ram image log) R x true (omega arith) ∙ (there ∙ rw t.0 at e) in
            ((λ y f. absurd (omega arith)), λ y f. subst (λ z. rom_byte R z true ≡ Some v) (omega arith) here))
        | inr t ↦ old v (sym (last (a == 2 * x)) ∙ rw t.0 at e)
      ]

  rom_told : (log : Log) → Throughout (FetchesMemory R image) log → (a : ℕ) → 0x800 ≤ a → IsOfRom (told log a) a
  rom_told [] p a l v e = absurd (none-some v e)
  rom_told ((ResetAll bytes ⟼ entry) ∷ log) p a l v e = absurd (none-some v e)
  rom_told ((Tick ⟼ Acted (Wrote b w)) ∷ log) p a l v e = rom_told log p.1 a l v (sym (unwritten log b w a l) ∙ e)
  rom_told ((Fetch ⟼ Low x b) ∷ log) p a l v e = low_of_rom log x b a l (low_met (ram image log) R (low_byte log) x b p.0.0).1 (rom_told log p.1 a l) v e
  rom_told ((Fetch ⟼ Fetched x w) ∷ log) p a l v e = word_of_rom log x w a l p.1 p.0.0 p.0.1.asked (rom_told log p.1 a l) v e
  rom_told ((Fetch ⟼ Done x w drew) ∷ log) p a l v e = word_of_rom log x w a l p.1 p.0.0 p.0.1.asked (rom_told log p.1 a l) v e
  rom_told ((event ⟼ Acted (Wrote b w)) ∷ log) p a l v e = absurd p.0
  rom_told ((event ⟼ Low x b) ∷ log) p a l v e = absurd p.0
  rom_told ((event ⟼ Fetched x w) ∷ log) p a l v e = absurd p.0
  rom_told ((event ⟼ Done x w drew) ∷ log) p a l v e = absurd p.0
  rom_told ((event ⟼ entry) ∷ log) p a l v e = rom_told log p.1 a l v e

  parity : (a : ℕ) → (a ≡ 2 * (a / 2)) ⊎ (a ≡ 2 * (a / 2) + 1)
  parity a = elim (eqb_tells (a % 2) 0) [ inl t ↦ inl (let e = t.1 in omega arith) | inr t ↦ inr (let n = t.1 in omega arith) ]

  -- where memory stays, the same is told of it
  same_told : (log later : Log) (a v u : ℕ) → Throughout (FetchesMemory R image) log → Throughout (FetchesMemory R image) later → byte image later a ≡ byte image log a
      → told later a ≡ Some v → told log a ≡ Some u → v ≡ u
  same_told log later a v u p q same e f = elim (cases_lt a 0x800) [
    | inl l ↦ sym (told_true later q a l v e) ∙ (same ∙ told_true log p a l u f)
    | inr l ↦ (
        let new = rom_told later q a l v e in
        let old = rom_told log p a l u f in
        elim (parity a) [
          | inl t ↦ same_Some _ _ (sym (new.0 (a / 2) t) ∙ old.0 (a / 2) t)
          | inr t ↦ same_Some _ _ (sym (new.1 (a / 2) t) ∙ old.1 (a / 2) t)
        ])
  ]

  -- what changes in memory changes by what is told
  changes : (log : Log) (event : Happening) (entry : Shown) → Throughout (FetchesMemory R image) log → FetchesMemory R image log event entry → (a : ℕ) → Changes (stands image) a log entry → Changes told a log entry
  changes log Tick (Acted (Wrote b w)) p q a c = (c.0, c.1, λ e. c.2 (ap Some (told_true log p a c.1 w e)))
  changes log event (Acted (Wrote b w)) p q a c = absurd q
  changes log event entry p q a c = absurd c

  -- what changes by what is told, and not in memory, wasn't told
  untold : (log : Log) (entry : Shown) (a : ℕ) → Throughout (FetchesMemory R image) log → Changes told a log entry → ¬ Changes (stands image) a log entry → told log a ≡ None
  untold log (Acted (Wrote b w)) a p c n = by (told log a) refl
    where
      by : (known : Option ℕ) → told log a ≡ known → known ≡ None
      by None e = refl
      by (Some v) e = absurd (n (c.0, c.1, λ same. c.2 (e ∙ (ap Some (sym (told_true log p a c.1 v e)) ∙ same))))
  untold log entry a p c n = absurd c

  -- what is read is what stands there, and so is what was told
  agrees : (log : Log) (event : Happening) (entry : Shown) → Throughout (FetchesMemory R image) log → FetchesMemory R image log event entry → ¬ Contradicts log entry
  agrees log Fetch (Low x b) p q c = c.6 (same_told log ((Fetch ⟼ Low x b) ∷ log) c.0 c.1 c.2 p (q, p) refl (ap (λ read. option_or read (told log c.0)) c.4) c.5)
  agrees log Fetch (Fetched x w) p q (inl c) = c.6 (same_told log ((Fetch ⟼ Fetched x w) ∷ log) c.0 c.1 c.2 p (q, p) refl (ap (λ read. option_or read (told log c.0)) c.4) c.5)
  agrees log Fetch (Fetched x w) p q (inr k) = waits_right log x w p q.0 k
  agrees log Fetch (Done x w drew) p q (inl c) = c.6 (same_told log ((Fetch ⟼ Done x w drew) ∷ log) c.0 c.1 c.2 p (q, p) refl (ap (λ read. option_or read (told log c.0)) c.4) c.5)
  agrees log Fetch (Done x w drew) p q (inr k) = waits_right log x w p q.0 k
  agrees log event (Low x b) p q c = absurd q
  agrees log event (Fetched x w) p q c = absurd q
  agrees log event (Done x w drew) p q c = absurd q
  agrees log event entry p q c = none-some c.1 c.4

  pub all_agree : (log : Log) → Throughout (FetchesMemory R image) log → Throughout (λ log event entry. ¬ Contradicts log entry) log
  all_agree [] p = tt
  all_agree ((event ⟼ entry) ∷ log) p = (agrees log event entry p.1 p.0, all_agree log p.1)

  changed : (part moment : Log) → Throughout (FetchesMemory R image) (part ++ moment) → (a : ℕ) → HasChanged (stands image) a part moment → HasChanged told a part moment
  changed [] moment p a c = absurd c
  changed ((event ⟼ entry) ∷ part) moment p a (inl c) = inl (changes (part ++ moment) event entry p.1 p.0 a c)
  changed ((event ⟼ entry) ∷ part) moment p a (inr c) = inr (changed part moment p.1 a c)

  stand : (event : Happening) (entry : Shown) (log : Log) → Throughout (FetchesMemory R image) log → FetchesMemory R image log event entry → (StillStands told log → StillStands (stands image) log)
      → StillStands told ((event ⟼ entry) ∷ log) → StillStands (stands image) ((event ⟼ entry) ∷ log)
  stand event Started log p q f s = tt
  stand event entry log p q f s = ((λ a h c. s.0 a h (changes log event entry p q a c)), f s.1)

  still : (log : Log) → Throughout (FetchesMemory R image) log → StillStands told log → StillStands (stands image) log
  still [] p s = tt
  still ((event ⟼ entry) ∷ log) p s = stand event entry log p.1 p.0 (still log p.1) s

  reads : (part moment : Log) → Throughout (FetchesMemory R image) (part ++ moment) → Throughout (ReadsThen told moment) part → Throughout (ReadsThen (stands image) moment) part
  reads [] moment p r = tt
  reads ((event ⟼ entry) ∷ part) moment p r = ((r.0.0, λ a h c. r.0.1 a h (changed part moment p.1 a c)), reads part moment p.1 r.1)

  later : (part moment : Log) → Throughout (FetchesMemory R image) (part ++ moment) → Throughout (FetchesMemory R image) moment
  later [] moment p = p
  later ((event ⟼ entry) ∷ part) moment p = later part moment p.1

  pub is_moment : (log since moment : Log) → Throughout (FetchesMemory R image) log → IsMoment told log since moment → IsMoment (stands image) log since moment
  is_moment log since moment p m =
      let q = subst (Throughout (FetchesMemory R image)) m.split p in
      record { split = m.split; read_before = still moment (later since moment q) m.read_before; read_since = reads since moment q m.read_since }

  line_is_enough : (log : Log) (event : Happening) (entry : Shown) → Throughout (FetchesMemory R image) ((event ⟼ entry) ∷ log) → DrewItsMoment (stands image) R image log event entry → DrewItsMoment told R image log event entry
  line_is_enough log event (Done x w drew) p d = λ ws o since moment m run l. d ws o since moment (is_moment ((event ⟼ Done x w drew) ∷ log) since moment p m) run l
  line_is_enough log event entry p d = tt

  all_is_enough : (log : Log) → Throughout (FetchesMemory R image) log → Throughout (DrewItsMoment (stands image) R image) log → Throughout (DrewItsMoment told R image) log
  all_is_enough [] p d = tt
  all_is_enough ((event ⟼ entry) ∷ log) p d = (line_is_enough log event entry p d.0, all_is_enough log p.1 d.1)

pub told_is_enough : DrawsTheMoment (λ image. told)
told_is_enough R image log small p = all_is_enough R image small log p (draws_the_moment R image log small p)

pub never_contradicts : NeverContradicts
never_contradicts R image log small p = all_agree R image small log p

pub errs_untold : ErrsUntold
errs_untold R image log entry a small p c n = untold R image small log entry a p c n
