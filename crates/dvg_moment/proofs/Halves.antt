-- In which half, or where else, the runs of legal logs read, and where is written meanwhile.
use Rattle.std.proofs.Common.{◌≡◌, ◌≢◌, ℕ, suc, ◌+◌, ◌/◌, ◌≤◌, ◌⊎◌, inl, inr, List, [], ◌∷◌, length, refl, sym, ◌∙◌, ap, subst, Some, Bool, true, false, nat_le, nat_lt, nat_eq, arith}
use Rattle.std.proofs.lemmas.Option.{none-some, same_Some}
use Rattle.std.proofs.lemmas.Bool.{leb-true}
use Rattle.dvg_mem.specs.declared.half.Half.{Half}
use Rattle.dvg_mem.specs.Areas.{IsInHalf, base}
use Rattle.dvg_mem.specs.Memory.{rom_word}
use Rattle.dvg_mem.proofs.Roms.{behind_ram, rom_some}
use Rattle.dvg_gen.specs.Run.{wanted, fate}
use Rattle.dvg_frame.specs.declared.op.OpKind.{OpKind}
use Rattle.dvg_frame.specs.Layout.{laid}
use Rattle.dvg_driver.specs.declared.action.Action.TheVariants.{Wrote}
use Rattle.dvg_driver.specs.Script.{Did}
use Rattle.dvg_driver.specs.Place.{Place, Writing, next_place}
use Rattle.dvg_driver.proofs.Places.{life_place, place_before}
use Rattle.dvg_log.specs.declared.event.Event.TheVariants.{Tick}
use Rattle.dvg_log.specs.declared.entry.Entry.TheVariants.{Acted}
use Rattle.dvg_log.specs.Log.{◌⟼◌, Log, history, open_run, life, free_half, before_flip}
use Rattle.dvg_log.specs.Legal.{IsWanted, IsLegal}
use Rattle.dvg_theorem.proofs.Bytes.{byte}
use Rattle.dvg_theorem.proofs.DrawnHalf.{LeadsTo, drawing, leads_same}
use Rattle.dvg_theorem.proofs.Headline.{never_torn}
use Rattle.dvg_theorem.proofs.DrawnHalfSpared.{KeptBy, HasFlipped, kept, same_place, first_at}
use Rattle.dvg_theorem.proofs.Later.{memory_is, shows}
use Rattle.dvg_theorem.proofs.LeastMemory.{frame_memory, least_once, fits, not_zero}
use Rattle.dvg_theorem.proofs.Linked.{Cut, cut_same, wanting}
use Rattle.dvg_theorem.proofs.ToCome.{IsWrite, is_write, to_half, to_zero, to_one}
use Rattle.dvg_theorem.proofs.Words.{words_are_whole}

-- the least memory of a frame has words in the half and in the ROM alone, but for word zero
in_half_or_rom : (half : Half) (F : List OpKind) (R : List ℕ) (a w : ℕ) → length (laid half F) ≤ 511 → a ≢ 0
    → frame_memory half F R a ≡ Some w → IsInHalf half a ⊎ (0x400 ≤ a)
in_half_or_rom half F R a w short n m = by (nat_eq a 0) (nat_le (base half) a) (nat_lt a (base half + length (laid half F))) (not_zero a (let p = n in omega arith)) refl refl m
  where
    by : (z s t : Bool) → nat_eq a 0 ≡ false → nat_le (base half) a ≡ s → nat_lt a (base half + length (laid half F)) ≡ t
        → frame_memory half F R a ≡ Some w → IsInHalf half a ⊎ (0x400 ≤ a)
    by z true true ez es et d =
        let low = leb-true (base half) a es in
        let high = leb-true (suc a) (base half + length (laid half F)) et in
        inl (low, omega arith)
    by z true false ez es et d = inr (let e : rom_word R a ≡ Some w = rw (ez, es, et) at d in let r = (rom_some R a w e).0 in let past = behind_ram R in omega arith)
    by z false t ez es et d = inr (let e : rom_word R a ≡ Some w = rw (ez, es) at d in let r = (rom_some R a w e).0 in let past = behind_ram R in omega arith)

module _ (R image : List ℕ) where
  -- a run that has fetched a word goes on in the half that it draws, or in the ROM
  pub wanted_there : (log : Log) → IsLegal R image log → (x : ℕ) → IsWanted (history R image log) x
      → (v : ℕ × ℕ) (vs : List (ℕ × ℕ)) → open_run log ≡ Some (v ∷ vs) → (half : Half) → LeadsTo (v ∷ vs) half
      → IsInHalf half x ⊎ (0x400 ≤ x)
  wanted_there log l x f v vs o half leads =
      let r = (shows R image log l (words_are_whole R image log l)).0.running v vs o in
      let t = wanting R image log x l f in
      let cut : Cut (v ∷ vs) f.run.visits f.run.held = subst (λ ws. Cut ws f.run.visits f.run.held) (same_Some _ _ (sym t.open_now ∙ o)) t.cut in
      let same = cut_same r.cut cut in
      let goes = ap fate same.0 ∙ t.goes in
      let at : wanted r.visits r.held ≡ x = ap (λ y. wanted y r.held) same.0 ∙ ap (λ y. wanted f.run.visits y) same.1 ∙ sym t.at in
      let m = memory_is R image log v vs r goes in
      let once = least_once r.half r.draft R r.checked (length vs) r.visits r.held r.runs goes in
      let there = in_half_or_rom r.half r.draft R (wanted r.visits r.held) m.0 (fits r.half r.draft R r.checked) once m.1 in
      let P : ℕ → Type 0 = λ y. IsInHalf r.half y ⊎ (0x400 ≤ y) in
      subst (λ h. IsInHalf h x ⊎ (0x400 ≤ x)) (leads_same r.drawn leads) (subst P at there)

  -- a run that has fetched none wants word zero
  pub wanted_first : (log : Log) → IsLegal R image log → (x : ℕ) → IsWanted (history R image log) x → open_run log ≡ Some [] → x ≡ 0
  wanted_first log l x f o =
      let t = wanting R image log x l f in
      t.at ∙ first_at f.run.visits f.run.held (subst (λ ws. Cut ws f.run.visits f.run.held) (same_Some _ _ (sym t.open_now ∙ o)) t.cut)

  -- while a run is open there was a flip
  pub has_flipped : (log : Log) → IsLegal R image log → (ws : List (ℕ × ℕ)) → open_run log ≡ Some ws → HasFlipped (before_flip log)
  has_flipped log l ws o =
      let k = (kept R image log l (words_are_whole R image log l)).1 in
      k.flipped (k.started ws o)

  -- once there was a flip byte 000 is 01
  pub zero_is : (log : Log) → IsLegal R image log → HasFlipped (before_flip log) → byte image log 0 ≡ 1
  zero_is log l f = ((kept R image log l (words_are_whole R image log l)).1.jumps f).0

  -- what a legal log writes: a byte of a half, or 01 to byte 000, or byte 001
  pub data Writes (a b : ℕ) : Type 0 where
    half_byte : (half : Half) → IsInHalf half (a / 2) → Writes a b
    zero_byte : a ≡ 0 → b ≡ 1 → Writes a b
    one_byte : a ≡ 1 → Writes a b

  at_place : (log : Log) (p q : Place) (a b : ℕ) → KeptBy image log p → next_place p (Did (Wrote a b)) ≡ Some q → Writes a b
  at_place log (Writing ws) q a b k e = by (is_write (free_half image log) (byte image log 0) ws k.here.1 a b q e)
    where
      by : IsWrite (free_half image log) (byte image log 0) a b q → Writes a b
      by (to_half i vs d t) = half_byte (free_half image log) i
      by (to_zero ea eb vs d t) = zero_byte ea eb
      by (to_one ea eb d z) = one_byte ea
  at_place log _ q a b k e = absurd (none-some q e)

  pub writes : (log : Log) (a b : ℕ) → IsLegal R image ((Tick ⟼ Acted (Wrote a b)) ∷ log) → Writes a b
  writes log a b l =
      let k = kept R image log l.2 (words_are_whole R image log l.2) in
      let after = life_place (Did (Wrote a b) ∷ life image log) l.0.0 in
      let before = place_before (Did (Wrote a b)) (life image log) after.0 after.1 in
      at_place log k.0 after.0 a b k.1 (ap (λ p. next_place p (Did (Wrote a b))) (same_place (life image log) k.0 before.0 k.1.stands before.1) ∙ before.2)

  -- a byte that is written isn't one of the half that a run draws
  pub written_apart : (log : Log) (a b : ℕ) → IsLegal R image ((Tick ⟼ Acted (Wrote a b)) ∷ log)
      → (v : ℕ × ℕ) (vs : List (ℕ × ℕ)) → open_run log ≡ Some (v ∷ vs) → (half : Half) → LeadsTo (v ∷ vs) half
      → ¬ IsInHalf half (a / 2)
  written_apart log a b l v vs o half leads =
      (never_torn R image ((Tick ⟼ Acted (Wrote a b)) ∷ log) l).0 half (drawing log half (v ∷ vs) o leads)
