-- What a legal log alone tells of byte 000: once there was a flip, that it is 01.
use Rattle.std.proofs.Common.{◌≡◌, ℕ, ◌+◌, ◌*◌, ◌/◌, ◌%◌, inl, inr, List, [], ◌∷◌, refl, sym, ◌∙◌, ap, subst, Option, Some, None, Bool, true, false, arith}
use Rattle.std.specs.Prelude.{◌==◌, ◌&&◌, if◌then◌else◌, option_and_then}
use Rattle.std.specs.Option.{option_or}
use Rattle.std.proofs.lemmas.Option.{none-some, same_Some}
use Rattle.std.proofs.lemmas.Bool.Decides.{eqb_tells}
use Rattle.dvg_mem.specs.Memory.{fetched_byte}
use Rattle.dvg_frame.specs.declared.op.OpKind.{OpKind}
use Rattle.dvg_frame.specs.Steps.{Closed}
use Rattle.dvg_driver.specs.declared.action.Action.TheVariants.{Wrote}
use Rattle.dvg_driver.specs.Script
use Rattle.dvg_driver.specs.Script.{Did, IsWhole, frame_writes}
use Rattle.dvg_driver.specs.Place.{Place, Start, Resting, Writing, next_place, place_of_life}
use Rattle.dvg_driver.proofs.Places.{whole_rests, life_place, place_before}
use Rattle.dvg_log.specs.declared.event.Event.TheVariants.{Offer, Redraw, Tick, Fetch, ResetCpu, ResetAll}
use Rattle.dvg_log.specs.declared.entry.Entry.TheVariants.{Offered, Asked, Acted, Low, Fetched, Done, Cleared}
use Rattle.dvg_log.specs.Log.{◌⟼◌, Log, ram, waiting, low_byte, life, free_half, before_flip}
use Rattle.dvg_log.specs.Legal.{IsLegal}
use Rattle.dvg_theorem.proofs.Bytes.{byte, low_met}
use Rattle.dvg_theorem.proofs.DrawnHalf.{past_zero}
use Rattle.dvg_theorem.proofs.DrawnHalfSpared.{KeptBy, HasFlipped, kept, same_place, byte_other, not_equal}
use Rattle.dvg_theorem.proofs.Linked.{wanting}
use Rattle.dvg_theorem.proofs.Shows.{idle_lays}
use Rattle.dvg_theorem.proofs.ToCome.{ToCome, to_come_frame, IsWrite, is_write, to_half, to_zero, to_one}
use Rattle.dvg_theorem.proofs.Words.{words_are_whole, words_are_paired}
use Rattle.dvg_moment.specs.Moment.{told, waits, word_reads}
use Rattle.dvg_moment.proofs.Halves.{has_flipped, zero_is}

-- what is known, or 0
abbrev or_zero : Option ℕ → ℕ
or_zero None = 0
or_zero (Some v) = v

is_one : (k : Option ℕ) → or_zero k ≡ 1 → k ≡ Some 1
is_one None e = absurd (cc)
is_one (Some v) e = ap Some e

record Tells (image : List ℕ) (log : Log) : Type 0 where
  flipped : HasFlipped (before_flip log) → told log 0 ≡ Some 1
  to_come : (ws : List (ℕ × ℕ)) → place_of_life (life image log) ≡ Some (Writing ws) → ToCome (free_half image log) (or_zero (told log 0)) ws

writing_is : {us vs : List (ℕ × ℕ)} → Some (Writing us) ≡ Some (Writing vs) → us ≡ vs
writing_is d = cc

-- a read of byte 000 tells nothing new
low_again : (x b : ℕ) (before : Option ℕ) → before ≡ Some 1 → (x ≡ 0 → b ≡ 1) → option_or (if 0 == 2 * x then Some b else None) before ≡ before
low_again x b before e f = elim (eqb_tells 0 (2 * x)) [
  | inl t ↦ rw t.0 (ap Some (f (let z = t.1 in omega arith)) ∙ sym e)
  | inr t ↦ rw t.0 refl
]

word_again : (x w : ℕ) (before : Option ℕ) (low : Bool) → low ≡ true → option_or (word_reads low x w 0) before ≡ before
word_again x w before low e = rw (e, odd x) (both (0 == 2 * x))
  where
    odd : (x : ℕ) → (0 == 2 * x + 1) ≡ false
    odd x = not_equal 0 (2 * x + 1) (λ e. omega (arith, e))

    both : (t : Bool) → option_or (if t && false then Some (w % 256) else None) before ≡ before
    both true = refl
    both false = refl

low_one : (b1 b0 b : ℕ) → b0 ≡ 1 → Some ((b0 + 256 * b1) % 256) ≡ Some b → b ≡ 1
low_one b1 b0 b z e = let s = same_Some _ _ e in omega arith

module _ (R image : List ℕ) where
  low_is : (log : Log) (x b : ℕ) → IsLegal R image log → byte image log 0 ≡ 1 → fetched_byte (ram image log) R x false ≡ Some b → x ≡ 0 → b ≡ 1
  low_is log x b l z e x0 = low_one (byte image log 1) (byte image log 0) b z (subst (λ y. fetched_byte (ram image log) R y false ≡ Some b) x0 e)

  -- the same place, and the same knowledge
  same : (log new : Log) → Tells image log → before_flip new ≡ before_flip log → told new 0 ≡ told log 0 → life image new ≡ life image log → free_half image new ≡ free_half image log → Tells image new
  same log new t f k i h = record {
    flipped = λ g. k ∙ t.flipped (subst HasFlipped f g);
    to_come = λ ws p.
        let old = t.to_come ws (subst (λ items. place_of_life items ≡ Some (Writing ws)) i p) in
        subst (λ g. ToCome g (or_zero (told new 0)) ws) (sym h) (subst (λ v. ToCome (free_half image log) (or_zero v) ws) (sym k) old);
  }

  -- another place, where nothing is written
  resting : (log new : Log) → Tells image log → before_flip new ≡ before_flip log → told new 0 ≡ told log 0
      → ((ws : List (ℕ × ℕ)) → place_of_life (life image new) ≡ Some (Writing ws) → ⊥) → Tells image new
  resting log new t f k none = record {
    flipped = λ g. k ∙ t.flipped (subst HasFlipped f g);
    to_come = λ ws p. absurd (none ws p);
  }

  offered_tells : (log : Log) (F : List OpKind) → IsLegal R image log → Tells image log → Closed F R → IsWhole (life image log) → Tells image ((Offer F ⟼ Offered) ∷ log)
  offered_tells log F l t c w =
      let rests = whole_rests (life image log) w in
      let k = kept R image log l (words_are_whole R image log l) in
      let e = same_place (life image log) k.0 (Resting rests.0) k.1.stands rests.1 in
      record {
        flipped = t.flipped;
        to_come = λ ws p. by rests.0 k.0 e rests.1 k.1 ws p;
      }
    where
      by : (first : Bool) (p : Place) → p ≡ Resting first → place_of_life (life image log) ≡ Some (Resting first) → KeptBy image log p → (ws : List (ℕ × ℕ))
          → option_and_then (λ p. next_place p (Script.Offered (free_half image log) F)) (place_of_life (life image log)) ≡ Some (Writing ws)
          → ToCome (free_half image log) (or_zero (told log 0)) ws
      by first p e r k ws d =
          let k2 = subst (KeptBy image log) e k in
          let d2 : Some (Writing (frame_writes (free_half image log) F first)) ≡ Some (Writing ws) = rw r at d in
          subst (ToCome (free_half image log) (or_zero (told log 0))) (writing_is d2)
          (to_come_frame (free_half image log) (or_zero (told log 0)) F R first c (λ f. ap or_zero (t.flipped (k2.here.1 f))))

  ask_rests : (log : Log) (ws : List (ℕ × ℕ)) → IsWhole (life image log) → option_and_then (λ p. next_place p Script.Asked) (place_of_life (life image log)) ≡ Some (Writing ws) → ⊥
  ask_rests log ws w p = let r = whole_rests (life image log) w in let d = rw r.1 at p in cc

  no_start : (ws : List (ℕ × ℕ)) → Some Start ≡ Some (Writing ws) → ⊥
  no_start ws e = cc

  wrote_by : (log : Log) (a b : ℕ) (p q : Place) → Tells image log → place_of_life (life image log) ≡ Some p → next_place p (Did (Wrote a b)) ≡ Some q → place_of_life (Did (Wrote a b) ∷ life image log) ≡ Some q
      → Tells image ((Tick ⟼ Acted (Wrote a b)) ∷ log)
  wrote_by log a b (Writing us) q t d e n = by (is_write (free_half image log) (or_zero (told log 0)) us (t.to_come us d) a b q e)
    where
      new : Log
      new = (Tick ⟼ Acted (Wrote a b)) ∷ log

      by : IsWrite (free_half image log) (or_zero (told log 0)) a b q → Tells image ((Tick ⟼ Acted (Wrote a b)) ∷ log)
      by (to_half i vs w c) =
          let low = past_zero (free_half image log) (a / 2) i in
          let n0 : (0 == a) ≡ false = not_equal 0 a (λ e. omega (arith, e)) in
          let n1 : (a == 1) ≡ false = not_equal a 1 (λ e. omega (arith, e)) in
          let b1 = byte_other (ram image log) a b 1 (λ e. omega (arith, e)) in
          record {
            flipped = λ g. rw n0 (t.flipped (rw n1 at g));
            to_come = λ ws p.
                let vs_is : vs ≡ ws = writing_is (ap Some (sym w) ∙ (sym n ∙ p)) in
                let all : ToCome (free_half image log) (or_zero (told log 0)) ws = subst (ToCome (free_half image log) (or_zero (told log 0))) vs_is c in
                rw (n0, b1) all;
          }
      by (to_zero ea eb vs w c) =
          let n0 : (0 == a) ≡ true = rw ea refl in
          let n1 : (a == 1) ≡ false = not_equal a 1 (λ e. omega (arith, e)) in
          let b1 = byte_other (ram image log) a b 1 (λ e. omega (arith, e)) in
          record {
            flipped = λ g. rw n0 (ap Some eb);
            to_come = λ ws p.
                let vs_is : vs ≡ ws = writing_is (ap Some (sym w) ∙ (sym n ∙ p)) in
                let all : ToCome (free_half image log) 1 ws = subst (ToCome (free_half image log) 1) vs_is c in
                rw (n0, b1, eb) all;
          }
      by (to_one ea eb w z) =
          let n0 : (0 == a) ≡ false = not_equal 0 a (λ e. omega (arith, e)) in
          record {
            flipped = λ g. rw n0 (is_one (told log 0) z);
            to_come = λ ws p. absurd (let d = ap Some (sym w) ∙ (sym n ∙ p) in cc);
          }
  wrote_by log a b _ q t d e n = absurd (none-some q e)

  wrote_tells : (log : Log) (a b : ℕ) → IsLegal R image ((Tick ⟼ Acted (Wrote a b)) ∷ log) → Tells image log → Tells image ((Tick ⟼ Acted (Wrote a b)) ∷ log)
  wrote_tells log a b l t =
      let after = life_place (Did (Wrote a b) ∷ life image log) l.0.0 in
      let before = place_before (Did (Wrote a b)) (life image log) after.0 after.1 in
      wrote_by log a b before.0 after.0 t before.1 before.2 after.1

  low_tells : (log : Log) (x b : ℕ) → IsLegal R image ((Fetch ⟼ Low x b) ∷ log) → Tells image log → Tells image ((Fetch ⟼ Low x b) ∷ log)
  low_tells log x b l t =
      let w = wanting R image log x l.2 l.0.1 in
      let f = has_flipped R image log l.2 w.fetches w.open_now in
      let read = (low_met (ram image log) R (low_byte log) x b l.0.0).1 in
      same log ((Fetch ⟼ Low x b) ∷ log) t refl (low_again x b (told log 0) (t.flipped f) (low_is log x b l.2 (zero_is R image log l.2 f) read)) refl refl

  waits_is : (low : Option (ℕ × ℕ)) (x v : ℕ) → low ≡ Some (x, v) → waits low x ≡ true
  waits_is low x v e = rw e (elim (eqb_tells x x) [ inl t ↦ t.0 | inr t ↦ absurd (t.1 refl) ])

  -- the word's low byte waits
  word_tells : (log : Log) (x w : ℕ) (low : waiting log ≡ Some (x, w % 256)) → option_or (word_reads (waits (waiting log) x) x w 0) (told log 0) ≡ told log 0
  word_tells log x w low = word_again x w (told log 0) (waits (waiting log) x) (waits_is (waiting log) x (w % 256) low)

  tells : (log : Log) → IsLegal R image log → Tells image log
  tells [] l = record { flipped = λ g. absurd (none-some g.0 g.1); to_come = λ ws p. absurd (no_start ws p) }
  tells ((ResetAll bytes ⟼ entry) ∷ log) l = record { flipped = λ g. absurd (none-some g.0 g.1); to_come = λ ws p. absurd (no_start ws p) }
  tells ((ResetCpu ⟼ Cleared) ∷ log) l = resting log ((ResetCpu ⟼ Cleared) ∷ log) (tells log l.2) refl refl (λ ws p. no_start ws p)
  tells ((ResetCpu ⟼ entry) ∷ log) l = absurd l.0
  tells ((Offer F ⟼ Offered) ∷ log) l = offered_tells log F l.2 (tells log l.2) l.0.0.closed l.0.1
  tells ((Redraw ⟼ Asked) ∷ log) l = resting log ((Redraw ⟼ Asked) ∷ log) (tells log l.2) refl refl (λ ws p. ask_rests log ws l.0.1 p)
  tells ((Tick ⟼ Acted (Wrote a b)) ∷ log) l = wrote_tells log a b l (tells log l.2)
  tells ((Tick ⟼ Acted action) ∷ log) l = resting log ((Tick ⟼ Acted action) ∷ log) (tells log l.2) refl refl (λ ws p. idle_lays image log action (λ a b e. cc) ws p)
  tells ((Fetch ⟼ Low x b) ∷ log) l = low_tells log x b l (tells log l.2)
  tells ((Fetch ⟼ Fetched x w) ∷ log) l =
      same log ((Fetch ⟼ Fetched x w) ∷ log) (tells log l.2) refl (word_tells log x w (words_are_paired R image ((Fetch ⟼ Fetched x w) ∷ log) l).0) refl refl
  tells ((Fetch ⟼ Done x w drew) ∷ log) l =
      same log ((Fetch ⟼ Done x w drew) ∷ log) (tells log l.2) refl (word_tells log x w (words_are_paired R image ((Fetch ⟼ Done x w drew) ∷ log) l).0) refl refl
  tells ((event ⟼ Asked) ∷ log) l = absurd l.0
  tells ((event ⟼ Acted action) ∷ log) l = absurd l.0
  tells ((event ⟼ Low x b) ∷ log) l = absurd l.0
  tells ((event ⟼ Fetched x w) ∷ log) l = absurd l.0
  tells ((event ⟼ Done x w drew) ∷ log) l = absurd l.0
  tells ((event ⟼ entry) ∷ log) l = same log ((event ⟼ entry) ∷ log) (tells log l.2) refl refl refl refl

  pub told_zero : (log : Log) → IsLegal R image log → HasFlipped (before_flip log) → told log 0 ≡ Some 1
  told_zero log l f = (tells log l).flipped f
