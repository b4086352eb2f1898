-- How a reading goes on after a line that decides.
use Rattle.std.proofs.Common.{◌≡◌, ◌≤◌, ℕ, List, [], ◌∷◌, ◌++◌, Option, length, sym, ap, ◌∙◌, subst, arith, append_assoc, append-nil, length-append}
use Rattle.dvg_log.specs.Log.{Log}
use Rattle.dvg_logs.specs.declared.log_reading.LogReading.{LogReading}
use Rattle.dvg_logs.specs.declared.log_reading.LogStop.{LogStop}
use Rattle.dvg_logs.specs.declared.log_reading.LogStop.TheVariants.{Found, Syntax, TooLong}
use Rattle.dvg_logs.specs.LogReading.{HasRead, IfDecided, IsOpen, IsRead, JudgesOn, ReadsOn, place_of}
use Rattle.dvg_logs.proofs.LogReads.{line_read}

pub on_weaker : {V : Type 0} {P Q : V → Type 0} (stop : LogStop V) → ((one : V) → P one → Q one) → IfDecided stop P → IfDecided stop Q
on_weaker (Found n one) f on = f one on
on_weaker (Syntax n) f on = tt
on_weaker TooLong f on = tt

module _ {J V : Type 0} {Stands : J → Log → Type 0} {Passes : List V → Log → Type 0} (old new : LogReading J) (bytes : List ℕ) (one : V) where
  -- a line ends that decides
  pub line_on : IsOpen bytes → new.unfinished.items ≡ [] → length old.unfinished.items ≤ 64 → JudgesOn Stands Passes old.judged new.judged (old.unfinished.items ++ bytes) one → ReadsOn Stands Passes old new (bytes ++ 10 ∷ []) [] one
  line_on unended none few judges = record {
    front = bytes ++ 10 ∷ [];
    split = sym (append-nil (bytes ++ 10 ∷ []));
    read = λ base said text read.
        subst (λ items. IsRead base Stands (Passes (one ∷ said)) new.judged items (text ++ (bytes ++ 10 ∷ []))) (sym none)
        (line_read bytes read unended new.judged (judges.judged base said read.texts read.fine));
    later = omega (arith, judges.count);
    farther = omega (arith, few, judges.count, ap length none);
    some = omega (arith, length-append bytes (10 ∷ []));
  }

  -- of which nothing has come before
  pub first_on : old.unfinished.items ≡ [] → new.unfinished.items ≡ [] → IsOpen bytes → JudgesOn Stands Passes old.judged new.judged bytes one → ReadsOn Stands Passes old new (bytes ++ 10 ∷ []) [] one
  first_on first none unended judges =
      let few : length old.unfinished.items ≤ 64 = omega (arith, ap length first) in
      line_on unended none few (subst (λ line. JudgesOn Stands Passes old.judged new.judged line one) (sym (ap (λ l. l ++ bytes) first)) judges)

  -- in a piece, after this front of it
  pub piece_on : (between : LogReading J) (front line rest after piece : List ℕ) → piece ≡ front ++ rest → rest ≡ line ++ after
      → ((base : Option ℕ) (said : List V) (text : List ℕ) → HasRead base Stands (Passes said) old text → HasRead base Stands (Passes said) between (text ++ front))
      → old.judged.count ≤ between.judged.count → place_of old ≤ place_of between → ReadsOn Stands Passes between new line [] one → ReadsOn Stands Passes old new piece after one
  piece_on between front line rest after piece split is so_far no_fewer no_less on =
      let all : on.front ≡ line = sym (append-nil on.front) ∙ sym on.split in
      record {
        front = front ++ on.front;
        split = split ∙ ap (λ l. front ++ l) (is ∙ ap (λ l. l ++ after) (sym all)) ∙ sym (append_assoc front on.front after);
        read = λ base said text read. subst (λ l. HasRead base Stands (Passes (one ∷ said)) new l) (append_assoc text front on.front) (on.read base said (text ++ front) (so_far base said text read));
        later = omega (arith, no_fewer, on.later);
        farther = omega (arith, no_less, on.farther);
        some = omega (arith, on.some, length-append front on.front);
      }
