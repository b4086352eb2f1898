-- How far a text has gone out.
use Rattle.std.proofs.Common.{◌≡◌, ℕ, List, [], ◌++◌, Option, Result, Ok, Err}
use Rattle.std.proofs.Common.{refl, sym, ap, ◌∙◌, subst, append_assoc, append-nil}
use Rattle.std.specs.Io.KnownBytes.{Appends}
use Rattle.dvg_io.specs.declared.watched.Watched.{Watched}
use Rattle.dvg_io.specs.Watching.{BeginsToWrite, Went, Writes, failures_of, one_more, stream_of}
use Rattle.dvg_io.proofs.KnownBytesChain.{Appends-nil, Appends-trans}

pub nothing : (text : List ℕ) (known : Option (List ℕ)) → Went text text known known
nothing text known = record { front = []; parts = refl; wrote = Appends-nil known }

-- one more piece
pub piece_more : {text rest : List ℕ} {old now new : Option (List ℕ)} (piece later : List ℕ)
    → Went text rest old now → rest ≡ piece ++ later → Appends now new piece → Went text later old new
piece_more {old = old} {now = now} {new = new} piece later went is wrote = record {
  front = went.front ++ piece;
  parts = went.parts ∙ ap (λ l. went.front ++ l) is ∙ sym (append_assoc went.front piece later);
  wrote = Appends-trans old now new _ _ went.wrote wrote;
}

-- a beginning of one more piece
pub piece_begun : {text rest : List ℕ} {old now new : Option (List ℕ)} (piece later : List ℕ)
    → Went text rest old now → rest ≡ piece ++ later → BeginsToWrite piece now new → BeginsToWrite text old new
piece_begun {old = old} {now = now} {new = new} piece later went is begun = record {
  front = went.front ++ begun.front;
  rest = begun.rest ++ later;
  parts = went.parts
      ∙ ap (λ l. went.front ++ l) (is ∙ ap (λ l. l ++ later) begun.parts ∙ append_assoc begun.front begun.rest later)
      ∙ sym (append_assoc went.front begun.front (begun.rest ++ later));
  wrote = Appends-trans old now new _ _ went.wrote begun.wrote;
}

-- nothing is left
pub all_of_it : {text rest : List ℕ} {old now : Option (List ℕ)} → Went text rest old now → rest ≡ []
    → Appends old now text
all_of_it {old = old} {now = now} went none =
    let whole = went.parts ∙ ap (λ l. went.front ++ l) none ∙ append-nil went.front in
    subst (Appends old now) (sym whole) went.wrote

-- one text after another, of which both went out, or a beginning of the second
pub both : (first second : List ℕ) (old now new : Option (List ℕ)) → Appends old now first → Appends now new second
    → Appends old new (first ++ second)
both first second old now new one other = Appends-trans old now new first second one other

pub first_begun : {first : List ℕ} {old new : Option (List ℕ)} (second : List ℕ) → BeginsToWrite first old new
    → BeginsToWrite (first ++ second) old new
first_begun {first = first} {old = old} second begun =
    piece_begun first second (nothing (first ++ second) old) refl begun

pub second_begun : (first second : List ℕ) {old now new : Option (List ℕ)} → Appends old now first
    → BeginsToWrite second now new → BeginsToWrite (first ++ second) old new
second_begun first second {old = old} wrote begun =
    let went = piece_more first second (nothing (first ++ second) old) refl wrote in
    piece_begun second [] went (sym (append-nil second)) begun

-- a text that went out whole, and nothing failed
abbrev pub Wrote : {W : Type 0} → (contents : W → Option (List ℕ)) → (text : List ℕ) → (old new : Watched W) → Type 0
Wrote contents text old new =
    Appends (contents (stream_of old)) (contents (stream_of new)) text × (failures_of new ≡ failures_of old)

-- a text of which a beginning went out, with one more failure
abbrev pub BrokeOff : {W : Type 0} → (contents : W → Option (List ℕ)) → (text : List ℕ) → (old new : Watched W) → Type 0
BrokeOff contents text old new =
    BeginsToWrite text (contents (stream_of old)) (contents (stream_of new))
    × (failures_of new ≡ one_more (failures_of old))

module _ {W : Type 0} (contents : W → Option (List ℕ)) (first second : List ℕ) where
  -- the first of two texts broke off
  pub writes_first : (old new : Watched W) → BrokeOff contents first old new
      → BrokeOff contents (first ++ second) old new
  writes_first old new broke = (first_begun second broke.0, broke.1)

  -- the first went out, and then the second is written
  pub writes_second : {V E : Type 0} (answer : Result V E) (old now new : Watched W) → Wrote contents first old now
      → Writes contents second answer now new → Writes contents (first ++ second) answer old new
  writes_second (Ok done) old now new wrote more = (both first second _ _ _ wrote.0 more.0, more.1 ∙ wrote.1)
  writes_second (Err fault) old now new wrote more =
      (second_begun first second wrote.0 more.0, more.1 ∙ ap one_more wrote.1)

-- what is left of a text is written
pub writes_rest : {W V E : Type 0} (contents : W → Option (List ℕ)) (text rest : List ℕ) (answer : Result V E)
    (old now new : Watched W) → Went text rest (contents (stream_of old)) (contents (stream_of now))
    → failures_of now ≡ failures_of old → Writes contents rest answer now new → Writes contents text answer old new
writes_rest contents text rest (Ok done) old now new went same wrote =
    (all_of_it (piece_more rest [] went (sym (append-nil rest)) wrote.0) refl, wrote.1 ∙ same)
writes_rest contents text rest (Err fault) old now new went same wrote =
    (piece_begun rest [] went (sym (append-nil rest)) wrote.0, wrote.1 ∙ ap one_more same)
