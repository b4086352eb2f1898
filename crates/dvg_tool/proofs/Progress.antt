-- How far a listing has come.
use Rattle.std.proofs.Common.{◌≡◌, ◌≢◌, ℕ, ◌+◌, ◌≤◌, List, [], ◌∷◌, ◌++◌, Option, Some, None, length, take, drop, refl, sym, ap, subst, ◌∙◌, append_assoc, append-nil, arith, length-append, nat_eq}
use lib.Pointwise.{pointwise}
use Rattle.std.specs.Io.KnownBytes.{Appends}
use Rattle.std.proofs.Math.Seq.{take-append_seam, drop-append_seam}
use Rattle.std.proofs.lemmas.Grind.{flat_map-append}
use Rattle.dvg_code.specs.declared.instr.Instr.{Instr}
use Rattle.dvg_code.specs.declared.listing.Listing.{Listing}
use Rattle.dvg_code.specs.declared.listing.Listed.TheVariants.{At, Cut}
use Rattle.dvg_code.specs.declared.instr.Instr.TheVariants.{Vctr, Labs, Halt, Jsrl, Rtsl, Jmpl, Svec}
use Rattle.dvg_code.specs.Spelling.{Spells, canon, word_count}
use Rattle.dvg_code.specs.Cutting.{Cuts, Cutting, Placed}
use Rattle.dvg_code.specs.Listing.{NextListed, place_of, words_left}
use Rattle.dvg_code.proofs.Unique.{cut_is_rest, spelling_length}
use Rattle.dvg_code.proofs.Listings.{goes_on, only_rest}
use Rattle.dvg_print.specs.Lines.{line_text}
use Rattle.dvg_tool.specs.Lists.{address_from, line_at, line_of, list_text}
use Rattle.dvg_io.specs.Watching.{BeginsToWrite}
use Rattle.dvg_io.proofs.KnownBytesChain.{Appends-nil, Appends-trans}

-- the words that are left stand at this place of all words
pub record Stands (words left : List ℕ) (place : ℕ) : Type 0 where
  pub before : List ℕ
  pub parts : words ≡ before ++ left
  pub place_is : place ≡ length before

-- these items of the cutting are done, and their lines went out; the others are cut off the words that are left
pub record Progress (at : ℕ) (items : List Placed) (end : ℕ) (rest left : List ℕ) (place : ℕ) (old now : Option (List ℕ)) : Type 0 where
  pub done : List Placed
  pub more : List Placed
  pub parts : items ≡ done ++ more
  pub cuts : Cuts place left more end rest
  pub wrote : Appends old now (list_text at done)

pub stands_first : (words : List ℕ) (s : Listing) → words_left s ≡ words → place_of s ≡ 0 → Stands words (words_left s) (place_of s)
stands_first words s left place = record { before = []; parts = sym left; place_is = place }

pub within : (words left : List ℕ) (place : ℕ) → Stands words left place → place ≤ length words
within words left place s = omega (arith, s.place_is, ap length s.parts, length-append s.before left)

-- an instruction further
pub stands_next : (words left after front : List ℕ) (place next : ℕ) → Stands words left place → left ≡ front ++ after → next ≡ place + length front → Stands words after next
stands_next words left after front place next s parts n = record {
  before = s.before ++ front;
  parts = s.parts ∙ ap (λ l. s.before ++ l) parts ∙ sym (append_assoc s.before front after);
  place_is = omega (arith, n, s.place_is, length-append s.before front);
}

abbrev pub item_at : ℕ → Instr → List ℕ → Placed
item_at place instr front = record { place = place; instr = instr; words = front }

canon_length : (instr : Instr) → length (canon instr) ≡ word_count instr
canon_length (Vctr scale dx dy z) = refl
canon_length (Labs x y scale) = refl
canon_length Halt = refl
canon_length (Jsrl address) = refl
canon_length Rtsl = refl
canon_length (Jmpl address) = refl
canon_length (Svec scale dx dy z) = refl

module _ (at : ℕ) where
  pub begin : (words : List ℕ) (s : Listing) (known : Option (List ℕ)) (cutting : Cutting words) → words_left s ≡ words → place_of s ≡ 0
      → Progress at cutting.items cutting.end cutting.rest (words_left s) (place_of s) known known
  begin words s known cutting left place = record {
    done = [];
    more = cutting.items;
    parts = refl;
    cuts = subst (λ k. Cuts k (words_left s) cutting.items cutting.end cutting.rest) (sym place) (subst (λ l. Cuts 0 l cutting.items cutting.end cutting.rest) (sym left) cutting.cuts);
    wrote = Appends-nil known;
  }

  -- the line at a place is that of the instruction that stands there
  line_is : (words left after front : List ℕ) (place : ℕ) (instr : Instr) → Stands words left place → Spells instr front → left ≡ front ++ after
      → line_at words place (address_from at place) instr ≡ line_of at (item_at place instr front)
  line_is words left after front place instr s spelled parts =
      let from : drop place words ≡ left =
      ap (λ k. drop k words) s.place_is ∙ ap (drop (length s.before)) s.parts ∙ drop-append_seam s.before left in
      let seen : take (length (canon instr)) (drop place words) ≡ front =
      ap (take (length (canon instr))) (from ∙ parts) ∙ ap (λ k. take k (front ++ after)) (canon_length instr ∙ sym (spelling_length instr front spelled)) ∙ take-append_seam front after in
      ap (λ l. line_text (address_from at place) instr (pointwise nat_eq (canon instr) l)) seen

  text-snoc : (items : List Placed) (item : Placed) → list_text at items ++ line_of at item ≡ list_text at (items ++ item ∷ [])
  text-snoc items item =
      ap (λ l. list_text at items ++ l) (sym (append-nil (line_of at item))) ∙ sym (flat_map-append (line_of at) items (item ∷ []))

  -- one more line went out
  pub advance : (words : List ℕ) (s t : Listing) (place : ℕ) (instr : Instr) (old now new : Option (List ℕ)) (cutting : Cutting words)
      → Stands words (words_left s) (place_of s) → Progress at cutting.items cutting.end cutting.rest (words_left s) (place_of s) old now → NextListed s (Some (At place instr)) t
      → Appends now new (line_at words place (address_from at place) instr) → Progress at cutting.items cutting.end cutting.rest (words_left t) (place_of t) old new
  advance words s t place instr old now new cutting stands p step line =
      let front = step.1.0 in
      let item = item_at (place_of s) instr front in
      let on = goes_on (place_of s) cutting.end (words_left s) front (words_left t) cutting.rest instr p.more step.1.1 step.1.2 p.cuts in
      let is : line_at words place (address_from at place) instr ≡ line_of at item =
      ap (λ k. line_at words k (address_from at k) instr) step.0 ∙ line_is words (words_left s) (words_left t) front (place_of s) instr stands step.1.1 step.1.2 in
      record {
        done = p.done ++ item ∷ [];
        more = on.more;
        parts = p.parts ∙ ap (λ l. p.done ++ l) on.is ∙ sym (append_assoc p.done (item ∷ []) on.more);
        cuts = subst (λ k. Cuts k (words_left t) on.more cutting.end cutting.rest) (sym step.1.3) on.cuts;
        wrote = subst (Appends old new) (text-snoc p.done item) (Appends-trans old now new _ _ p.wrote (subst (Appends now new) is line));
      }

  -- a beginning of one more line went out
  pub broke_off : (words : List ℕ) (s t : Listing) (place : ℕ) (instr : Instr) (old now new : Option (List ℕ)) (cutting : Cutting words)
      → Stands words (words_left s) (place_of s) → Progress at cutting.items cutting.end cutting.rest (words_left s) (place_of s) old now → NextListed s (Some (At place instr)) t
      → BeginsToWrite (line_at words place (address_from at place) instr) now new → BeginsToWrite (list_text at cutting.items) old new
  broke_off words s t place instr old now new cutting stands p step begun =
      let front = step.1.0 in
      let item = item_at (place_of s) instr front in
      let on = goes_on (place_of s) cutting.end (words_left s) front (words_left t) cutting.rest instr p.more step.1.1 step.1.2 p.cuts in
      let is : line_at words place (address_from at place) instr ≡ line_of at item =
      ap (λ k. line_at words k (address_from at k) instr) step.0 ∙ line_is words (words_left s) (words_left t) front (place_of s) instr stands step.1.1 step.1.2 in
      let text : list_text at cutting.items ≡ list_text at p.done ++ (line_of at item ++ list_text at on.more) =
      ap (list_text at) (p.parts ∙ ap (λ l. p.done ++ l) on.is) ∙ flat_map-append (line_of at) p.done (item ∷ on.more) in
      let line : line_of at item ≡ begun.front ++ begun.rest = sym is ∙ begun.parts in
      record {
        front = list_text at p.done ++ begun.front;
        rest = begun.rest ++ list_text at on.more;
        parts = text ∙ ap (λ l. list_text at p.done ++ (l ++ list_text at on.more)) line ∙ ap (λ l. list_text at p.done ++ l) (append_assoc begun.front begun.rest (list_text at on.more))
            ∙ sym (append_assoc (list_text at p.done) begun.front (begun.rest ++ list_text at on.more));
        wrote = Appends-trans old now new _ _ p.wrote begun.wrote;
      }

  -- where no words are left, the text is whole
  pub finish : (words : List ℕ) (s t : Listing) (old now : Option (List ℕ)) (cutting : Cutting words) → Progress at cutting.items cutting.end cutting.rest (words_left s) (place_of s) old now
      → NextListed s None t → (cutting.rest ≡ []) × Appends old now (list_text at cutting.items)
  finish words s t old now cutting p step =
      let same = only_rest (place_of s) cutting.end [] cutting.rest p.more tt (subst (λ l. Cuts (place_of s) l p.more cutting.end cutting.rest) step.0 p.cuts) in
      let all : cutting.items ≡ p.done = p.parts ∙ ap (λ l. p.done ++ l) same.0 ∙ append-nil p.done in
      (same.2, subst (λ l. Appends old now (list_text at l)) (sym all) p.wrote)

  -- where the words that are left begin with no instruction, the text goes up to them
  pub stop : (words : List ℕ) (s t : Listing) (place : ℕ) (old now : Option (List ℕ)) (cutting : Cutting words) → Progress at cutting.items cutting.end cutting.rest (words_left s) (place_of s) old now
      → NextListed s (Some (Cut place)) t → (cutting.rest ≢ []) × (place ≡ cutting.end) × Appends old now (list_text at cutting.items)
  stop words s t place old now cutting p step =
      let same = only_rest (place_of s) cutting.end (words_left s) cutting.rest p.more (cut_is_rest (words_left s) step.1) p.cuts in
      let all : cutting.items ≡ p.done = p.parts ∙ ap (λ l. p.done ++ l) same.0 ∙ append-nil p.done in
      (λ none. let left = step.1.2 in let same_rest = same.2 in cc, step.0 ∙ sym same.1, subst (λ l. Appends old now (list_text at l)) (sym all) p.wrote)
