-- How far words were listed.
use Rattle.std.proofs.Common.{◌≡◌, ◌≢◌, ℕ, List, [], Some, None, subst, sym}
use Rattle.dvg_code.specs.Cutting.{Cuts, Cutting, Placed}
use Rattle.dvg_code.specs.Listing.{NextListed, place_of, words_left}
use Rattle.dvg_code.specs.declared.instr.Instr.{Instr}
use Rattle.dvg_code.specs.declared.listing.Listed.TheVariants.{At, Cut}
use Rattle.dvg_code.specs.declared.listing.Listing.{Listing}
use Rattle.dvg_code.proofs.Listings.{goes_on, only_rest}
use Rattle.dvg_code.proofs.Unique.{cut_is_rest}

-- the cutting of the words goes on with those that are left
pub record CutsOn (words : List ℕ) (s : Listing) : Type 0 where
  pub on : (cutting : Cutting words) → (more : List Placed) × Cuts (place_of s) (words_left s) more cutting.end cutting.rest

pub cuts_first : (words : List ℕ) (s : Listing) → words_left s ≡ words → place_of s ≡ 0 → CutsOn words s
cuts_first words s left place = record {
  on = λ cutting. (
    cutting.items,
    subst (λ k. Cuts k (words_left s) cutting.items cutting.end cutting.rest) (sym place)
        (subst (λ l. Cuts 0 l cutting.items cutting.end cutting.rest) (sym left) cutting.cuts),
  );
}

pub cuts_next : (words : List ℕ) (s t : Listing) (place : ℕ) (instr : Instr) → CutsOn words s → NextListed s (Some (At place instr)) t → CutsOn words t
cuts_next words s t place instr cuts step = record {
  on = λ cutting.
      let (more, left) = cuts.on cutting in
      let on = goes_on (place_of s) cutting.end (words_left s) step.1.0 (words_left t) cutting.rest instr more step.1.1 step.1.2 left in
      (on.more, subst (λ k. Cuts k (words_left t) on.more cutting.end cutting.rest) (sym step.1.3) on.cuts);
}

pub cuts_to_end : (words : List ℕ) (s t : Listing) → CutsOn words s → NextListed s None t → (cutting : Cutting words) → cutting.rest ≡ []
cuts_to_end words s t cuts step cutting =
    let (more, left) = cuts.on cutting in
    (only_rest (place_of s) cutting.end [] cutting.rest more tt (subst (λ l. Cuts (place_of s) l more cutting.end cutting.rest) step.0 left)).2

pub is_cut : (words : List ℕ) (s t : Listing) (place : ℕ) → CutsOn words s → NextListed s (Some (Cut place)) t → (cutting : Cutting words) → cutting.rest ≢ []
is_cut words s t place cuts step cutting none =
    let (more, left) = cuts.on cutting in
    let same = (only_rest (place_of s) cutting.end (words_left s) cutting.rest more (cut_is_rest (words_left s) step.1) left).2 in
    let word = step.1.2 in
    cc
