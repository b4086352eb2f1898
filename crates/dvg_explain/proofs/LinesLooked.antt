-- How far the lines of a text were looked at.
use Rattle.std.proofs.Common.{◌≡◌, ◌∙◌, ◌+◌, ◌≤◌, ℕ, All, List, [], ◌∷◌, ◌++◌, ap, append_assoc, append-nil, arith, length, length-append, refl, subst, sym}
use Rattle.std.proofs.lemmas.List.Elements.{All-head, All-nil, All-push, All-tail}
use Rattle.dvg_read.specs.FirstFaults.{IsShort}
use Rattle.dvg_read.specs.Texts.{lines}
use Rattle.dvg_read.specs.declared.draft_text.TheConstants.{MOST_TEXT_BYTES}
use Rattle.dvg_read.proofs.ReadTo.{lines_length}
use Rattle.dvg_explain.specs.Answers.{IsNoLog, TellsSome}
use Rattle.dvg_explain.specs.Kinds.{IsSilent, Says}

-- so many lines were looked at, of each of which this holds, and these are left
pub record LookedAt (Holds : List ℕ → Type 0) (text : List ℕ) (left : List (List ℕ)) (number : ℕ) : Type 0 where
  pub before : List (List ℕ)
  pub cut : lines text ≡ before ++ left
  pub counted : number ≡ length before
  pub all : All Holds before

pub looks_first : (Holds : List ℕ → Type 0) (text : List ℕ) (left : List (List ℕ)) → left ≡ lines text → LookedAt Holds text left 0
looks_first Holds text left is = record { before = []; cut = sym is; counted = refl; all = All-nil Holds }

-- the lines, with the next one
cut_on : (Holds : List ℕ → Type 0) (text : List ℕ) (left : List (List ℕ)) (number : ℕ) (looked : LookedAt Holds text left number) (line : List ℕ) (rest : List (List ℕ))
    → left ≡ line ∷ rest → lines text ≡ looked.before ++ line ∷ rest
cut_on Holds text left number looked line rest step = looked.cut ∙ ap (λ l. looked.before ++ l) step

pub looks_on : (Holds : List ℕ → Type 0) (text : List ℕ) (left : List (List ℕ)) (number : ℕ) → LookedAt Holds text left number → (line : List ℕ) (rest : List (List ℕ))
    → left ≡ line ∷ rest → Holds line → LookedAt Holds text rest (number + 1)
looks_on Holds text left number looked line rest step holds = record {
  before = looked.before ++ line ∷ [];
  cut = cut_on Holds text left number looked line rest step ∙ sym (append_assoc looked.before (line ∷ []) rest);
  counted = omega (arith, looked.counted, length-append looked.before (line ∷ []));
  all = All-push Holds looked.before line looked.all holds;
}

pub looks_to_end : (Holds : List ℕ → Type 0) (text : List ℕ) (left : List (List ℕ)) (number : ℕ) → LookedAt Holds text left number → left ≡ [] → All Holds (lines text)
looks_to_end Holds text left number looked none =
    subst (All Holds) (sym (looked.cut ∙ ap (λ l. looked.before ++ l) none ∙ append-nil looked.before)) looked.all

pub few_lines : (Holds : List ℕ → Type 0) (text : List ℕ) (left : List (List ℕ)) (number : ℕ) → LookedAt Holds text left number → IsShort text → number ≤ MOST_TEXT_BYTES
few_lines Holds text left number looked short =
    omega (arith, looked.counted, ap length looked.cut, length-append looked.before left, lines_length text)

-- the next line is the first that is none of a log
pub stops_log : (text : List ℕ) (left : List (List ℕ)) (number : ℕ) → LookedAt TellsSome text left number → (line : List ℕ) (rest : List (List ℕ))
    → left ≡ line ∷ rest → (¬ TellsSome line) → IsNoLog text (number + 1)
stops_log text left number looked line rest step wrong = record {
  before = looked.before;
  line = line;
  after = rest;
  cut = cut_on TellsSome text left number looked line rest step;
  number = omega (arith, looked.counted);
  fine = looked.all;
  wrong = wrong;
}

middle : (Holds : List ℕ → Type 0) (before : List (List ℕ)) (line : List ℕ) (after : List (List ℕ)) → All Holds (before ++ line ∷ after) → Holds line
middle Holds [] line after all = All-head Holds line after all
middle Holds (one ∷ before) line after all = middle Holds before line after (All-tail Holds one (before ++ line ∷ after) all)

-- the next line says something
pub is_said : (text : List ℕ) (left : List (List ℕ)) (number : ℕ) → LookedAt (λ line. ¬ Says line) text left number → (line : List ℕ) (rest : List (List ℕ))
    → left ≡ line ∷ rest → Says line → ¬ IsSilent text
is_said text left number looked line rest step says silent =
    middle (λ line. ¬ Says line) looked.before line rest
    (subst (All (λ line. ¬ Says line)) (cut_on (λ line. ¬ Says line) text left number looked line rest step) silent) says
