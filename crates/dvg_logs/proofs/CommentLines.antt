-- A comment at the head of a text.
use Rattle.std.proofs.Common.{◌≡◌, ◌≤◌, if◌then◌else◌, ◌-◌, ℕ, zero, suc, List, [], ◌∷◌, Bool, true, false, Some, length, get_or, take, eqb, refl, ap, ◌∙◌, arith}
use Rattle.std.specs.Str.Lines.{strip_carriage_return}
use Rattle.std.proofs.lemmas.List.{length-take}
use Rattle.dvg_read.specs.Texts.{is_passed}
use Rattle.dvg_read.proofs.FirstBytes.{IsCutAt, behind}
use Rattle.dvg_logs.specs.LogLines.{passed}
use Rattle.dvg_logs.specs.LogLineTells.{line_of}
use Rattle.dvg_logs.specs.declared.log_line.LogLine.TheVariants as code
use Rattle.dvg_logs.specs.LogReading.{HeadLine}
use Rattle.dvg_logs.proofs.LogReads.{cut_line}

-- without its last byte, too, it begins with `#`, which is 35
begins_so : (is : Bool) (byte : ℕ) (more : List ℕ) → is_passed (if is then take (length (35 ∷ byte ∷ more) - 1) (35 ∷ byte ∷ more) else 35 ∷ byte ∷ more) ≡ true
begins_so true byte more = let last : length (35 ∷ byte ∷ more) - 1 ≡ suc (length more) = omega arith in ap (λ n. is_passed (take n (35 ∷ byte ∷ more))) last
begins_so false byte more = refl

is_comment : (more : List ℕ) → is_passed (strip_carriage_return (35 ∷ more)) ≡ true
is_comment [] = refl
is_comment (byte ∷ more) = begins_so (eqb (get_or (35 ∷ byte ∷ more) (length (35 ∷ byte ∷ more) - 1) 0) 13) byte more

front_passed : (end : ℕ) (more : List ℕ) → is_passed (strip_carriage_return (take end (35 ∷ more))) ≡ true
front_passed zero more = refl
front_passed (suc end) more = is_comment (take end more)

pub comment_head : {text : List ℕ} (more : List ℕ) (end : ℕ) → text ≡ 35 ∷ more → IsCutAt 10 text (Some end) → end ≤ 64
    → HeadLine (λ base. Unit {0}) (line_of code.Passed) text (behind end text)
comment_head {text} more end is cut few =
    let (byte, halves, none, ends) = cut in
    record {
      line = take end text;
      split = cut_line text end cut;
      unended = none;
      tells = λ base holds. passed (omega (arith, length-take end text, few)) (ap (λ text. is_passed (strip_carriage_return (take end text))) is ∙ front_passed end more);
    }
