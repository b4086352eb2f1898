-- What the judge's lists hold may be put and offered.
use Rattle.std.proofs.Common.{◌≡◌, ℕ, ◌+◌, ◌*◌, ◌<◌, ◌≤◌, true, List, length, sym, ◌∙◌, ap, arith, inl, inr}
use Rattle.dvg_calls_6502.specs.Build.{calls_one}
use Rattle.dvg_frame.specs.declared.op.OpKind.{OpKind}
use Rattle.dvg_calls_6502.proofs.Checked.{checked_expressible}
use Rattle.dvg_calls_6502.proofs.FewAccesses.{high_plain}
use Rattle.dvg_game_rules.specs.Machine.{word_at}
use Rattle.dvg_game_content.specs.Law.{IsTableAt, IsWordOf}
use Rattle.dvg_game_check.specs.Rules.{HasBytes}
use Rattle.dvg_game_content.specs.Words.{is_short, shape_of}
use Rattle.dvg_game_content.proofs.Words.{Put, shape_word, short_put}
use Rattle.dvg_game_check.specs.Offered.{IsAccepted, IsFineTable, IsFineWord, IsLaid}

word_of : (R : List ℕ) (a x : ℕ) → Put R a x → IsWordOf R a x
word_of R a x p = record { op = p.op; word = p.word; put = p.put; is_op = p.is_op }

pub short_is : (R : List ℕ) (a x : ℕ) → a < 256 → is_short a x ≡ true → IsWordOf R a x
short_is R a x small is = word_of R a x (short_put R a x small is)

pub shape_is : (R : List ℕ) (a x : ℕ) → a < 256 → 0xC0 ≤ x → x < 0xD0 → IsAccepted (calls_one (shape_of a x)) R → IsWordOf R a x
unfolding IsAccepted
shape_is R a x small low high is = word_of R a x (shape_word R a x small low high is)

pub word_is : (R : List ℕ) (a x : ℕ) → a < 256 → IsFineWord R a x → IsWordOf R a x
word_is R a x small (inl is) = short_is R a x small is
word_is R a x small (inr shape) = shape_is R a x small shape.0 shape.1 shape.2

-- a table that is laid in a ROM
pub table_is : (F : List OpKind) (R bytes : List ℕ) (t count : ℕ) (rom : ℕ → ℕ) → IsLaid F R bytes t count
    → HasBytes bytes rom → count ≡ word_at rom t → 1 ≤ count → count ≤ 511 → 0x6800 ≤ t → t + 2 + 2 * count ≤ 0x8000
    → IsTableAt R rom t
unfolding IsAccepted
table_is F R bytes t count rom laid has word some most low high =
    let long = laid.long in
    record {
      draft = F;
      table = record {
        fit = checked_expressible F R laid.draft laid.accepted laid.names;
        some = omega (arith, long);
        fits = omega (arith, long);
        count = ap (λ n. 2 * n) (sym word) ∙ sym long;
        table = laid.there rom has;
        head = (high_plain t (omega arith), high_plain (t + 1) (omega arith));
        far = λ k less. high_plain (t + 2 + k) (omega arith);
        low = omega arith;
        ends = omega (arith, long);
      };
      low = omega arith;
      ends = omega (arith, long);
      checked = (laid.draft, laid.accepted);
    }

pub fine_table_is : (R bytes : List ℕ) (t : ℕ) (rom : ℕ → ℕ) → IsFineTable R bytes t → HasBytes bytes rom → IsTableAt R rom t
fine_table_is R bytes t rom fine has =
    table_is fine.draft R bytes t fine.count rom fine.laid has (fine.head rom has) fine.some fine.most fine.low fine.ends
