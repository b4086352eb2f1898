-- Lines of operations at the head of a text.
use Rattle.std.proofs.Common.{◌≡◌, ◌+◌, ℕ, List, [], ◌∷◌, ◌++◌, refl, sym, ap, ◌∙◌, arith, append_assoc}
use Rattle.std.proofs.Common.{append-nil, length-append}
use Rattle.dvg_frame.specs.declared.op.OpKind.{OpKind}
use Rattle.dvg_read.specs.OpLines.{IsOpLine}
use Rattle.dvg_read.specs.TextLines.{AddsOps, HasOp}
use Rattle.dvg_read.specs.Texts.{lines}
use Rattle.dvg_read.proofs.Zips.{zip_push}

pub adds_nothing : (left : List (List ℕ)) (F : List OpKind) → AddsOps left F 0 left F
adds_nothing left F = record {
  more = [];
  ahead = [];
  spelled = tt;
  cut = refl;
  added = sym (append-nil F);
  counted = refl;
}

-- one more
pub adds_one : (left : List (List ℕ)) (text rest : List ℕ) (old mid new : List OpKind) (op : OpKind) (n : ℕ)
    → AddsOps left old n (lines text) mid → HasOp text op rest → new ≡ mid ++ op ∷ []
    → AddsOps left old (n + 1) (lines rest) new
adds_one left text rest old mid new op n a h is = record {
  more = a.more ++ op ∷ [];
  ahead = a.ahead ++ h.line ∷ [];
  spelled = zip_push IsOpLine a.more a.ahead op h.line a.spelled h.spelled;
  cut = a.cut ∙ ap (λ ls. a.ahead ++ ls) h.cut ∙ sym (append_assoc a.ahead (h.line ∷ []) (lines rest));
  added = is ∙ ap (λ F. F ++ op ∷ []) a.added ∙ append_assoc old a.more (op ∷ []);
  counted = omega (arith, length-append a.more (op ∷ []), a.counted);
}
