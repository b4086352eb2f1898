use Rattle.std.proofs.Common.{◌≡◌, ◌∙◌, ap, [], ◌∷◌, ◌++◌, ◌-◌, get_or, length, take, drop, refl, rules}
use Rattle.dvg_logs.proofs.NumberLines.{firsts, four_hex, head_of, numbers, seven_below, three_hex}
use Rattle.dvg_logs.proofs.number_line.address_and_word.Goals as goal

pub of_two-requires : goal.of_two-requires
of_two-requires c =
    let (front, high, low) = seven_below c.digit_of-a.result c.digit_of-b.result c.digit_of-c.result
    c.digit_of-d.result c.digit_of-e.result c.digit_of-f.result c.digit_of-g.result c.if-all-ge16.false in high

pub of_two-requires-2 : goal.of_two-requires-2
of_two-requires-2 c =
    let (front, high, low) = seven_below c.digit_of-a.result c.digit_of-b.result c.digit_of-c.result
    c.digit_of-d.result c.digit_of-e.result c.digit_of-f.result c.digit_of-g.result c.if-all-ge16.false in low

pub of_three-requires : goal.of_three-requires
of_three-requires c =
    let (front, high, low) = seven_below c.digit_of-a.result c.digit_of-b.result c.digit_of-c.result
    c.digit_of-d.result c.digit_of-e.result c.digit_of-f.result c.digit_of-g.result c.if-all-ge16.false in front

pub returns : goal.returns
returns c =
    let text = c.args.text.now in
    let ((a, b, d), (x, y), (z, w)) = seven_below c.digit_of-a.result c.digit_of-b.result c.digit_of-c.result
    c.digit_of-d.result c.digit_of-e.result c.digit_of-f.result c.digit_of-g.result c.if-all-ge16.false in
    let space : get_or text 3 0 ≡ 32 = search rules in
    let end : get_or text 8 0 ≡ 10 = search rules in
    let rest = take (length text - 9) (drop 9 text) in
    let front = get_or text 0 0 ∷ get_or text 1 0 ∷ get_or text 2 0 ∷ [] in
    let back = get_or text 4 0 ∷ get_or text 5 0 ∷ get_or text 6 0 ∷ get_or text 7 0 ∷ [] in
    let is : firsts 0 9 text ≡ (front ++ 32 ∷ back) ++ 10 ∷ [] = rw (space, end) refl in
    let address = three_hex _ _ _ _ _ _ c.digit_of-a.ensures c.digit_of-b.ensures c.digit_of-c.ensures a b d in
    let word = four_hex _ _ _ _ _ _ _ _ c.digit_of-d.ensures c.digit_of-e.ensures c.digit_of-f.ensures
    c.digit_of-g.ensures x y z w in
    record {
      bytes = front ++ 32 ∷ back;
      split = head_of text 9 c.in-32.len_at_least ∙ ap (λ l. l ++ rest) is;
      numbers =
          rw (c.of_three.ensures, c.from.ensures, c.from-2.ensures, c.of_two.ensures, c.of_two-2.ensures)
          (numbers address word);
    }
