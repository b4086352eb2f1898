use Rattle.std.proofs.Common.{◌≡◌, ◌∙◌, ap, [], ◌∷◌, ◌++◌, ◌-◌, get_or, length, take, drop, refl, rules}
use Rattle.dvg_logs.proofs.NumberLines.{firsts, five_below, head_of, numbers, three_hex, two_hex}
use Rattle.dvg_logs.proofs.number_line.address_and_byte.Goals as goal

pub of_three-requires : goal.of_three-requires
of_three-requires c =
    let (front, back) = five_below c.digit_of-a.result c.digit_of-b.result c.digit_of-c.result c.digit_of-d.result
    c.digit_of-e.result c.if-all-ge16.false in front

pub of_two-requires : goal.of_two-requires
of_two-requires c =
    let (front, back) = five_below c.digit_of-a.result c.digit_of-b.result c.digit_of-c.result c.digit_of-d.result
    c.digit_of-e.result c.if-all-ge16.false in back

pub returns : goal.returns
returns c =
    let text = c.args.text.now in
    let ((a, b, d), (x, y)) = five_below c.digit_of-a.result c.digit_of-b.result c.digit_of-c.result c.digit_of-d.result
    c.digit_of-e.result c.if-all-ge16.false in
    let space : get_or text 3 0 ≡ 32 = search rules in
    let end : get_or text 6 0 ≡ 10 = search rules in
    let rest = take (length text - 7) (drop 7 text) in
    let front = get_or text 0 0 ∷ get_or text 1 0 ∷ get_or text 2 0 ∷ [] in
    let back = get_or text 4 0 ∷ get_or text 5 0 ∷ [] in
    let is : firsts 0 7 text ≡ (front ++ 32 ∷ back) ++ 10 ∷ [] = rw (space, end) refl in
    let address = three_hex _ _ _ _ _ _ c.digit_of-a.ensures c.digit_of-b.ensures c.digit_of-c.ensures a b d in
    let byte = two_hex _ _ _ _ c.digit_of-d.ensures c.digit_of-e.ensures x y in
    record {
      bytes = front ++ 32 ∷ back;
      split = head_of text 7 c.in-32.len_at_least ∙ ap (λ l. l ++ rest) is;
      numbers = rw (c.of_three.ensures, c.of_two.ensures) (numbers address byte);
    }
