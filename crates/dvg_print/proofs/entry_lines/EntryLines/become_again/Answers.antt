use Rattle.std.proofs.Common.{◌≡◌, ◌+◌, ◌-◌, ◌^◌, ◌<◌, ◌∷◌, [], ◌++◌, ◌∙◌, ap, sym, append_assoc, decimal, length, take, arith, rules}
use Rattle.std.proofs.lemmas.List.{length-take-le}
use Rattle.dvg_log.specs.Entries.{map_entry}
use Rattle.dvg_print.specs.Lines.{spaced}
use Rattle.dvg_print.specs.Numbering.{Numbered}
use Rattle.dvg_print.specs.Shows.{entry_line, entry_parts}
use Rattle.dvg_print.proofs.Counting.{digit_put}
use Rattle.dvg_print.proofs.entry_lines.EntryLines.become_again.Goals as goal

pub put-requires : goal.put-requires
put-requires g c =
    let old = c.self.inside in
    let front = take old.count old.tens in
    let entry = map_entry (λ _. c.args.drew) c.args.entry.now in
    let small : old.next + 1 < 2 ^ 64 = search rules in
    let here : length front ≡ old.count = length-take-le old.count old.tens (search rules) in
    let begins = ap (λ (m : Numbered). m.text) c.self.view_is ∙ c.requires.equal
    ∙ ap (λ (m : Numbered). entry_line (m.next - 1) entry) (sym c.self.view_is)
    ∙ append_assoc (decimal (old.next - 1)) (spaced (entry_parts entry)) (10 ∷ []) in
    let both = digit_put old.next old.ones old.count front (spaced (entry_parts entry) ++ 10 ∷ []) old.line
    (omega (arith, small)) c.self.invariant.1 c.if-self-gt48.true here begins in
    both.0

pub returns-then-self-gt48-clause-text : goal.returns-then-self-gt48-clause-text
returns-then-self-gt48-clause-text g c =
    let old = c.self.inside in
    let front = take old.count old.tens in
    let entry = map_entry (λ _. c.args.drew) c.args.entry.now in
    let small : old.next + 1 < 2 ^ 64 = search rules in
    let here : length front ≡ old.count = length-take-le old.count old.tens (search rules) in
    let begins = ap (λ (m : Numbered). m.text) c.self.view_is ∙ c.requires.equal
    ∙ ap (λ (m : Numbered). entry_line (m.next - 1) entry) (sym c.self.view_is)
    ∙ append_assoc (decimal (old.next - 1)) (spaced (entry_parts entry)) (10 ∷ []) in
    let both = digit_put old.next old.ones old.count front (spaced (entry_parts entry) ++ 10 ∷ []) old.line
    (omega (arith, small)) c.self.invariant.1 c.if-self-gt48.true here begins in
    c.count_on.ensures.text ∙ c.put.ensures ∙ both.1
    ∙ sym (append_assoc (decimal old.next) (spaced (entry_parts entry)) (10 ∷ []))
    ∙ ap (λ (m : Numbered). entry_line m.next entry) c.self.view_is
