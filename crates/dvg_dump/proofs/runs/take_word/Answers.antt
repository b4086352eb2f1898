use Rattle.std.proofs.Common.{◌≡◌, ◌%◌, ◌/◌, None, arith, get_or, rules}
use Rattle.dvg_gen.specs.Machine.{answer_by}
use Rattle.dvg_dump.proofs.Silent.{both_draw_nothing}
use Rattle.dvg_dump.proofs.OneWordMore.{is_low, takes_both, takes_hole}
use Rattle.dvg_dump.proofs.runs.take_word.Goals as goal

pub returns-in_default-clause-takes : goal.returns-in_default-clause-takes
returns-in_default-clause-takes g c = takes_hole (λ step. answer_by step c.feed.new.self.picture) c.feed.result _ _ _ c.in_default.is c.feed.ensures.answers

pub unreachable-requires : goal.unreachable-requires
unreachable-requires g c =
    c.in_default-2.not-Low
    (is_low c.in_ok-feed.field-0 c.feed-2.new.self.picture
    (c.in_ok-feed.ensures.answers c.requires.stands.0 None c.requires.stands.1).1)

pub returns-clause-takes : goal.returns-clause-takes
returns-clause-takes g c =
    let word = c.in-Some.word in
    let low : get_or c.to_le_bytes.result 0 0 ≡ word % 256 = search rules in
    let high : get_or c.to_le_bytes.result 1 0 ≡ word / 256 = search rules in
    takes_both (λ step. answer_by step c.feed-3.new.self.picture) c.feed-3.result (answer_by c.in_ok-feed.field-0 c.feed-2.new.self.picture) _ c.feed-2.new.self _ _
    c.in-Some.word _ _ c.in-Some.is (omega arith) c.in_ok-feed.ensures.answers c.feed-3.ensures.answers

pub returns-clause-room : goal.returns-clause-room
returns-clause-room g c = λ nothing.
    let word = c.in-Some.word in
    let low : get_or c.to_le_bytes.result 0 0 ≡ word % 256 = search rules in
    let high : get_or c.to_le_bytes.result 1 0 ≡ word / 256 = search rules in
    let half = (c.in_ok-feed.ensures.answers c.requires.stands.0 None c.requires.stands.1).0 in
    c.feed-3.ensures.room (both_draw_nothing c.args.word word _ _ c.in-Some.is (omega arith) c.requires.open c.requires.stands.1 half nothing)
