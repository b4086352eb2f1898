use Rattle.std.proofs.Common.{◌≡◌, ◌-◌, Some, ◌∷◌, ◌∙◌, ap, drop, get_or, length, rules, take}
use Rattle.dvg_read.proofs.FirstBytes.{IsCutAt, cut_at_first}
use Rattle.dvg_logs.proofs.CommentLines.{comment_head}
use Rattle.dvg_logs.proofs.NumberLines.{head_of, line_taken}
use Rattle.dvg_logs.proofs.log_reading.JudgedLines.take_comment.Goals as goal

pub returns-then-take_logged-clause-taken : goal.returns-then-take_logged-clause-taken
returns-then-take_logged-clause-taken g c =
    let text = c.args.text.now in
    let more = take (length text - 1) (drop 1 text) in
    let hash : get_or text 0 0 ≡ 35 = search rules in
    let cut : IsCutAt 10 text c.memchr.result = cut_at_first 10 text _ c.memchr.ensures in
    let found : c.memchr.result ≡ Some c.in_ok-end.end = search rules in
    let head = comment_head more c.in_ok-end.end (head_of text 1 c.in-35.len_at_least ∙ ap (λ byte. byte ∷ more) hash)
    (rw found at cut) c.if-end-le-MOST_LINE_BYTES.true in
    line_taken head (λ base is. tt) (c.take_logged.ensures.taken c.if-take_logged.true)
