use Rattle.dvg_blame.proofs.SaidTokens.{put_first}
use Rattle.dvg_blame.proofs.said.put_joined.Goals as goal

pub loop-token-init : goal.loop-token-init
loop-token-init g c = put_first c.args.tokens.now _ c.args.text.now.items c.extend_from_slice.new.self.items c.in-len1-up.len_at_least c.in_ok-extend_from_slice.ensures.items
