use Rattle.std.proofs.Common.{rules}
use Rattle.dvg_io.proofs.Inputs.{too_long}
use Rattle.dvg_tool.proofs.PrefixDecides.{odd, lists}
use Rattle.dvg_tool.specs.declared.lists.TheConstants.{MOST_LIST_BYTES}
use Rattle.dvg_tool.proofs.lists.list_at.Goals as goal

pub returns-then-len-gt-MOST_LIST_BYTES : goal.returns-then-len-gt-MOST_LIST_BYTES
returns-then-len-gt-MOST_LIST_BYTES g c = record {
  means = too_long MOST_LIST_BYTES _ c.in_ok-bytes.bytes.items c.in_ok-bytes.ensures.bytes (search rules);
  took = search rules;
  unwritten = search rules;
  reader = search rules;
  writer = search rules;
  stops = search rules;
}

pub returns-then-len-eq1 : goal.returns-then-len-eq1
returns-then-len-eq1 g c = record {
  means = odd _ c.in_ok-bytes.bytes.items c.in_ok-bytes.ensures.bytes (search rules) (search rules);
  took = search rules;
  unwritten = search rules;
  reader = search rules;
  writer = search rules;
  stops = search rules;
}

pub returns : goal.returns
returns g c = record {
  means = lists c.args.at _ _ _ _ c.in_ok-bytes.bytes.items c.in_ok-bytes.ensures.bytes (search rules) (search rules) (search rules);
  took = search rules;
  unwritten = search rules;
  reader = search rules;
  writer = search rules;
  stops = search rules;
}
