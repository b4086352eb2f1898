use Rattle.dvg_frame.proofs.Marks.{has_room, push_marked, push_grows}
use Rattle.dvg_frame.proofs.checking.worklist.Worklist.add.Goals as goal

pub push-requires : goal.push-requires
push-requires c = record {
  room = has_room _ _ c.self.invariant _ c.requires _ c.index_of-i.ensures.value c.index_of-i.ensures.bound c.if-not-self-i.true;
  valid = c.requires;
}

pub invariant_of-self : goal.invariant_of-self
invariant_of-self c = push_marked _ _ c.self.invariant _ c.requires _ c.index_of-i.ensures.value c.index_of-i.ensures.bound c.if-not-self-i.true _ c.push.ensures

pub returns-then-not-self-i : goal.returns-then-not-self-i
returns-then-not-self-i c = push_grows _ _ _ _ c.self.view_is c.push.ensures
