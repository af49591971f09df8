use Prim.Native.Nat.{◌-◌}
use Rattle.rules.proofs.Accessed.{accessed_shape, accessed_place}
use Rattle.rules.specs.Step.{taken_by}
use Rattle.decision.proofs.take.Goals as goal

pub act-done-requires : goal.act-done-requires
act-done-requires c = record {
  i_bound = rw (c.make_access.ensures, c.index-i.ensures, accessed_place c.args.m (c.args.step.thread - 1) c.args.a (c.args.step.thread - 1)) c.requires.thread_bound;
  slots_bound = rw (c.make_access.ensures, accessed_shape c.args.m c.index-i.result c.args.a) c.requires.sized.slots;
}

pub returns : goal.returns
unfolding taken_by
returns c = rw (c.act-done.ensures, c.unwrap_or.ensures, c.make_access.ensures, c.index-i.ensures)
