use Rattle.outside.specs.Asked.{step_asked}
use Rattle.outside.proofs.step_asked.Goals as goal

pub returns : goal.returns
unfolding step_asked
returns c =
    rw (
      c.verb_of-verb.ensures,
      c.item_or-c.ensures,
      c.item_or-b.ensures,
      c.item_or-a.ensures,
      c.item_or-n.ensures,
      c.item_or-thread.ensures,
    )
