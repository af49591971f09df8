use Rattle.outside.proofs.Leaves.{leaves}
use Rattle.outside.proofs.dentralupo_step.Goals as goal

pub returns : goal.returns
returns c =
    leaves _ _ _ _ _ _ _ _ c.call_of-call.result c.put_done.result c.call_of-call.ensures c.step-done.ensures c.put_done.ensures
