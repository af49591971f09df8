use Rattle.rules.specs.Calls.{closes}
use Rattle.decision.proofs.calls.close.Goals as goal

pub returns : goal.returns
unfolding closes
returns c = rw (c.end.ensures, c.write_atomic-next.ensures, c.status_name.ensures)
