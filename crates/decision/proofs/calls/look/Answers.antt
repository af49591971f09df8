use Rattle.rules.specs.Calls.{looks}
use Rattle.decision.proofs.calls.look.Goals as goal

pub returns : goal.returns
unfolding looks
returns c = rw (c.go_on.ensures, c.has_status.ensures, c.read_atomic-next.ensures, c.status_name.ensures)
