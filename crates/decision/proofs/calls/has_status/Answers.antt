use Rattle.decision.proofs.calls.has_status.Goals as goal

pub returns : goal.returns
returns c = rw (c.atomic_of-cell.ensures, c.status_name.ensures)
