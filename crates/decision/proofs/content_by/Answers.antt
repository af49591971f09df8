use Rattle.decision.specs.Decision.{content_by}
use Rattle.decision.proofs.content_by.Goals as goal

pub returns : goal.returns
unfolding content_by
returns c =
    rw (c.content_if.ensures, c.has_status.ensures, c.full_status.ensures, c.stands_by.ensures)
