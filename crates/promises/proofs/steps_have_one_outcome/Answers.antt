use Rattle.published.proofs.OneOutcome.{one_outcome, only_outcome}
use Rattle.promises.proofs.steps_have_one_outcome.Goals as goal

pub returns : goal.returns
returns c = (one_outcome, only_outcome)
