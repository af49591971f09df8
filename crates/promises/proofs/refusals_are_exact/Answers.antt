use Rattle.published.proofs.Premises.{first_given}
use Rattle.promises.proofs.refusals_are_exact.Goals as goal

pub returns : goal.returns
returns c = first_given
