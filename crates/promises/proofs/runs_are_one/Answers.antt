use Rattle.run.proofs.Prefix.{ran_through}
use Rattle.promises.proofs.runs_are_one.Goals as goal

pub returns : goal.returns
returns c = ran_through
