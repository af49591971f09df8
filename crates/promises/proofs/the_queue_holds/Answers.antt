use Rattle.rules.proofs.Holds.{queue_holds}
use Rattle.promises.proofs.the_queue_holds.Goals as goal

pub returns : goal.returns
returns c = queue_holds
