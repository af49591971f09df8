use Rattle.rules.proofs.Holds.{reached_holds}
use Rattle.promises.proofs.no_thread_is_stuck.Goals as goal

pub returns : goal.returns
returns c = reached_holds
