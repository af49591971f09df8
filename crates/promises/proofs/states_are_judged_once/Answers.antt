use Rattle.decision.proofs.Known.{unknown_step, known_step, known_numbered, known_keeps}
use Rattle.promises.proofs.states_are_judged_once.Goals as goal

pub returns : goal.returns
returns c = (unknown_step, known_step, known_numbered, known_keeps)
