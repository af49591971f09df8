use Rattle.published.proofs.Due.{due_by_code}
use Rattle.published.proofs.Follows.{taken_follows, allowed_taken}
use Rattle.published.proofs.OneEvent.{one_event}
use Rattle.promises.proofs.steps_follow_the_rules.Goals as goal

pub returns : goal.returns
returns c = (taken_follows, allowed_taken, one_event, due_by_code)
