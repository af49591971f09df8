use Rattle.outside.proofs.Kept.{call_ordered, call_keeps, call_takes, call_numbered}
use Rattle.promises.proofs.calls_keep_or_take.Goals as goal

pub returns : goal.returns
returns c = (call_ordered, call_numbered, call_keeps, call_takes)
