use Rattle.rules.proofs.Refused.{numbered, step_numbered, refused_keeps, taken_counts}
use Rattle.promises.proofs.refused_steps_keep.Goals as goal

pub returns : goal.returns
returns c = (numbered, step_numbered, refused_keeps, taken_counts)
