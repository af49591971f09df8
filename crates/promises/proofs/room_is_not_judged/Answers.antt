use Rattle.published.proofs.StepsAlike.{steps_alike}
use Rattle.rules.proofs.Alike.{room_unjudged}
use Rattle.promises.proofs.room_is_not_judged.Goals as goal

pub returns : goal.returns
returns c = (room_unjudged, steps_alike)
