use Rattle.rules.proofs.Fresh.{fresh_stands, refused_falls}
use Rattle.rules.proofs.Kept.{standing_kept}
use Rattle.promises.proofs.standing_is_kept.Goals as goal

pub returns : goal.returns
returns c = (standing_kept, fresh_stands, refused_falls)
