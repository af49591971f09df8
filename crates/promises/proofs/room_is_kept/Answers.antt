use Rattle.rules.proofs.Room.{room_kept}
use Rattle.rules.proofs.Whole.{fresh_whole, whole_kept}
use Rattle.promises.proofs.room_is_kept.Goals as goal

pub returns : goal.returns
returns c = (room_kept, fresh_whole, whole_kept)
