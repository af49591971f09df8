use Rattle.image.proofs.Faithful.{image_long, image_faithful, image_whole}
use Rattle.image.proofs.Only.{image_only}
use Rattle.image.proofs.Taken.{image_taken}
use Rattle.promises.proofs.images_are_faithful.Goals as goal

pub returns : goal.returns
returns c = (image_long, image_faithful, image_whole, image_taken, image_only)
