use Rattle.image.specs.Image.{place_of}
use Rattle.image.proofs.place_of.Goals as goal

pub returns : goal.returns
unfolding place_of
returns c = c.item_or.ensures
