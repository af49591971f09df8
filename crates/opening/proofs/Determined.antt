-- Any two results that a public contract allows are equal, and so is every lent record afterwards. Assumes nothing.
use Rattle.laws.proofs.Determined.{determined, OneResult}
use Rattle.opening.proofs.opening.Reads as opening

pub opening-determined : OneResult opening.Post
opening-determined κs a x y e f = determined
