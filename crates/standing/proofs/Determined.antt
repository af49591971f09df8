-- Any two results that a public contract allows are equal, and so is every lent record afterwards. Assumes nothing.
use Rattle.laws.proofs.Determined.{determined, OneResult}
use Rattle.standing.proofs.in_shape.Reads as in_shape
use Rattle.standing.proofs.sizes_stand.Reads as sizes_stand
use Rattle.standing.proofs.stands_by.Reads as stands_by
use Rattle.standing.proofs.state_stands.Reads as state_stands

pub in_shape-determined : OneResult in_shape.Post
in_shape-determined κs a x y e f = determined

pub sizes_stand-determined : OneResult sizes_stand.Post
sizes_stand-determined κs a x y e f = determined

pub stands_by-determined : OneResult stands_by.Post
stands_by-determined κs a x y e f = determined

pub state_stands-determined : OneResult state_stands.Post
state_stands-determined κs a x y e f = determined
