-- Any two results that a public contract allows are equal. Assumes nothing.
use Rattle.laws.proofs.Determined.{determined, OneResult}
use Rattle.parts.proofs.parts_stand.Reads as parts_stand

pub parts_stand-determined : OneResult parts_stand.Post
parts_stand-determined κs a x y e f = determined
