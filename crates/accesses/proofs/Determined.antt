-- Any two results that a public contract allows are equal. Assumes nothing.
use Rattle.laws.proofs.Determined.{determined, OneResult}
use Rattle.accesses.proofs.is_full.Reads as is_full
use Rattle.accesses.proofs.is_outdated.Reads as is_outdated
use Rattle.accesses.proofs.is_amiss.Reads as is_amiss

pub is_full-determined : OneResult is_full.Post
is_full-determined κs a x y e f = determined

pub is_outdated-determined : OneResult is_outdated.Post
is_outdated-determined κs a x y e f = determined

pub is_amiss-determined : OneResult is_amiss.Post
is_amiss-determined κs a x y e f = determined
