-- Any two results that the public contract allows are equal. Assumes nothing.
use Rattle.laws.proofs.Determined.{determined, OneResult}
use Rattle.refusal.proofs.refusal_by.Reads as refusal_by

pub refusal_by-determined : OneResult refusal_by.Post
refusal_by-determined κs a x y e f = determined
