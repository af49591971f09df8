-- Any two results that the public contract allows are equal. Assumes nothing.
use Rattle.laws.proofs.Determined.{determined, OneResult}
use Rattle.step.proofs.Answer.refused.Reads as refused
use Rattle.step.proofs.Reason.number.Reads as number

pub number-determined : OneResult number.Post
number-determined κs a x y e f = determined

pub refused-determined : OneResult refused.Post
refused-determined κs a x y e f = determined
