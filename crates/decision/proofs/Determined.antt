-- Any two results that a public contract allows are equal. Assumes nothing.
use Rattle.laws.proofs.Determined.{determined, OneResult}
use Rattle.decision.proofs.verdict_of.Reads as verdict_of
use Rattle.decision.proofs.content_by.Reads as content_by

pub verdict_of-determined : OneResult verdict_of.Post
verdict_of-determined κs a x y e f = determined

pub content_by-determined : OneResult content_by.Post
content_by-determined κs a x y e f = determined
