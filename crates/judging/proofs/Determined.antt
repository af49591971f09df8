-- Any two results that a public contract allows are equal, and so is every lent byte afterwards. Assumes nothing.
use Rattle.laws.proofs.Determined.{determined, OneResult}
use Rattle.judging.proofs.judge.Reads as judge

pub judge-determined : OneResult judge.Post
judge-determined κs a x y e f = determined
