-- Any two results that a public contract allows are equal. Assumes nothing.
use Rattle.laws.proofs.Determined.{determined, OneResult}
use Rattle.asking.proofs.ask_of.Reads as ask_of
use Rattle.asking.proofs.ask_rank.Reads as ask_rank

pub ask_of-determined : OneResult ask_of.Post
ask_of-determined κs a x y e f = determined

pub ask_rank-determined : OneResult ask_rank.Post
ask_rank-determined κs a x y e f = determined
