-- Any two results that a public contract allows are equal. Assumes nothing.
use Rattle.laws.proofs.Determined.{determined, OneResult}
use Rattle.places.proofs.rank_of.Reads as rank_of
use Rattle.places.proofs.place_stands.Reads as place_stands
use Rattle.places.proofs.due_at.Reads as due_at

pub rank_of-determined : OneResult rank_of.Post
rank_of-determined κs a x y e f = determined

pub place_stands-determined : OneResult place_stands.Post
place_stands-determined κs a x y e f = determined

pub due_at-determined : OneResult due_at.Post
due_at-determined κs a x y e f = determined
