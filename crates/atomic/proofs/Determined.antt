-- Any two results that a public contract allows are equal, and so is every lent record afterwards. Assumes nothing.
use Rattle.laws.proofs.Determined.{determined, OneResult}
use Rattle.atomic.proofs.read_atomic.Reads as read_atomic
use Rattle.atomic.proofs.write_atomic.Reads as write_atomic
use Rattle.atomic.proofs.swap.Reads as swap

pub read_atomic-determined : OneResult read_atomic.Post
read_atomic-determined κs a x y e f = determined

pub write_atomic-determined : OneResult write_atomic.Post
write_atomic-determined κs a x y e f = determined

pub swap-determined : OneResult swap.Post
swap-determined κs a x y e f = determined
