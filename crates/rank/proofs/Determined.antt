-- Any two results that a public contract allows are equal, and so is every lent record afterwards. Assumes nothing.
use Rattle.laws.proofs.Determined.{determined, OneResult}
use Rattle.rank.proofs.slot_of.Reads as slot_of
use Rattle.rank.proofs.next_rank.Reads as next_rank
use Rattle.rank.proofs.free_status.Reads as free_status
use Rattle.rank.proofs.full_status.Reads as full_status
use Rattle.rank.proofs.freed_status.Reads as freed_status

pub slot_of-determined : OneResult slot_of.Post
slot_of-determined κs a x y e f = determined

pub next_rank-determined : OneResult next_rank.Post
next_rank-determined κs a x y e f = determined

pub free_status-determined : OneResult free_status.Post
free_status-determined κs a x y e f = determined

pub full_status-determined : OneResult full_status.Post
full_status-determined κs a x y e f = determined

pub freed_status-determined : OneResult freed_status.Post
freed_status-determined κs a x y e f = determined
