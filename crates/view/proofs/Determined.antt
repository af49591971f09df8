-- Any two results that a public contract allows are equal, and so is every lent record afterwards. Assumes nothing.
use Rattle.laws.proofs.Determined.{determined, OneResult}
use Rattle.view.proofs.zero_view.Reads as zero_view
use Rattle.view.proofs.stamp_of.Reads as stamp_of
use Rattle.view.proofs.with_stamp.Reads as with_stamp
use Rattle.view.proofs.join.Reads as join
use Rattle.view.proofs.view_stands.Reads as view_stands

pub zero_view-determined : OneResult zero_view.Post
zero_view-determined κs a x y e f = determined

pub stamp_of-determined : OneResult stamp_of.Post
stamp_of-determined κs a x y e f = determined

pub with_stamp-determined : OneResult with_stamp.Post
with_stamp-determined κs a x y e f = determined

pub join-determined : OneResult join.Post
join-determined κs a x y e f = determined

pub view_stands-determined : OneResult view_stands.Post
view_stands-determined κs a x y e f = determined
