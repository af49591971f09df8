-- Any two results that a public contract allows are equal, and so is every lent record afterwards. Assumes nothing.
use Rattle.laws.proofs.Determined.{determined, OneResult}
use Rattle.state.proofs.zero_atomic.Reads as zero_atomic
use Rattle.state.proofs.cells_of.Reads as Cells_of
use Rattle.state.proofs.held_of.Reads as held_of
use Rattle.state.proofs.row_of.Reads as row_of
use Rattle.state.proofs.with_row.Reads as with_row
use Rattle.state.proofs.place_of.Reads as place_of
use Rattle.state.proofs.with_place.Reads as with_place
use Rattle.state.proofs.atomic_of.Reads as atomic_of
use Rattle.state.proofs.with_atomic.Reads as with_atomic
use Rattle.state.proofs.first_of.Reads as first_of
use Rattle.state.proofs.index.Reads as index

pub zero_atomic-determined : OneResult zero_atomic.Post
zero_atomic-determined κs a x y e f = determined

pub cells_of-determined : OneResult Cells_of.Post
cells_of-determined κs a x y e f = determined

pub held_of-determined : OneResult held_of.Post
held_of-determined κs a x y e f = determined

pub row_of-determined : OneResult row_of.Post
row_of-determined κs a x y e f = determined

pub with_row-determined : OneResult with_row.Post
with_row-determined κs a x y e f = determined

pub place_of-determined : OneResult place_of.Post
place_of-determined κs a x y e f = determined

pub with_place-determined : OneResult with_place.Post
with_place-determined κs a x y e f = determined

pub atomic_of-determined : OneResult atomic_of.Post
atomic_of-determined κs a x y e f = determined

pub with_atomic-determined : OneResult with_atomic.Post
with_atomic-determined κs a x y e f = determined

pub first_of-determined : OneResult first_of.Post
first_of-determined κs a x y e f = determined

pub index-determined : OneResult index.Post
index-determined κs a x y e f = determined
