-- Any two results that a public contract allows are equal. Assumes nothing.
use Rattle.laws.proofs.Determined.{determined, OneResult}
use Rattle.fresh.proofs.open_text.Reads as open_text

pub open_text-determined : OneResult open_text.Post
open_text-determined κs a x y e f = determined
