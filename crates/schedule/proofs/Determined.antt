-- Any two results that a public contract allows are equal. Assumes nothing.
use Rattle.laws.proofs.Determined.{determined, OneResult}
use Rattle.schedule.proofs.read_sections.Reads as read_sections

pub read_sections-determined : OneResult read_sections.Post
read_sections-determined κs a x y e f = determined
