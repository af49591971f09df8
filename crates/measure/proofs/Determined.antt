-- Any two results that a public contract allows are equal, and so is every lent byte afterwards. Assumes nothing.
use Rattle.laws.proofs.Determined.{determined, OneResult}
use Rattle.measure.proofs.word_width.Reads as word_width
use Rattle.measure.proofs.fields_in_range.Reads as fields_in_range
use Rattle.measure.proofs.fields_width.Reads as fields_width

pub word_width-determined : OneResult word_width.Post
word_width-determined κs a x y e f = determined

pub fields_in_range-determined : OneResult fields_in_range.Post
fields_in_range-determined κs a x y e f = determined

pub fields_width-determined : OneResult fields_width.Post
fields_width-determined κs a x y e f = determined
