-- Any two results that a public contract allows are equal. Assumes nothing.
use Rattle.laws.proofs.Determined.{determined, OneResult}
use Rattle.image.proofs.is_image.Reads as is_image
use Rattle.image.proofs.machine_of.Reads as machine_of
use Rattle.image.proofs.place_words.Reads as place_words

pub place_words-determined : OneResult place_words.Post
place_words-determined κs a x y e f = determined

pub is_image-determined : OneResult is_image.Post
is_image-determined κs a x y e f = determined

pub machine_of-determined : OneResult machine_of.Post
machine_of-determined κs a x y e f = determined
