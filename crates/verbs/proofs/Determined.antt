-- Any two results that a public contract allows are equal. Assumes nothing.
use Rattle.laws.proofs.Determined.{determined, OneResult}
use Rattle.verbs.proofs.is_among.Reads as is_among
use Rattle.verbs.proofs.kind_of.Reads as kind_of
use Rattle.verbs.proofs.is_named.Reads as is_named
use Rattle.verbs.proofs.greatest_of.Reads as greatest_of

pub is_among-determined : OneResult is_among.Post
is_among-determined κs a x y e f = determined

pub kind_of-determined : OneResult kind_of.Post
kind_of-determined κs a x y e f = determined

pub is_named-determined : OneResult is_named.Post
is_named-determined κs a x y e f = determined

pub greatest_of-determined : OneResult greatest_of.Post
greatest_of-determined κs a x y e f = determined
