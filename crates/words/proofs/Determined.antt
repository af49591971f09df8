-- Any two results that a public contract allows are equal, and so is every lent word afterwards. Assumes nothing.
use mathlib.Core.Path.{◌≡◌}
use Rattle.laws.proofs.Determined.{determined, OneResult}
use Rattle.words.proofs.words_of.Reads as words_of
use Rattle.words.proofs.put_words.Reads as put_words

pub words_of-determined : OneResult words_of.Post
words_of-determined κs a x y e f = determined

pub put_words-determined : (κs : _) (a : _) (x y : _) (e f : _) → put_words.Post κs a x e → put_words.Post κs a y f → e.0.now ≡ f.0.now
put_words-determined κs a x y e f = determined
