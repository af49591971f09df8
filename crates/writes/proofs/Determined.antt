-- Any two results that a public contract allows are equal, and so is every lent record afterwards. Assumes nothing.
use mathlib.Core.Path.{◌≡◌}
use Rattle.laws.proofs.Determined.{determined, OneResult}
use Rattle.writes.proofs.unjudged.Reads as unjudged
use Rattle.writes.proofs.sought.Reads as sought
use Rattle.writes.proofs.search.Reads as search
use Rattle.writes.proofs.search_kept.Reads as search_kept
use Rattle.writes.proofs.fill_of.Reads as fill_of
use Rattle.writes.proofs.store.Reads as store

pub unjudged-determined : OneResult unjudged.Post
unjudged-determined κs a x y e f = determined

pub sought-determined : OneResult sought.Post
sought-determined κs a x y e f = determined

pub search_kept-determined : OneResult search_kept.Post
search_kept-determined κs a x y e f = determined

pub fill_of-determined : OneResult fill_of.Post
fill_of-determined κs a x y e f = determined

pub search-determined : OneResult search.Post
search-determined κs a x y e f = determined

-- every lent record
pub store-determined : (κs : _) (a : _) (x y : _) (e f : _) → store.Post κs a x e → store.Post κs a y f → e.0.now ≡ f.0.now
store-determined κs a x y e f = determined
