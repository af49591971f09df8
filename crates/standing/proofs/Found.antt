-- What a search of the held records has to do with standing. Assumes nothing.
use mathlib.Core.Path.{◌≡◌, refl, ap}
use mathlib.Core.Bool.{Bool, true, false}
use mathlib.Core.List.{List}
use Prim.Native.Nat.{ℕ}
use lib.ListN.{length, take}
use Rattle.laws.specs.Tests.{◌and◌}
use Rattle.parts.specs.Parts.{parts_stand}
use Rattle.standing.proofs.Bounds.{sizes}
use Rattle.standing.specs.Stands.{sizes_stand, stands}
use Rattle.state.specs.State.{cells_of}
use Rattle.state.specs.declared.Machine.{Machine}
use Rattle.writes.proofs.Searched.{searched_is}
use Rattle.writes.specs.History.{search_of}
use Rattle.writes.specs.Searched.{sought_of, searched}
use Rattle.writes.specs.declared.Looked.{Looked}
use Rattle.writes.specs.declared.Write.{Write}

-- whatever is asked, the search says whether the records stand
module _ (m : Machine) (ws : List Write) (first c t : ℕ) where
  abbrev seen : Bool
  seen = (searched (sought_of (cells_of m) first c t) (take m.held ws)).looked.stand

  by_sizes : (z : Bool) → sizes_stand m (length ws) ≡ z → sizes_stand m (length ws) and (parts_stand m and seen) ≡ stands m ws
  unfolding stands ◌and◌ search_of
  by_sizes true e =
      ap (λ (l : Looked). sizes_stand m (length ws) and (parts_stand m and l.stand))
      (searched_is (cells_of m) first ws c t m.held (sizes m (length ws) e).room)
  by_sizes false e = rw e

  pub stands_found : sizes_stand m (length ws) and (parts_stand m and seen) ≡ stands m ws
  stands_found = by_sizes (sizes_stand m (length ws)) refl
