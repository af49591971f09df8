-- Views. Assumes nothing.
use Rattle.std.specs.Prelude.{Bool, List, [], ◌∷◌, ℕ, zero, suc, max, leb, get_or, set, replicate}
use Rattle.laws.specs.Tests.{all_below}
use Rattle.step.specs.Limit.{most}
use Rattle.view.specs.declared.View.{View}

abbrev pub view_of : List ℕ → View
view_of l = record { at = l }

-- All start at zero.
abbrev pub zero_view : View
zero_view = view_of (replicate 32 0)

-- A view gives one stamp for each plain cell and each item slot: the cell that a record numbers c is at c - 1.
unfoldable pub stamp_of : View → ℕ → ℕ
stamp_of v i = get_or v.at i 0

-- one entry changed, all others kept
unfoldable pub with_stamp : View → ℕ → ℕ → View
with_stamp v i t = view_of (set v.at i t)

-- The join of two views is the larger stamp, cell by cell: of the first k cells. What follows is room and stays as in the first.
unfoldable pub join_to : ℕ → List ℕ → List ℕ → List ℕ
join_to zero a b = a
join_to (suc k) [] b = []
join_to (suc k) (x ∷ a) [] = x ∷ a
join_to (suc k) (x ∷ a) (y ∷ b) = max x y ∷ join_to k a b

unfoldable pub joined : ℕ → View → View → View
joined k a b = view_of (join_to k a.at b.at)

-- every stamp at most 1,000,000,000, of the first k cells
unfoldable pub view_stands : ℕ → View → Bool
view_stands k v = all_below (λ i. leb (stamp_of v i) most) k
