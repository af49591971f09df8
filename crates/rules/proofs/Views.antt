-- Views that stand: joined, and with one stamp changed. Assumes nothing.
use mathlib.Core.Path.{◌≡◌}
use mathlib.Core.Bool.{true}
use mathlib.Core.List.{List, [], ◌∷◌}
use Prim.Native.Nat.{ℕ, zero, suc, ◌<◌, ◌≤◌}
use native.Mathlib.Omega.{arith}
use borrow.Author.Tests.{leb-true, le-leb}
use lib.ListN.{get_or}
use Rattle.laws.proofs.Lists.{set_either}
use Rattle.laws.proofs.Tests.{each, every}
use Rattle.step.specs.Limit.{most}
use Rattle.view.specs.View.{stamp_of, with_stamp, join_to, joined, view_stands}
use Rattle.view.specs.declared.View.{View}

-- a stamp of a view that stands
pub stamp : (k : ℕ) (v : View) → view_stands k v ≡ true → (i : ℕ) → i < k → stamp_of v i ≤ most
unfolding view_stands
stamp k v e i l = leb-true _ _ (each _ k e i l)

-- a view stands by its stamps
pub stamps : (k : ℕ) (v : View) → ((i : ℕ) → i < k → stamp_of v i ≤ most) → view_stands k v ≡ true
unfolding view_stands
stamps k v f = every _ k (λ i l. le-leb _ _ (f i l))

-- an entry of a join is at most what both lists have there at most
join_entry : (k : ℕ) (a b : List ℕ) (i n : ℕ) → get_or a i 0 ≤ n → get_or b i 0 ≤ n → get_or (join_to k a b) i 0 ≤ n
unfolding join_to
join_entry zero a b i n p q = p
join_entry (suc k) [] b i n p q = p
join_entry (suc k) (x ∷ a) [] i n p q = p
join_entry (suc k) (x ∷ a) (y ∷ b) zero n p q = omega arith
join_entry (suc k) (x ∷ a) (y ∷ b) (suc i) n p q = join_entry k a b i n p q

-- the join of two views that stand
pub joined_stands : (k : ℕ) (a b : View) → view_stands k a ≡ true → view_stands k b ≡ true → view_stands k (joined k a b) ≡ true
unfolding joined stamp_of
joined_stands k a b p q = stamps k (joined k a b) (λ i l. join_entry k a.at b.at i most (stamp k a p i l) (stamp k b q i l))

-- a view that stands, with a stamp in range at one place
pub stamped_stands : (k : ℕ) (v : View) (i t : ℕ) → view_stands k v ≡ true → t ≤ most → view_stands k (with_stamp v i t) ≡ true
unfolding with_stamp stamp_of
stamped_stands k v i t p q = stamps k (with_stamp v i t) (λ j l. set_either (λ x. x ≤ most) v.at i j t 0 q (stamp k v p j l))
