-- Laws of the join of two views. Assumes nothing.
use mathlib.Core.Path.{◌≡◌, refl, ap}
use mathlib.Core.List.{List, [], ◌∷◌}
use Prim.Native.Nat.{ℕ, zero, suc, ◌≤◌, ◌<◌, max, min}
use native.Mathlib.Decide.{dec_lt}
use native.Mathlib.Omega.{arith}
use lib.ListN.{length, get_or, set}
use Rattle.view.specs.View.{stamp_of, join_to, joined}
use Rattle.view.specs.declared.View.{View}

-- a join is as long as its first list
pub join_length : (k : ℕ) (a b : List ℕ) → length (join_to k a b) ≡ length a
unfolding join_to
join_length zero a b = refl
join_length (suc k) [] b = refl
join_length (suc k) (x ∷ a) [] = refl
join_length (suc k) (x ∷ a) (y ∷ b) = ap suc (join_length k a b)

-- a turn of the loop: the entry at k is replaced by the larger one
pub join_step : (k : ℕ) (a b : List ℕ) → k < length a → k < length b
    → set (join_to k a b) k (max (get_or (join_to k a b) k 0) (get_or b k 0)) ≡ join_to (suc k) a b
unfolding join_to
join_step zero (x ∷ a) (y ∷ b) h l = refl
join_step (suc k) (x ∷ a) (y ∷ b) h l = ap (λ (t : List ℕ). max x y ∷ t) (join_step k a b (omega arith) (omega arith))
join_step zero [] b h l = absurd (omega arith)
join_step (suc k) [] b h l = absurd (omega arith)
join_step zero (x ∷ a) [] h l = absurd (omega arith)
join_step (suc k) (x ∷ a) [] h l = absurd (omega arith)

-- past the end of the first list nothing more is joined
pub join_past : (j k : ℕ) (a b : List ℕ) → length a ≤ j → length a ≤ k → join_to j a b ≡ join_to k a b
unfolding join_to
join_past zero zero a b h l = refl
join_past zero (suc k) [] b h l = refl
join_past zero (suc k) (x ∷ a) b h l = absurd (omega arith)
join_past (suc j) zero [] b h l = refl
join_past (suc j) zero (x ∷ a) b h l = absurd (omega arith)
join_past (suc j) (suc k) [] b h l = refl
join_past (suc j) (suc k) (x ∷ a) [] h l = refl
join_past (suc j) (suc k) (x ∷ a) (y ∷ b) h l = ap (λ (t : List ℕ). max x y ∷ t) (join_past j k a b (omega arith) (omega arith))

pub join_min : (k n i : ℕ) (a b : List ℕ) → length a ≡ n → i ≡ min k n → join_to i a b ≡ join_to k a b
join_min k n i a b h e = go (dec_lt k n)
  where
    go : Dec (k < n) → join_to i a b ≡ join_to k a b
    go (yes q) = ap (λ (j : ℕ). join_to j a b) (omega arith)
    go (no q) = join_past i k a b (omega arith) (omega arith)

here : (k : ℕ) (a b : List ℕ) (i : ℕ) → i < k → i < length a → get_or (join_to k a b) i 0 ≡ max (get_or a i 0) (get_or b i 0)
unfolding join_to
here zero a b i h l = absurd (omega arith)
here (suc k) [] b i h l = absurd (omega arith)
here (suc k) (x ∷ a) [] i h l = omega arith
here (suc k) (x ∷ a) (y ∷ b) zero h l = refl
here (suc k) (x ∷ a) (y ∷ b) (suc i) h l = here k a b i (omega arith) (omega arith)

else : (k : ℕ) (a b : List ℕ) (i : ℕ) → k ≤ i → get_or (join_to k a b) i 0 ≡ get_or a i 0
unfolding join_to
else zero a b i h = refl
else (suc k) [] b i h = refl
else (suc k) (x ∷ a) [] i h = refl
else (suc k) (x ∷ a) (y ∷ b) zero h = absurd (omega arith)
else (suc k) (x ∷ a) (y ∷ b) (suc i) h = else k a b i (omega arith)

-- one of the first k stamps of a join is the larger of the two
pub join_here : (k : ℕ) (a b : View) (i : ℕ) → i < k → i < length a.at → stamp_of (joined k a b) i ≡ max (stamp_of a i) (stamp_of b i)
unfolding stamp_of joined
join_here k a b i h l = here k a.at b.at i h l

-- every other stamp of a join is the first view's
pub join_else : (k : ℕ) (a b : View) (i : ℕ) → k ≤ i → stamp_of (joined k a b) i ≡ stamp_of a i
unfolding stamp_of joined
join_else k a b i h = else k a.at b.at i h
