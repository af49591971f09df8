-- What a test of each number below another is. Assumes nothing.
use mathlib.Core.Path.{◌≡◌, refl, sym, ap, ◌∙◌}
use mathlib.Core.Bool.{Bool, true, false, ◌&&◌}
use mathlib.Core.List.{List, [], ◌∷◌}
use lib.ListN.{length, get_or}
use Prim.Native.Nat.{ℕ, zero, suc, ◌+◌}
use native.Mathlib.Omega.{arith}
use denote.Param.Members.{Mut}
use Rattle.std.specs.Fn.{Called}
use Rattle.std.specs.Iterator.{YieldsThen}
use Rattle.std.specs.List.{range_with_len, list_all, FoldsTo}
use Rattle.std.specs.Option.{MatchOption}
use Rattle.std.specs.Prelude.{Option}
use Rattle.std.proofs.iter.Yields.{nat_range_steps}
use Rattle.std.proofs.lemmas.Iterator.{YieldsList-from_range}
use Rattle.std.proofs.lemmas.Iterator.Search.{all_from_yields_List}
use Rattle.laws.specs.Tests.{◌and◌, all_below}

-- a conjunction of tests in the library's word
pick : (b : Bool) → (true and b) ≡ (b && true)
unfolding ◌and◌
pick true = refl
pick false = refl

move : (a b c : Bool) → ((a && b) and c) ≡ (a && (b and c))
unfolding ◌and◌
move true b c = refl
move false b c = refl

-- the first test and the others
front : (p : ℕ → Bool) (n : ℕ) → all_below p (suc n) ≡ (p 0 && all_below (λ i. p (suc i)) n)
unfolding all_below
front p zero = pick (p 0)
front p (suc n) = rw (front p n) (move (p 0) (all_below (λ i. p (suc i)) n) (p (suc n)))

from : (p q : ℕ → Bool) (a n : ℕ) → ((i : ℕ) → q i ≡ p (a + i)) → list_all p (range_with_len a n) ≡ all_below q n
unfolding all_below
from p q a zero h = refl
from p q a (suc n) h =
    let e : list_all p (range_with_len (a + 1) n) ≡ all_below (λ i. q (suc i)) n =
    from p (λ i. q (suc i)) (a + 1) n (λ i. h (suc i) ∙ ap p (omega arith)) in
    let o : q 0 ≡ p a = h 0 ∙ ap p (omega arith) in
    rw (e, ← o) (sym (front q n))

-- the library's clause for `all` over the numbers below n, whose closure is the test
pub below_all : {F : Type 0} {g : Mut F (ℕ × Unit {0}) Bool} (p : ℕ → Bool) (n : ℕ) (u : _) (f : F) (r : Bool)
    → (xs : List ℕ) × (o : Option ℕ) × (j : F) × YieldsThen nat_range_steps (record { start = 0; end = n }) xs o u
    × FoldsTo (λ a x b. Called g a (x, tt) true b) f xs j
    × MatchOption o (r ≡ true) (λ x. (r ≡ false) × ((h : F) × Called g j (x, tt) false h))
    → ((x : ℕ) (b : Bool) (q : F) → Called g f (x, tt) b q → (q ≡ f) × (b ≡ p x))
    → r ≡ all_below p n
below_all p n u f r ran calls =
    all_from_yields_List p u f r ran (YieldsList-from_range 0 n n refl (omega arith)) calls ∙ from p p 0 n (λ i. ap p (omega arith))

-- the same over the items of a list
pub below_list : {A : Type 0} (p : A → Bool) (l : List A) (d : A) → list_all p l ≡ all_below (λ i. p (get_or l i d)) (length l)
unfolding all_below
below_list p [] d = refl
below_list p (x ∷ l) d = rw (below_list p l d) (sym (front (λ i. p (get_or (x ∷ l) i d)) (length l)))
