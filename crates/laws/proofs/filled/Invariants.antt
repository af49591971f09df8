use mathlib.Core.Path.{◌≡◌}
use Prim.Native.Nat.{ℕ, ◌<◌}
use Rattle.laws.specs.Lists.{filled}
use Rattle.laws.proofs.filled.Given as goal

-- whatever f says of each number below n
abbrev pub invariant-loop-i : goal.invariant-loop-i
invariant-loop-i g l =
    (h : ℕ → _) → ((i : ℕ) (r : _) → i < l.n → goal.F-post g l.f i r → r ≡ h i) → l.next ≡ filled h l.i l.initial.next
