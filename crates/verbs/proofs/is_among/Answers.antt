use mathlib.Core.Path.{◌≡◌, refl}
use Prim.Native.Nat.{ℕ, zero, suc, ◌<◌, ◌≤◌}
use native.Mathlib.Omega.{arith}
use lib.Dec.{leb, ltb}
use Rattle.verbs.specs.Verbs.{among}
use Rattle.verbs.proofs.is_among.Goals as goal

-- a number that is not 0 is judged by the other end, and 0 is none
some : (n high : ℕ) → 0 < n → leb n high ≡ among n high
unfolding among
some zero high h = absurd (omega arith)
some (suc n) high h = refl

none : (n high : ℕ) → n ≤ 0 → ltb 0 n ≡ among n high
unfolding among
none zero high h = refl
none (suc n) high h = absurd (omega arith)

pub returns-then-n-gt0 : goal.returns-then-n-gt0
returns-then-n-gt0 c = some _ _ c.if-n-gt0.true

pub returns-else-n-gt0 : goal.returns-else-n-gt0
returns-else-n-gt0 c = none _ _ c.if-n-gt0.false
