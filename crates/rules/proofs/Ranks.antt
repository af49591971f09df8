-- Ranks of a window as long as there are slots. Assumes nothing.
use mathlib.Core.Path.{◌≡◌, sym, ap, ◌∙◌}
use Prim.Native.Nat.{ℕ, ◌+◌, ◌*◌, ◌/◌, ◌%◌, ◌<◌, ◌≤◌}
use native.Mathlib.Decide.{dec_lt}
use native.Mathlib.Nat.{mul-le-mul_right, div-add-mod', mod-lt, add-mod_right}
use native.Mathlib.Omega.{arith}
use Rattle.rank.specs.Rank.{slot_of, lapped}

window : (c a b : ℕ) → a ≤ b → b < a + c → a % c ≡ b % c → a ≡ b
window c a b h l e = go (dec_lt (a / c) (b / c)) (dec_lt (b / c) (a / c))
  where
    go : Dec (a / c < b / c) → Dec (b / c < a / c) → a ≡ b
    go (yes p) q = omega (arith, mul-le-mul_right c p, div-add-mod' a c, div-add-mod' b c)
    go (no p) (yes q) = omega (arith, mul-le-mul_right c q, div-add-mod' a c, div-add-mod' b c)
    go (no p) (no q) =
        let d : a / c ≡ b / c = omega arith in
        let f : a / c * c ≡ b / c * c = ap (λ (x : ℕ). x * c) d in
        omega (arith, div-add-mod' a c, div-add-mod' b c)

-- two ranks of a window of C with one slot are one rank
pub same_rank : (c t a b : ℕ) → t ≤ a → a < t + c → t ≤ b → b < t + c → slot_of c a ≡ slot_of c b → a ≡ b
unfolding slot_of
same_rank c t a b p q r s e = go (dec_lt a b)
  where
    go : Dec (a < b) → a ≡ b
    go (yes h) = window c a b (omega arith) (omega arith) e
    go (no h) = sym (window c b a (omega arith) (omega arith) (sym e))

pub slot_in : (c k : ℕ) → 0 < c → slot_of c k < c
unfolding slot_of
slot_in c k h = mod-lt k h

-- the next rank of a slot
pub same_slot : (c k : ℕ) → slot_of c (lapped c k) ≡ slot_of c k
unfolding slot_of lapped
same_slot c k = add-mod_right k c

pub one_slot : (c : ℕ) (st : ℕ → ℕ) (a b : ℕ) → a ≡ lapped c b → st (slot_of c a) ≡ st (slot_of c b)
one_slot c st a b e = ap st (ap (slot_of c) e ∙ same_slot c b)
