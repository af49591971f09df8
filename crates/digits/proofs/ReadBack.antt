-- The text of a number is read as that number. Assumes nothing.
use mathlib.Core.Path.{◌≡◌, refl, sym, ap, ◌∙◌, subst}
use mathlib.Core.Bool.{true, false}
use mathlib.Core.List.{List, [], ◌∷◌, ◌++◌}
use mathlib.Core.Logic.{⊎_elim}
use Prim.Native.Nat.{ℕ, zero, suc, ◌+◌, ◌-◌, ◌*◌, ◌/◌, ◌%◌, ◌^◌, ◌≤◌, ◌<◌}
use native.Mathlib.Nat.{zero-add, not-suc-le-zero, add-zero}
use native.Mathlib.Omega.{arith}
use borrow.Author.Tests.{le-leb}
use lib.ListN.{length, get_or, get_or-append}
use Rattle.laws.proofs.Choice.{split}
use Rattle.number.proofs.Decimal.{by_tens, text_small, text_big, length_snoc, length_weight, length_pow}
use Rattle.digits.proofs.Digits.{step_yes, stop_got, step_end, number_zero, number_rest, weight_more}
use Rattle.number.proofs.Standing.{stands_left, stands_right}
use Rattle.number.specs.Bytes.{Stands}
use Rattle.digits.specs.Reading.{got, is_digit, digits, number, weight}
use Rattle.number.specs.Text.{number_text, last_digits, weight_text}

abbrev AllDigits : List ℕ → Type 0
AllDigits [] = Unit {0}
AllDigits (b ∷ t) = (is_digit b ≡ true) × AllDigits t

abbrev value_of : ℕ → List ℕ → ℕ
value_of v [] = v
value_of v (b ∷ t) = value_of (v * 10 + (b - 48)) t

value_snoc : (t : List ℕ) (v d : ℕ) → value_of v (t ++ (d ∷ [])) ≡ value_of v t * 10 + (d - 48)
value_snoc [] v d = refl
value_snoc (b ∷ t) v d = value_snoc t (v * 10 + (b - 48)) d

all_snoc : (t : List ℕ) (d : ℕ) → AllDigits t → is_digit d ≡ true → AllDigits (t ++ (d ∷ []))
all_snoc [] d a e = (e, tt)
all_snoc (b ∷ t) d a e = (a.0, all_snoc t d a.1 e)

-- digits that stand there are taken
run : (t : List ℕ) (j may : ℕ) (s : List ℕ) (at v : ℕ) → AllDigits t → Stands s at t
    → digits (length t + j) may s at v ≡ digits j may s (at + length t) (value_of v t)
run [] j may s at v a h = rw (zero-add, add-zero)
run (b ∷ t) j may s at v a h =
    step_yes (suc (length t) + j) (length t + j) may s at v (omega arith) (ap is_digit h.0 ∙ a.0)
    ∙ (λ i. digits (length t + j) may s (at + 1) (v * 10 + (h.0 i - 48)))
    ∙ run t j may s (at + 1) (v * 10 + (b - 48)) a.1 h.1
    ∙ ap (λ (k : ℕ). digits j may s k (value_of (v * 10 + (b - 48)) t)) (omega arith)

is_digit_lem : (d : ℕ) → d ≤ 9 → is_digit (48 + d) ≡ true
unfolding is_digit
is_digit_lem d h = simp (le-leb 48 (48 + d) (omega arith), le-leb (48 + d) 57 (omega arith))

-- a number's text: digits, of that value; the first is 0 only for 0
abbrev Sound : ℕ → Type 0
Sound v = AllDigits (number_text v) × (value_of 0 (number_text v) ≡ v) × (0 < length (number_text v)) × (0 < v → 48 < get_or (number_text v) 0 0)

text_of : (v : ℕ) → Sound v
text_of =
    by_tens Sound
    (λ v l. rw (text_small v l) ((is_digit_lem v (omega arith), tt), omega arith, omega arith, λ p. omega arith))
    (λ v l r.
    let t = number_text (v / 10) in
    rw (text_big v l) (
      all_snoc t (48 + v % 10) r.0 (is_digit_lem (v % 10) (omega arith)),
      value_snoc t 0 (48 + v % 10) ∙ omega (arith, r.1),
      omega (arith, length_snoc t (48 + v % 10)),
      λ p. rw (get_or-append t ((48 + v % 10) ∷ []) 0 0 r.2) (r.3 (omega arith)),
    ))

-- a number's text is read as that number, where it is not too long and no digit follows
pub number_reads : (most : ℕ) (s : List ℕ) (at v : ℕ) → length (number_text v) ≤ most → Stands s at (number_text v)
    → is_digit (get_or s (at + length (number_text v)) 0) ≡ false → number most s at ≡ got v (at + length (number_text v))
number_reads most s at v h st nd =
    let t = number_text v in
    let g = text_of v in
    ⊎_elim
    (λ (z : v < 1).
    let e : v ≡ 0 = omega arith in
    rw (e, text_small 0 (omega arith)) (number_zero most s at (subst (λ (k : ℕ). Stands s at (number_text k) → get_or s at 0 ≡ 48) (sym e) (rw (text_small 0 (omega arith)) (λ p. p.0)) st)))
    (λ (z : 1 ≤ v).
    number_rest most s at (λ e. omega (arith, g.3 z, e, first s at t g.2 st))
    ∙ ap (λ (k : ℕ). digits k (most - 1) s at 0) (let e : most ≡ length t + (most - length t) = omega arith in e)
    ∙ run t (most - length t) (most - 1) s at 0 g.0 st
    ∙ ends (most - length t) (most - 1) s (at + length t) (value_of 0 t) (omega (arith, g.2)) nd
    ∙ ap (λ (k : ℕ). got k (at + length t)) g.1)
    (split v 1)
  where
    first : (s : List ℕ) (at : ℕ) (t : List ℕ) → 0 < length t → Stands s at t → get_or s at 0 ≡ get_or t 0 0
    first s at [] h st = absurd (not-suc-le-zero h)
    first s at (b ∷ t) h st = st.0

    ends : (j may : ℕ) (s : List ℕ) (p v : ℕ) → j ≤ may → is_digit (get_or s p 0) ≡ false → digits j may s p v ≡ got v p
    ends zero may s p v h nd = step_end zero may s p v refl
    ends (suc j) may s p v h nd = stop_got (suc j) may s p v (omega arith) nd h

all_last : (n v : ℕ) → AllDigits (last_digits n v)
unfolding last_digits
all_last zero v = tt
all_last (suc n) v = all_snoc (last_digits n (v / 10)) (48 + v % 10) (all_last n (v / 10)) (is_digit_lem (v % 10) (omega arith))

point_none : is_digit 46 ≡ false
unfolding is_digit
point_none = refl

-- a weight's text is read as that weight
pub weight_reads : (s : List ℕ) (at v : ℕ) → v < 10 ^ 10 → Stands s at (weight_text v) → weight s at ≡ got v (at + length (weight_text v))
unfolding weight_text last_digits
weight_reads s at v h st =
    let n = number_text (v / 1000) in
    let p = at + length n in
    let whole = stands_left s at n (46 ∷ last_digits 3 v) st in
    let frac = stands_right s at n (46 ∷ last_digits 3 v) st in
    let nd : is_digit (get_or s p 0) ≡ false = ap is_digit frac.0 ∙ point_none in
    weight_more s at (v / 1000) p (number_reads 7 s at (v / 1000) (length_pow 6 (v / 1000) (omega arith)) whole nd) frac.0
    ∙ run (last_digits 3 v) 0 0 s (p + 1) (v / 1000) (all_last 3 v) frac.1
    ∙ step_end 0 0 s _ _ refl
    ∙ (λ i. got ((let e : value_of (v / 1000) (last_digits 3 v) ≡ v = omega arith in e) i)
    ((let e : p + 1 + 3 ≡ at + length (weight_text v) = omega (arith, length_weight v) in e) i))
