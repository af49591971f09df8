-- Whatever the readers of numbers take is the text of what they give. Assumes nothing.
use mathlib.Core.Path.{◌≡◌, sym, ◌∙◌}
use mathlib.Core.Bool.{true, false}
use mathlib.Core.List.{List, [], ◌∷◌, ◌++◌}
use mathlib.Core.Logic.{⊎_elim}
use Prim.Native.Nat.{ℕ, zero, suc, ◌+◌, ◌-◌, ◌*◌, ◌/◌, ◌%◌, ◌≤◌, ◌<◌}
use native.Mathlib.Nat.{not-suc-le-zero}
use native.Mathlib.Omega.{arith}
use borrow.Author.Tests.{eqb-true, eqb-false, lt-leb}
use lib.Dec.{leb, eqb}
use lib.ListN.{get_or}
use Rattle.laws.proofs.Choice.{either}
use Rattle.number.proofs.Decimal.{text_small, text_big}
use Rattle.digits.proofs.Digits.{digit_low, digit_high, number_zero, number_rest, weight_parts}
use Rattle.number.proofs.Standing.{here_then, here_byte}
use Rattle.number.specs.Bytes.{Here}
use Rattle.digits.specs.Reading.{got, is_digit, digits, number, weight}
use Rattle.number.specs.Text.{number_text, last_digits, weight_text}
use Rattle.digits.specs.declared.Read.{Read}
use Rattle.std.specs.Prelude.{Ok}

-- one digit that was taken
one : (k may : ℕ) (s : List ℕ) (p v : ℕ) (r : Read ℕ) → may < suc k → digits (suc k) may s p v ≡ Ok r
    → (is_digit (get_or s p 0) ≡ true) × (digits k may s (p + 1) (v * 10 + (get_or s p 0 - 48)) ≡ Ok r)
unfolding digits
one k may s p v r l e =
    ⊎_elim
    (λ (d : is_digit (get_or s p 0) ≡ true). (d, simp d at e))
    (λ (d : is_digit (get_or s p 0) ≡ false). cc (simp (d, lt-leb _ _ l) at e))
    (either (is_digit (get_or s p 0)))

text_more : (v d : ℕ) → 0 < v → d ≤ 9 → number_text (v * 10 + d) ≡ number_text v ++ ((48 + d) ∷ [])
text_more v d h l =
    text_big (v * 10 + d) (omega arith)
    ∙ (λ i. number_text ((let e : (v * 10 + d) / 10 ≡ v = omega arith in e) i) ++ ((48 + (let e : (v * 10 + d) % 10 ≡ d = omega arith in e) i) ∷ []))

grow_one : (s : List ℕ) (at p v : ℕ) → 0 < v → is_digit (get_or s p 0) ≡ true → Here s at (number_text v) p
    → Here s at (number_text (v * 10 + (get_or s p 0 - 48))) (p + 1)
grow_one s at p v h d r =
    rw (text_more v (get_or s p 0 - 48) h (omega (arith, digit_high _ d)))
    (here_then r (here_byte (omega (arith, digit_low _ d))))

grow : (k may : ℕ) (s : List ℕ) (at p v : ℕ) (r : Read ℕ) → 0 < v → Here s at (number_text v) p → digits k may s p v ≡ Ok r
    → Here s at (number_text r.value) r.next
unfolding digits
grow zero may s at p v r h t e = let a : v ≡ r.value = cc in let b : p ≡ r.next = cc in rw (← a, ← b) t
grow (suc k) may s at p v r h t e =
    ⊎_elim
    (λ (d : is_digit (get_or s p 0) ≡ true).
    grow k may s at (p + 1) (v * 10 + (get_or s p 0 - 48)) r (omega arith) (grow_one s at p v h d t) (simp d at e))
    (λ (d : is_digit (get_or s p 0) ≡ false). ⊎_elim
    (λ (l : leb (suc k) may ≡ true).
    let a : v ≡ r.value = cc (simp (d, l) at e) in let b : p ≡ r.next = cc (simp (d, l) at e) in rw (← a, ← b) t)
    (λ (l : leb (suc k) may ≡ false). cc (simp (d, l) at e))
    (either (leb (suc k) may)))
    (either (is_digit (get_or s p 0)))

first_value : (s : List ℕ) (at : ℕ) → is_digit (get_or s at 0) ≡ true → (get_or s at 0 ≡ 48 → ⊥)
    → Here s at (number_text (0 * 10 + (get_or s at 0 - 48))) (at + 1)
first_value s at d n =
    let b : ℕ = get_or s at 0 in
    let lo : 48 ≤ b = digit_low _ d in
    let hi : b ≤ 57 = digit_high _ d in
    rw (text_small (0 * 10 + (get_or s at 0 - 48)) (omega arith)) (here_byte (omega arith))

-- what a number reader takes is the number's text
pub number_is : (most : ℕ) (s : List ℕ) (at : ℕ) (r : Read ℕ) → 0 < most → number most s at ≡ Ok r → Here s at (number_text r.value) r.next
number_is zero s at r h e = absurd (not-suc-le-zero h)
number_is (suc k) s at r h e =
    ⊎_elim
    (λ (z : eqb (get_or s at 0) 48 ≡ true).
    let b : get_or s at 0 ≡ 48 = eqb-true _ _ z in
    let z : got 0 (at + 1) ≡ Ok r = sym (number_zero (suc k) s at b) ∙ e in
    let a : 0 ≡ r.value = cc in let p : at + 1 ≡ r.next = cc in
    rw (← a, ← p, text_small 0 (omega arith)) (here_byte b))
    (λ (z : eqb (get_or s at 0) 48 ≡ false).
    let n : get_or s at 0 ≡ 48 → ⊥ = eqb-false _ _ z in
    let o = one k (suc k - 1) s at 0 r (omega arith) (sym (number_rest (suc k) s at n) ∙ e) in
    grow k (suc k - 1) s at (at + 1) (0 * 10 + (get_or s at 0 - 48)) r (omega (arith, digit_low _ o.0, n)) (first_value s at o.0 n) o.1)
    (either (eqb (get_or s at 0) 48))

-- exactly three digits after a value
three_is : (s : List ℕ) (p v : ℕ) (r : Read ℕ) → digits 3 0 s p v ≡ Ok r → Here s p (last_digits 3 r.value) r.next × (r.value / 1000 ≡ v)
unfolding digits last_digits
three_is s p v r e =
    let a = one 2 0 s p v r (omega arith) e in
    let b = one 1 0 s (p + 1) _ r (omega arith) a.1 in
    let c = one 0 0 s (p + 1 + 1) _ r (omega arith) b.1 in
    let x : ((v * 10 + (get_or s p 0 - 48)) * 10 + (get_or s (p + 1) 0 - 48)) * 10 + (get_or s (p + 1 + 1) 0 - 48) ≡ r.value = cc c.1 in
    let y : p + 1 + 1 + 1 ≡ r.next = cc c.1 in
    let a0 = digit_low _ a.0 in let a1 = digit_high _ a.0 in
    let b0 = digit_low _ b.0 in let b1 = digit_high _ b.0 in
    let c0 = digit_low _ c.0 in let c1 = digit_high _ c.0 in
    (record { stands = (omega arith, (omega arith, (omega arith, tt))); next = omega arith }, omega arith)

-- what the weight reader takes is the weight's text
pub weight_is : (s : List ℕ) (at : ℕ) (r : Read ℕ) → weight s at ≡ Ok r → Here s at (weight_text r.value) r.next
unfolding weight_text
weight_is s at r e =
    let w = weight_parts s at r e in
    let t = three_is s (w.0.next + 1) w.0.value r w.3 in
    rw t.1 (here_then (number_is 7 s at w.0 (omega arith) w.1) (here_then (here_byte w.2) t.0))
