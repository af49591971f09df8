-- Laws of the ranges of a line and of its widths. Assumes nothing.
use mathlib.Core.Path.{◌≡◌, refl, sym, ap, ◌∙◌}
use mathlib.Core.Bool.{Bool, true, false, cond, ◌&&◌}
use mathlib.Core.List.{List, [], ◌∷◌}
use mathlib.Core.Logic.{⊎_elim}
use Prim.Native.Nat.{ℕ, zero, suc, ◌+◌, ◌/◌, ◌^◌, ◌≤◌, ◌<◌}
use native.Mathlib.Omega.{arith}
use lib.Dec.{eqb}
use lib.ListN.{length, get_or, replicate, length-append, get_or-map, take}
use Rattle.std.specs.Prelude.{not, ◌==◌}
use Rattle.std.specs.List.{take_while}
use Rattle.std.proofs.lemmas.List.Folds.{length-prefix_len}
use Rattle.std.proofs.lemmas.List.Sums.{take_while-cons}
use Rattle.form.specs.Range.{in_range, limited}
use Rattle.form.specs.Table.{bare, form_total, forms, form_at, word_of, kind_a, kind_b, kind_c}
use Rattle.form.specs.Text.{operand_text, lead_text, word_text, form_text}
use Rattle.form.specs.declared.Form.{Form}
use Rattle.form.specs.declared.Kind.{Kind}
use Rattle.form.specs.declared.Kind.TheVariants.{Nothing, Count, Thousandths}
use Rattle.laws.proofs.Choice.{either}
use Rattle.number.proofs.Decimal.{length_snoc, length_weight, length_pow}
use Rattle.number.specs.Text.{number_text, weight_text}
use Rattle.std.specs.Prelude.{Some, None, is_some}

-- what `limit` says as a test
pub some_limited : (k : Kind) (v : ℕ) → is_some (limited k v) ≡ in_range k v
unfolding limited
some_limited k v = go (in_range k v)
  where
    go : (b : Bool) → is_some (cond b (Some v) None) ≡ b
    go true = refl
    go false = refl

-- `a && b` in code: where the first test x held the answer is the second's, and else it is x
pub and_taken : {a b x y : Bool} → x ≡ a → x ≡ true → y ≡ b → y ≡ (a && b)
and_taken p t q = rw (sym p ∙ t) q

pub and_untaken : {a x : Bool} (b : Bool) → x ≡ a → x ≡ false → x ≡ (a && b)
and_untaken b p t = rw (sym p ∙ t) t

cond_not : (c : Bool) (x y : List ℕ) → cond c x y ≡ cond (not c) y x
cond_not true x y = refl
cond_not false x y = refl

-- a word is what stands before its first 0
pub word_taken : (w : List ℕ) → take_while (λ b. not (b == 0)) w ≡ word_text w
unfolding word_text
word_taken [] = refl
word_taken (b ∷ w) =
    take_while-cons (λ b. not (b == 0)) b w
    ∙ sym (cond_not (eqb b 0) [] (b ∷ take_while (λ b. not (b == 0)) w))
    ∙ ap (λ (t : List ℕ). cond (eqb b 0) [] (b ∷ t)) (word_taken w)

pub word_front : (w : List ℕ) → take (length (word_text w)) w ≡ word_text w
word_front w = rw (← word_taken w, length-prefix_len)

-- no number of 32 bits has a text of more than 10 bytes
pub number_short : (v : ℕ) → v < 2 ^ 32 → length (number_text v) ≤ 10
number_short v h = length_pow 9 v (omega arith)

pub weight_short : (v : ℕ) → v < 2 ^ 32 → length (weight_text v) ≤ 14
weight_short v h = omega (arith, length_weight v, number_short (v / 1000) (omega arith))

operand_short : (k : Kind) (v : ℕ) → v < 2 ^ 32 → length (operand_text k v) ≤ 15
unfolding operand_text
operand_short Nothing v h = omega arith
operand_short (Count low high) v h = omega (arith, number_short v h)
operand_short Thousandths v h = omega (arith, weight_short v h)

pub lead_short : (k : Kind) (v : ℕ) → v < 2 ^ 32 → length (lead_text k v) ≤ 14
unfolding lead_text
lead_short Nothing v h = omega arith
lead_short (Count low high) v h = omega (arith, number_short v h, length_snoc (number_text v) 32)
lead_short Thousandths v h = weight_short v h

word_short : (w : List ℕ) → length (word_text w) ≤ length w
unfolding word_text
word_short [] = omega arith
word_short (b ∷ w) =
    ⊎_elim
    (λ (x : eqb b 0 ≡ true). rw x (omega arith))
    (λ (x : eqb b 0 ≡ false). rw x (omega (arith, word_short w)))
    (either (eqb b 0))

pub length_form : (i a b c : ℕ) → length (form_text i a b c)
    ≡ length (word_text (word_of i)) + (length (operand_text (kind_a i) a) + (length (operand_text (kind_b i) b) + (length (operand_text (kind_c i) c) + 1)))
unfolding form_text
length_form i a b c = simp length-append

all_same : (n i v : ℕ) → get_or (replicate n v) i v ≡ v
all_same zero i v = refl
all_same (suc n) zero v = refl
all_same (suc n) (suc i) v = all_same n i v

word_seven : (i : ℕ) → length (word_of i) ≡ 7
unfolding form_at forms
word_seven i = sym (get_or-map (λ (f : Form). length f.0) forms i bare) ∙ all_same form_total i 7

pub form_short : (i a b c : ℕ) → a < 2 ^ 32 → b < 2 ^ 32 → c < 2 ^ 32 → length (form_text i a b c) ≤ 53
form_short i a b c p q r =
    omega (
      arith,
      length_form i a b c,
      word_short (word_of i),
      word_seven i,
      operand_short (kind_a i) a p,
      operand_short (kind_b i) b q,
      operand_short (kind_c i) c r,
    )
