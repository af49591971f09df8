-- No two rows of the table begin a text alike: tests over the table, and what they give. Assumes nothing.
use mathlib.Core.Path.{◌≡◌, refl, sym, ap, ◌∙◌}
use mathlib.Core.Bool.{Bool, true, false, cond, ◌&&◌}
use mathlib.Core.List.{List, [], ◌∷◌, ◌++◌}
use mathlib.Core.Logic.{⊎_elim}
use Prim.Native.Nat.{ℕ, ◌+◌, ◌≤◌, ◌<◌}
use native.Mathlib.Nat.{eq-or-lt_of_le}
use native.Mathlib.Omega.{arith}
use borrow.Author.Tests.{eq-eqb}
use lib.Dec.{leb, eqb}
use lib.ListN.{length, get_or}
use Rattle.form.specs.Table.{form_total, forms, form_at, word_of, kind_a, kind_b, kind_c}
use Rattle.form.specs.Text.{operand_text, word_text, form_text}
use Rattle.form.specs.declared.Kind.{Kind}
use Rattle.form.specs.declared.Kind.TheVariants.{Nothing, Count, Thousandths}
use Rattle.texts.proofs.OnlyLines.{Parts, row_parts}
use Rattle.texts.proofs.Operands.{byte_is, word_is}
use Rattle.operand.specs.Operand.{Number, byte, operand_at}
use Rattle.line.specs.Row.{Row, form_row}
use Rattle.digits.proofs.Digits.{after_ok}
use Rattle.std.specs.Prelude.{Ok}
use Rattle.laws.proofs.Choice.{either, split, and_left, and_right}
use Rattle.laws.proofs.Tests.{each}
use Rattle.laws.specs.Tests.{◌and◌, all_below}
use Rattle.number.proofs.Standing.{stands_append, stands_left, stands_right}
use Rattle.number.specs.Bytes.{Stands}

-- two texts that differ at a place which both have
abbrev differ : List ℕ → List ℕ → Bool
differ [] y = false
differ (a ∷ x) [] = false
differ (a ∷ x) (b ∷ y) = cond (eqb a b) (differ x y) true

differ_not : (x y s : List ℕ) (at : ℕ) → Stands s at x → Stands s at y → differ x y ≡ true → ⊥
differ_not [] y s at h g e = let z : ◌≡◌ {A = ℕ} 0 1 = cc in omega arith
differ_not (a ∷ x) [] s at h g e = let z : ◌≡◌ {A = ℕ} 0 1 = cc in omega arith
differ_not (a ∷ x) (b ∷ y) s at h g e = differ_not x y s (at + 1) h.1 g.1 (simp (eq-eqb a b (sym h.0 ∙ g.0)) at e)

-- the byte after a word: a space before an operand, or the LF
abbrev follow : Kind → ℕ
follow Nothing = 10
follow (Count low high) = 32
follow Thousandths = 32

unfoldable pub head : ℕ → List ℕ
head i = word_text (word_of i) ++ (follow (kind_a i) ∷ [])

apart : ℕ → Bool
apart i = all_below (λ j. differ (head j) (head i)) i

all_apart : all_below apart form_total ≡ true
unfolding apart head form_at forms word_text all_below ◌and◌
all_apart = refl

-- a row without a first operand has none
abbrev nothing : Kind → Bool
nothing Nothing = true
nothing (Count low high) = false
nothing Thousandths = false

abbrev packed : Kind → Kind → Kind → Bool
packed a b c = cond (nothing a) (nothing b && nothing c) true

row_packed : (i : ℕ) → i < form_total → packed (kind_a i) (kind_b i) (kind_c i) ≡ true
unfolding form_at forms all_below ◌and◌
row_packed = each (λ i. packed (kind_a i) (kind_b i) (kind_c i)) form_total refl

-- a number without a point has at most 4 digits
abbrev pub short : Kind → Bool
short Nothing = true
short (Count low high) = leb high 9999
short Thousandths = true

pub short_a : (i : ℕ) → i < form_total → short (kind_a i) ≡ true
unfolding form_at forms all_below ◌and◌
short_a = each (λ i. short (kind_a i)) form_total refl

pub short_b : (i : ℕ) → i < form_total → short (kind_b i) ≡ true
unfolding form_at forms all_below ◌and◌
short_b = each (λ i. short (kind_b i)) form_total refl

pub short_c : (i : ℕ) → i < form_total → short (kind_c i) ≡ true
unfolding form_at forms all_below ◌and◌
short_c = each (λ i. short (kind_c i)) form_total refl

is_nothing : (k : Kind) → nothing k ≡ true → k ≡ Nothing
is_nothing Nothing e = refl
is_nothing (Count low high) e = let z : ◌≡◌ {A = ℕ} 0 1 = cc in absurd (omega arith)
is_nothing Thousandths e = let z : ◌≡◌ {A = ℕ} 0 1 = cc in absurd (omega arith)

-- a row's text begins with its head
text_follow : (i j k : Kind) (a b c : ℕ) (s : List ℕ) (p : ℕ) → packed i j k ≡ true
    → Stands s p (operand_text i a ++ (operand_text j b ++ (operand_text k c ++ (10 ∷ [])))) → get_or s p 0 ≡ follow i
unfolding operand_text
text_follow Nothing j k a b c s p e h =
    let x = is_nothing j (and_left (nothing j) (nothing k) e) in
    let y = is_nothing k (and_right (nothing j) (nothing k) e) in
    let g : Stands s p (10 ∷ []) = rw (x, y) at h in
    g.0
text_follow (Count low high) j k a b c s p e h = h.0
text_follow Thousandths j k a b c s p e h = h.0

pub text_head : (i : ℕ) (s : List ℕ) (p a b c : ℕ) → i < form_total → Stands s p (form_text i a b c) → Stands s p (head i)
unfolding head form_text
text_head i s p a b c l h =
    let w = word_text (word_of i) in
    let rest = operand_text (kind_a i) a ++ (operand_text (kind_b i) b ++ (operand_text (kind_c i) c ++ (10 ∷ []))) in
    stands_append s p w (follow (kind_a i) ∷ []) (stands_left s p w rest h) (
      text_follow (kind_a i) (kind_b i) (kind_c i) a b c s (p + length w)
          (row_packed i l) (stands_right s p w rest h),
      tt,
    )

-- and so does a line that fits the row
operand_follow : (k : Kind) (s : List ℕ) (p : ℕ) (r : Number) → nothing k ≡ false → operand_at k s p ≡ Ok r → get_or s p 0 ≡ follow k
operand_follow Nothing s p r n e = cc
operand_follow (Count low high) s p r n e = let o = after_ok (byte 32 s p) _ r e in (byte_is 32 s p o.0 o.1).0
operand_follow Thousandths s p r n e = let o = after_ok (byte 32 s p) _ r e in (byte_is 32 s p o.0 o.1).0

operand_none : (k : Kind) (s : List ℕ) (p : ℕ) (r : Number) → nothing k ≡ true → operand_at k s p ≡ Ok r → p ≡ r.next
operand_none Nothing s p r n e = cc
operand_none (Count low high) s p r n e = cc
operand_none Thousandths s p r n e = cc

parts_follow : (i : ℕ) (s : List ℕ) (l : Number) (r : Row) → i < form_total → (p : Parts i s l r)
    → get_or s p.next 0 ≡ follow (kind_a i)
parts_follow i s l r h p =
    let ka = kind_a i in let kb = kind_b i in let kc = kind_c i in
    ⊎_elim
    (λ (x : nothing ka ≡ true).
    let both = simp x at (row_packed i h) in
    let e = operand_none ka s p.next p.a x p.a_is in
    let f = operand_none kb s p.a.next p.b (and_left (nothing kb) (nothing kc) both) p.b_is in
    let g = operand_none kc s p.b.next p.c (and_right (nothing kb) (nothing kc) both) p.c_is in
    ap (λ (x : ℕ). get_or s x 0) (e ∙ f ∙ g) ∙ p.lf ∙ ap follow (sym (is_nothing ka x)))
    (λ (x : nothing ka ≡ false). operand_follow ka s p.next p.a x p.a_is)
    (either (nothing ka))

fits_head : (i : ℕ) (s : List ℕ) (l : Number) (r : Row) → i < form_total → form_row i s l ≡ Ok r → Stands s l.next (head i)
unfolding head
fits_head i s l r h e =
    let p = row_parts i s l r e in
    let here = word_is (word_of i) s l.next p.next p.word_is in
    stands_append s l.next (word_text (word_of i)) (follow (kind_a i) ∷ []) here.stands (rw (← here.next) (parts_follow i s l r h p, tt))

-- so two rows that begin at one place are one
pub one_row : (i j : ℕ) (s : List ℕ) (p : ℕ) → i < form_total → j < form_total → Stands s p (head i) → Stands s p (head j) → i ≡ j
unfolding apart
one_row i j s p hi hj x y =
    ⊎_elim
    (λ (q : i < j). absurd (later i j hj q x y))
    (λ (q : j ≤ i). ⊎_elim (λ (e : j ≡ i). sym e) (λ (q : j < i). absurd (later j i hi q y x)) (eq-or-lt_of_le q))
    (split i j)
  where
    later : (i j : ℕ) → j < form_total → i < j → Stands s p (head i) → Stands s p (head j) → ⊥
    later i j h q x y =
        differ_not (head i) (head j) s p x y (each (λ i. differ (head i) (head j)) j (each apart form_total all_apart j h) i q)

-- where a row's text stands, no earlier row fits
pub others : (i j : ℕ) (s : List ℕ) (l : Number) (a b c : ℕ) → i < form_total → j < i → Stands s l.next (form_text i a b c)
    → (r : Row) → form_row j s l ≡ Ok r → ⊥
others i j s l a b c h q st r e =
    let o = one_row j i s l.next (omega arith) h (fits_head j s l r (omega arith) e) (text_head i s l.next a b c h st) in
    omega arith
