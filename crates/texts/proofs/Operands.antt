-- What is taken as a field of a line is that field's text. Assumes nothing.
use mathlib.Core.Path.{◌≡◌, refl, ap, ◌∙◌}
use mathlib.Core.Bool.{true, false}
use mathlib.Core.List.{List, [], ◌∷◌, ◌++◌}
use mathlib.Core.Logic.{⊎_elim}
use Prim.Native.Nat.{ℕ, ◌+◌}
use native.Mathlib.Omega.{arith}
use borrow.Author.Tests.{eqb-true}
use lib.Dec.{eqb}
use lib.ListN.{get_or}
use Rattle.form.specs.Range.{in_range, limited}
use Rattle.form.specs.Text.{operand_text, lead_text, word_text}
use Rattle.form.specs.declared.Kind.{Kind}
use Rattle.form.specs.declared.Kind.TheVariants.{Nothing, Count, Thousandths}
use Rattle.operand.specs.Operand.{Number, byte, word, digits_of, number_at, space_before, operand_at, space_after, lead_at}
use Rattle.operand.specs.declared.OutOfRange.{OutOfRange}
use Rattle.laws.proofs.Choice.{either}
use Rattle.digits.proofs.Digits.{after_ok, got_ok}
use Rattle.digits.proofs.OnlyTexts.{number_is, weight_is}
use Rattle.number.proofs.Standing.{here_then, here_none, here_byte}
use Rattle.number.specs.Bytes.{Here}
use Rattle.number.specs.Text.{number_text, weight_text}
use Rattle.digits.specs.declared.Read.{Read}
use Rattle.std.specs.Prelude.{Ok, ok_or}
use Rattle.std.proofs.lemmas.List.{append-nil}

pub here_as : {s : List ℕ} {at p q : ℕ} {a b : List ℕ} → a ≡ b → p ≡ q → Here s at a p → Here s at b q
here_as e f h = rw (e, f) at h

pub byte_is : (b : ℕ) (s : List ℕ) (at p : ℕ) → byte b s at ≡ Ok p → (get_or s at 0 ≡ b) × (at + 1 ≡ p)
byte_is b s at p e =
    ⊎_elim
    (λ (x : eqb (get_or s at 0) b ≡ true). (eqb-true _ _ x, cc (simp x at e)))
    (λ (x : eqb (get_or s at 0) b ≡ false). cc (simp x at e))
    (either (eqb (get_or s at 0) b))

byte_here : (b : ℕ) (s : List ℕ) (at p : ℕ) → byte b s at ≡ Ok p → Here s at (b ∷ []) p
byte_here b s at p e = let h = byte_is b s at p e in rw (← h.1) (here_byte h.0)

pub word_is : (w s : List ℕ) (at p : ℕ) → word w s at ≡ Ok p → Here s at (word_text w) p
unfolding word word_text
word_is [] s at p e = here_none (cc)
word_is (b ∷ w) s at p e =
    ⊎_elim
    (λ (x : eqb b 0 ≡ true). rw x (here_none (cc (simp x at e))))
    (λ (x : eqb b 0 ≡ false).
    let o = after_ok (byte b s at) (λ next. word w s next) p (simp x at e) in
    rw x (here_then (byte_here b s at o.0 o.1) (word_is w s o.0 p o.2)))
    (either (eqb b 0))

-- the text of a number of a kind, without the space beside it
kind_text : Kind → ℕ → List ℕ
kind_text Nothing v = []
kind_text (Count low high) v = number_text v
kind_text Thousandths v = weight_text v

digits_of_lem : (k : Kind) (s : List ℕ) (at : ℕ) (n : Read ℕ) → digits_of k s at ≡ Ok n → Here s at (kind_text k n.value) n.next
unfolding kind_text
digits_of_lem Nothing s at n e = here_none (cc)
digits_of_lem (Count low high) s at n e = number_is 4 s at n (omega arith) e
digits_of_lem Thousandths s at n e = weight_is s at n e

limited_is : (k : Kind) (w v : ℕ) (x : OutOfRange) → ok_or (limited k w) x ≡ Ok v → (w ≡ v) × (in_range k v ≡ true)
unfolding limited
limited_is k w v x e =
    ⊎_elim
    (λ (y : in_range k w ≡ true). let h : w ≡ v = cc (simp y at e) in (h, rw h at y))
    (λ (y : in_range k w ≡ false). cc (simp y at e))
    (either (in_range k w))

-- a number in its range, with its text and the place after it
abbrev Held : Kind → (ℕ → List ℕ) → List ℕ → ℕ → Number → Type 0
Held k text s at r = (v : ℕ) → r.value ≡ Ok v → Here s at (text v) r.next × (in_range k v ≡ true)

number_at_lem : (k : Kind) (s : List ℕ) (at : ℕ) (r : Number) → number_at k s at ≡ Ok r → Held k (kind_text k) s at r
number_at_lem k s at r e v h =
    let o = after_ok (digits_of k s at) _ r e in
    let g = got_ok _ _ r o.2 in
    let l = limited_is k o.0.value v (record { 0 = at }) (g.0 ∙ h) in
    (here_as (ap (kind_text k) l.0) g.1 (digits_of_lem k s at o.0 o.1), l.1)

-- the text before a number, and after it
before_text : Kind → List ℕ
before_text Nothing = []
before_text (Count low high) = 32 ∷ []
before_text Thousandths = 32 ∷ []

after_text : Kind → List ℕ
after_text Nothing = []
after_text (Count low high) = 32 ∷ []
after_text Thousandths = []

space_before_lem : (k : Kind) (s : List ℕ) (at p : ℕ) → space_before k s at ≡ Ok p → Here s at (before_text k) p
unfolding before_text
space_before_lem Nothing s at p e = here_none (cc)
space_before_lem (Count low high) s at p e = byte_here 32 s at p e
space_before_lem Thousandths s at p e = byte_here 32 s at p e

space_after_lem : (k : Kind) (s : List ℕ) (at p : ℕ) → space_after k s at ≡ Ok p → Here s at (after_text k) p
unfolding after_text
space_after_lem Nothing s at p e = here_none (cc)
space_after_lem (Count low high) s at p e = byte_here 32 s at p e
space_after_lem Thousandths s at p e = here_none (cc)

operand_text_is : (k : Kind) (v : ℕ) → before_text k ++ kind_text k v ≡ operand_text k v
unfolding before_text kind_text operand_text
operand_text_is Nothing v = refl
operand_text_is (Count low high) v = refl
operand_text_is Thousandths v = refl

lead_text_is : (k : Kind) (v : ℕ) → kind_text k v ++ after_text k ≡ lead_text k v
unfolding after_text kind_text lead_text
lead_text_is Nothing v = refl
lead_text_is (Count low high) v = refl
lead_text_is Thousandths v = append-nil (weight_text v)

pub operand_is : (k : Kind) (s : List ℕ) (at : ℕ) (r : Number) → operand_at k s at ≡ Ok r → Held k (operand_text k) s at r
operand_is k s at r e v h =
    let o = after_ok (space_before k s at) _ r e in
    let n = number_at_lem k s o.0 r o.2 v h in
    (here_as (operand_text_is k v) refl (here_then (space_before_lem k s at o.0 o.1) n.0), n.1)

pub lead_is : (k : Kind) (s : List ℕ) (at : ℕ) (r : Number) → lead_at k s at ≡ Ok r → Held k (lead_text k) s at r
lead_is k s at r e v h =
    let o = after_ok (number_at k s at) _ r e in
    let a = after_ok (space_after k s o.0.next) _ r o.2 in
    let g = got_ok _ _ r a.2 in
    let n = number_at_lem k s at o.0 o.1 v (g.0 ∙ h) in
    (here_as (lead_text_is k v) g.1 (here_then n.0 (space_after_lem k s o.0.next a.0 a.1)), n.1)
