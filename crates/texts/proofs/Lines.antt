-- Laws of lists of lines: their texts, their ranges, what they hold. Assumes nothing.
use mathlib.Core.Path.{◌≡◌, refl, sym, ap, ◌∙◌}
use mathlib.Core.Bool.{true}
use mathlib.Core.List.{List, [], ◌∷◌, ◌++◌, append_assoc, map}
use Prim.Native.Nat.{ℕ}
use native.Mathlib.Omega.{arith}
use lib.ListN.{take}
use Rattle.form.specs.Line.{due_of, line_in_range}
use Rattle.form.specs.Text.{line_text}
use Rattle.form.specs.declared.Due.{Due}
use Rattle.form.specs.declared.Due.TheVariants.{WeightDue, StepDue}
use Rattle.form.specs.declared.Line.{Line}
use Rattle.form.specs.declared.Line.TheVariants.{HeaderLine, WeightLine, StepLine}
use Rattle.laws.proofs.Choice.{and_left, and_right}
use Rattle.texts.specs.Schedule.{text_of, all_in_range, weight_in, step_in}

pub text_append : (xs ys : List Line) → text_of (xs ++ ys) ≡ text_of xs ++ text_of ys
unfolding text_of
text_append [] ys = refl
text_append (x ∷ xs) ys = ap (λ (t : List ℕ). line_text x ++ t) (text_append xs ys) ∙ sym (append_assoc (line_text x) (text_of xs) (text_of ys))

pub range_both : (xs ys : List Line) → all_in_range xs ≡ true → all_in_range ys ≡ true → all_in_range (xs ++ ys) ≡ true
unfolding all_in_range
range_both [] ys a b = b
range_both (x ∷ xs) ys a b =
    simp (and_left (line_in_range x) (all_in_range xs) a) (range_both xs ys (and_right (line_in_range x) (all_in_range xs) a) b)

pub range_left : (xs ys : List Line) → all_in_range (xs ++ ys) ≡ true → all_in_range xs ≡ true
unfolding all_in_range
range_left [] ys e = refl
range_left (x ∷ xs) ys e =
    simp (and_left (line_in_range x) (all_in_range (xs ++ ys)) e) (range_left xs ys (and_right (line_in_range x) (all_in_range (xs ++ ys)) e))

pub range_right : (xs ys : List Line) → all_in_range (xs ++ ys) ≡ true → all_in_range ys ≡ true
unfolding all_in_range
range_right [] ys e = e
range_right (x ∷ xs) ys e = range_right xs ys (and_right (line_in_range x) (all_in_range (xs ++ ys)) e)

pub range_head : (x : Line) (xs : List Line) → all_in_range (x ∷ xs) ≡ true → line_in_range x ≡ true
unfolding all_in_range
range_head x xs e = and_left (line_in_range x) (all_in_range xs) e

pub range_tail : (x : Line) (xs : List Line) → all_in_range (x ∷ xs) ≡ true → all_in_range xs ≡ true
unfolding all_in_range
range_tail x xs e = and_right (line_in_range x) (all_in_range xs) e

pub range_cons : (x : Line) (xs : List Line) → line_in_range x ≡ true → all_in_range xs ≡ true → all_in_range (x ∷ xs) ≡ true
unfolding all_in_range
range_cons x xs a b = simp (a, b)

-- lines that may all stand in one section
abbrev pub AllDue : Due → List Line → Type 0
AllDue d [] = Unit {0}
AllDue d (x ∷ xs) = (due_of x ≡ d) × AllDue d xs

weight_line : (x : Line) → due_of x ≡ WeightDue → WeightLine (weight_in x) ≡ x
weight_line (HeaderLine h n) e = let z : ◌≡◌ {A = ℕ} 0 1 = cc in absurd (omega arith)
weight_line (WeightLine w) e = refl
weight_line (StepLine s) e = let z : ◌≡◌ {A = ℕ} 0 1 = cc in absurd (omega arith)

step_line : (x : Line) → due_of x ≡ StepDue → StepLine (step_in x) ≡ x
step_line (HeaderLine h n) e = let z : ◌≡◌ {A = ℕ} 0 1 = cc in absurd (omega arith)
step_line (WeightLine w) e = let z : ◌≡◌ {A = ℕ} 0 1 = cc in absurd (omega arith)
step_line (StepLine s) e = refl

-- taken apart and made again, lines of one section are the same
lines_again : {A : Type 0} (d : Due) (make : A → Line) (take : Line → A) → ((x : Line) → due_of x ≡ d → make (take x) ≡ x)
    → (xs : List Line) → AllDue d xs → map make (map take xs) ≡ xs
lines_again d make take one [] a = refl
lines_again d make take one (x ∷ xs) a = λ i. one x a.0 i ∷ lines_again d make take one xs a.1 i

pub weights_again : (xs : List Line) → AllDue WeightDue xs → map WeightLine (map weight_in xs) ≡ xs
weights_again = lines_again WeightDue WeightLine weight_in weight_line

pub steps_again : (xs : List Line) → AllDue StepDue xs → map StepLine (map step_in xs) ≡ xs
steps_again = lines_again StepDue StepLine step_in step_line
