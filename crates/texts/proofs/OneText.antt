-- No two lines in range share a text. Assumes nothing.
use mathlib.Core.Path.{◌≡◌, refl, sym, ap, ◌∙◌}
use mathlib.Core.Bool.{true, false}
use mathlib.Core.List.{List, [], ◌∷◌, ◌++◌}
use Prim.Native.Nat.{ℕ, ◌-◌, ◌/◌, ◌^◌, ◌+◌, ◌≤◌, ◌<◌}
use native.Mathlib.Omega.{arith}
use borrow.Author.Tests.{leb-true, le-leb, lt-leb}
use lib.Dec.{leb}
use lib.ListN.{get_or, length}
use Rattle.form.specs.Line.{header_form, due_of, fields_of, line_in_range}
use Rattle.step.specs.Limit.{most}
use Rattle.form.specs.Range.{in_range}
use Rattle.form.specs.Table.{thread, step_forms, bare_form, forms, form_at}
use Rattle.form.specs.Text.{lead_text, word_text, form_text, fields_text, line_text}
use Rattle.form.specs.declared.Due.{Due}
use Rattle.form.specs.declared.Due.TheVariants.{HeaderDue, WeightDue, StepDue}
use Rattle.form.specs.declared.Header.{Header}
use Rattle.form.specs.declared.Header.TheVariants.{Shape, Threads, Slots, Plain, Flag, Steps}
use Rattle.form.specs.declared.Kind.TheVariants.{Thousandths}
use Rattle.digits.specs.declared.Read.{Read}
use Rattle.form.specs.declared.Line.{Line}
use Rattle.form.specs.declared.Line.TheVariants.{HeaderLine, WeightLine, StepLine}
use Rattle.texts.proofs.Apart.{head, text_head, one_row}
use Rattle.texts.proofs.Fields.{ranged, header_row}
use Rattle.texts.proofs.ReadLines.{line_reads}
use Rattle.texts.specs.Promise.{LineOneText}
use Rattle.laws.proofs.Choice.{and_right}
use Rattle.number.proofs.Decimal.{length_pow}
use Rattle.digits.proofs.Digits.{stop_bad, number_rest}
use Rattle.digits.proofs.ReadBack.{number_reads}
use Rattle.number.proofs.Standing.{stands_left, stands_right, stands_self}
use Rattle.number.specs.Bytes.{Stands}
use Rattle.digits.specs.Reading.{is_digit, number}
use Rattle.number.specs.Text.{number_text, last_digits, weight_text}
use Rattle.digits.specs.declared.Read.{Read}
use Rattle.digits.specs.declared.Stopped.{Stopped}
use Rattle.std.specs.Prelude.{Result, Ok, Err}

-- what a line due begins with: a letter, or a number and the byte after it
abbrev mark_of : List ℕ → Result (Read ℕ) Stopped → ℕ
mark_of s (Ok r) = get_or s r.next 0
mark_of s (Err e) = 0

abbrev due_mark : Due → ℕ
due_mark (HeaderDue h) = 0
due_mark WeightDue = 46
due_mark StepDue = 32

number_mark : (v b : ℕ) (rest s : List ℕ) (at : ℕ) → v < 10 ^ 7 → is_digit b ≡ false → Stands s at (number_text v ++ (b ∷ rest))
    → mark_of s (number 7 s at) ≡ b
number_mark v b rest s at l d h =
    let t = number_text v in
    let g = stands_right s at t (b ∷ rest) h in
    rw (number_reads 7 s at v (length_pow 6 v l) (stands_left s at t (b ∷ rest) h) (ap is_digit g.0 ∙ d)) g.0

letter_mark : (s : List ℕ) (at : ℕ) → 57 < get_or s at 0 → mark_of s (number 7 s at) ≡ 0
unfolding is_digit
letter_mark s at l =
    rw (
      number_rest 7 s at (λ e. omega arith),
      stop_bad 7 6 s at 0 (omega arith) (simp (le-leb 48 (get_or s at 0) (omega arith), lt-leb (get_or s at 0) 57 l)) (omega arith),
    )

header_letter : (h : Header) (s : List ℕ) (at : ℕ) → Stands s at (head (header_form h)) → 57 < get_or s at 0
unfolding head form_at forms word_text
header_letter Shape s at h = omega (arith, h.0)
header_letter Threads s at h = omega (arith, h.0)
header_letter Slots s at h = omega (arith, h.0)
header_letter Plain s at h = omega (arith, h.0)
header_letter Flag s at h = omega (arith, h.0)
header_letter Steps s at h = omega (arith, h.0)

-- a header's text begins with its row's head
header_head : (h : Header) (n : ℕ) (s : List ℕ) (at : ℕ) → Stands s at (line_text (HeaderLine h n)) → Stands s at (head (header_form h))
unfolding line_text fields_text lead_text
header_head h n s at st = text_head (header_form h) s at n 0 0 (header_row h) st

line_mark : (x : Line) (s : List ℕ) (at : ℕ) → line_in_range x ≡ true → Stands s at (line_text x) → mark_of s (number 7 s at) ≡ due_mark (due_of x)
unfolding line_in_range line_text fields_text lead_text weight_text in_range is_digit
line_mark (HeaderLine h n) s at r st = letter_mark s at (header_letter h s at (header_head h n s at st))
line_mark (WeightLine w) s at r st =
    let f = fields_of (WeightLine w) in
    let m : w ≤ most = leb-true w most (ranged Thousandths f r).lead in
    number_mark (w / 1000) 46 (last_digits 3 w) s at (omega arith) refl (stands_left s at (weight_text w) (form_text bare_form 0 0 0) st)
line_mark (StepLine t) s at r st =
    let f = fields_of (StepLine t) in
    let v = f.lead in
    let m : v ≤ 8 = leb-true v 8 (and_right (leb 1 v) (leb v 8) (ranged thread f r).lead) in
    number_mark v 32 [] s at (omega arith) refl (stands_left s at (lead_text thread v) (form_text f.form f.a f.b f.c) st)

-- the header of a row
header_of : ℕ → Header
header_of i = get_or (Shape ∷ Threads ∷ Slots ∷ Plain ∷ Flag ∷ Steps ∷ []) (i - step_forms) Shape

header_of_lem : (h : Header) → header_of (header_form h) ≡ h
unfolding header_of
header_of_lem Shape = refl
header_of_lem Threads = refl
header_of_lem Slots = refl
header_of_lem Plain = refl
header_of_lem Flag = refl
header_of_lem Steps = refl

same_header : (h g : Header) (n m : ℕ) (s : List ℕ) (at : ℕ) → Stands s at (line_text (HeaderLine h n)) → Stands s at (line_text (HeaderLine g m)) → h ≡ g
same_header h g n m s at x y =
    sym (header_of_lem h)
    ∙ ap header_of (one_row (header_form h) (header_form g) s at
    (header_row h)
    (header_row g)
    (header_head h n s at x) (header_head g m s at y))
    ∙ header_of_lem g

same_due : (x y : Line) (s : List ℕ) (at : ℕ) → due_mark (due_of x) ≡ due_mark (due_of y) → Stands s at (line_text x) → Stands s at (line_text y) → due_of x ≡ due_of y
same_due (HeaderLine h n) (HeaderLine g m) s at e x y = ap HeaderDue (same_header h g n m s at x y)
same_due (HeaderLine h n) (WeightLine w) s at e x y = absurd (omega arith)
same_due (HeaderLine h n) (StepLine t) s at e x y = absurd (omega arith)
same_due (WeightLine v) (HeaderLine g m) s at e x y = absurd (omega arith)
same_due (WeightLine v) (WeightLine w) s at e x y = refl
same_due (WeightLine v) (StepLine t) s at e x y = absurd (omega arith)
same_due (StepLine u) (HeaderLine g m) s at e x y = absurd (omega arith)
same_due (StepLine u) (WeightLine w) s at e x y = absurd (omega arith)
same_due (StepLine u) (StepLine t) s at e x y = refl

-- two lines in range whose texts stand at one place are one
pub same_line : (x y : Line) (s : List ℕ) (at : ℕ) → line_in_range x ≡ true → line_in_range y ≡ true
    → Stands s at (line_text x) → Stands s at (line_text y) → x ≡ y
same_line x y s at p q h g =
    let due = same_due x y s at (sym (line_mark x s at p h) ∙ line_mark y s at q g) h g in
    let read : Line → Read Line = λ z. record { value = z; next = at + length (line_text z) } in
    let one : read x ≡ read y = cc (line_reads x s at p h, line_reads y s at q g) in
    ap (λ (r : Read Line). r.value) one

-- no two lines in range share a text
pub one_line : LineOneText
one_line x y p q e =
    same_line x y (line_text x) 0 p q (stands_self (line_text x)) (rw e (stands_self (line_text y)))
