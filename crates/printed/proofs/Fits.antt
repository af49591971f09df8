-- Lines that have room are put whole, and how long a line may be. Assumes nothing.
use Prim.Native.Nat.{◌+◌, ◌/◌, ◌≤◌, ℕ}
use lib.ListN.{length, length-append}
use lib.Seq.{length-sets, sets}
use mathlib.Core.Bool.{true}
use mathlib.Core.List.{List, [], ◌++◌, ◌∷◌}
use mathlib.Core.Path.{◌∙◌, ◌≡◌, ap, refl, sym}
use native.Mathlib.Nat.{add-zero}
use native.Mathlib.Omega.{arith}
use borrow.Author.Tests.{le-leb}
use Rattle.std.specs.Prelude.{Some}
use Rattle.number.proofs.Decimal.{length_pow, length_weight}
use Rattle.number.proofs.Stores.{put_done, sets_append}
use Rattle.number.specs.Buffer.{room}
use Rattle.number.specs.Text.{number_text, weight_text}
use Rattle.printed.proofs.Laws.{length_ended, length_three, length_two, spelled_short}
use Rattle.printed.specs.Printed.{answer_line, field_text, lines_text, page, printed_text, put_lines, spelled}
use Rattle.printed.specs.declared.Field.{Field}
use Rattle.printed.specs.declared.Field.TheVariants.{Counts, Says, Weighs}
use Rattle.printed.specs.declared.Printed.{Printed}
use Rattle.printed.specs.declared.Printed.TheVariants.{Three, Two}
use Rattle.printed.specs.declared.Word.{Word}
use Rattle.printed.specs.declared.Word.TheVariants as word
use Rattle.step.specs.Limit.{most}
use Rattle.step.specs.declared.Answer.{Answer}
use Rattle.step.specs.declared.Answer.TheVariants.{Dash, Got, No, None, Ok, Refused, Value, Yes}

room_for : (l : List ℕ) (at n : ℕ) → at + n ≤ length l → room l at n ≡ true
unfolding room
room_for l at n h = le-leb _ _ h

-- lines that have room are put whole
pub put_whole : (xs : List Printed) (l : List ℕ) (at : ℕ) → at + length (lines_text xs) ≤ length l
    → put_lines (page (Some at) l) xs ≡ page (Some (at + length (lines_text xs))) (sets l at (lines_text xs))
unfolding put_lines lines_text
put_whole [] l at h = ap (λ (p : ℕ). page (Some p) l) (sym (add-zero at))
put_whole (x ∷ xs) l at h =
    let t = printed_text x in
    let more = length-append t (lines_text xs) in
    let put = put_done {l = l} {at = at} {t = t} (room_for l at (length t) (omega (arith, more))) (record { next = refl; list = refl }) in
    rw (← put.0, ← put.1, more, sets_append t (lines_text xs) l at)
    (put_whole xs (sets l at t) (at + length t) (omega (arith, more, length-sets l at t))
    ∙ ap (λ (p : ℕ). page (Some p) (sets (sets l at t) (at + length t) (lines_text xs))) (omega arith))

pub lines_append : (xs ys : List Printed) → length (lines_text (xs ++ ys)) ≡ length (lines_text xs) + length (lines_text ys)
unfolding lines_text
lines_append [] ys = omega arith
lines_append (x ∷ xs) ys =
    omega (arith, length-append (printed_text x) (lines_text (xs ++ ys)), length-append (printed_text x) (lines_text xs), lines_append xs ys)

pub two_width : (a b : Field) → length (printed_text (Two a b)) ≡ length (field_text a) + length (field_text b) + 2
two_width a b = omega (arith, length_two a b, length_ended a 32, length_ended b 10)

pub three_width : (a b c : Field) → length (printed_text (Three a b c)) ≡ length (field_text a) + length (field_text b) + length (field_text c) + 3
three_width a b c = omega (arith, length_three a b c, length_ended a 32, length_ended b 32, length_ended c 10)

-- a word and a number of at most so many digits
pub heading_short : (w : Word) (n d : ℕ) → length (number_text n) ≤ d → length (printed_text (Two (Says w) (Counts n))) ≤ 9 + d
unfolding field_text
heading_short w n d h = omega (arith, two_width (Says w) (Counts n), spelled_short w)

pub weight_width : (v : ℕ) → v ≤ most → length (weight_text v) ≤ 11
weight_width v h = omega (arith, length_weight v, length_pow 6 (v / 1000) (omega arith))

-- an answer of a taken step, its weight in range
abbrev pub InRange : Answer → Type 0
InRange Dash = Unit {0}
InRange Ok = Unit {0}
InRange (Value v) = v ≤ most
InRange Yes = Unit {0}
InRange No = Unit {0}
InRange None = Unit {0}
InRange (Got w) = w ≤ most
InRange (Refused k) = ⊥

-- the longest: a number, `got` and a weight
module _ (n d : ℕ) (h : length (number_text n) ≤ d) where
  says_short : (w : Word) → length (printed_text (Two (Counts n) (Says w))) ≤ d + 17
  unfolding field_text
  says_short w = omega (arith, two_width (Counts n) (Says w), spelled_short w)

  pub answer_short : (a : Answer) → InRange a → length (printed_text (answer_line n a)) ≤ d + 17
  unfolding answer_line field_text spelled
  answer_short Dash r = says_short word.Dash
  answer_short Ok r = says_short word.Ok
  answer_short (Value v) r = omega (arith, two_width (Counts n) (Weighs v), weight_width v r)
  answer_short Yes r = says_short word.Yes
  answer_short No r = says_short word.No
  answer_short None r = says_short word.None
  answer_short (Got w) r = omega (arith, three_width (Counts n) (Says word.Got) (Weighs w), weight_width w r)
  answer_short (Refused k) r = absurd r
