-- Widths of printed lines, and lines put one after the other. Assumes nothing.
use Prim.Native.Nat.{◌+◌, ◌<◌, ◌^◌, ◌≤◌, ℕ}
use lib.ListN.{length, length-append}
use mathlib.Core.List.{[], ◌∷◌}
use mathlib.Core.Path.{◌≡◌}
use native.Mathlib.Omega.{arith}
use Rattle.number.specs.Text.{weight_text}
use Rattle.printed.specs.Printed.{ended_text, field_text, printed_text, spelled}
use Rattle.printed.specs.declared.Field.{Field}
use Rattle.printed.specs.declared.Printed.TheVariants.{Three, Two}
use Rattle.printed.specs.declared.Word.{Word}
use Rattle.measure.proofs.Widths.{weight_short}
use Rattle.printed.specs.declared.Word.TheVariants as word

pub length_ended : (f : Field) (b : ℕ) → length (ended_text f b) ≡ length (field_text f) + 1
unfolding ended_text
length_ended f b = length-append (field_text f) (b ∷ [])

pub length_two : (a b : Field) → length (printed_text (Two a b)) ≡ length (ended_text a 32) + length (ended_text b 10)
unfolding printed_text
length_two a b = length-append (ended_text a 32) (ended_text b 10)

pub length_three : (a b c : Field) → length (printed_text (Three a b c))
    ≡ length (ended_text a 32) + (length (ended_text b 32) + length (ended_text c 10))
unfolding printed_text
length_three a b c = simp length-append

pub weight_fits : (v : ℕ) → v < 2 ^ 32 → length (weight_text v) ≤ 20
weight_fits v h = omega (arith, weight_short v h)

-- no word has more than 7 letters
pub spelled_short : (w : Word) → length (spelled w) ≤ 7
unfolding spelled
spelled_short word.Answers = omega arith
spelled_short word.Queue = omega arith
spelled_short word.Refused = omega arith
spelled_short word.Text = omega arith
spelled_short word.Dash = omega arith
spelled_short word.Ok = omega arith
spelled_short word.Yes = omega arith
spelled_short word.No = omega arith
spelled_short word.None = omega arith
spelled_short word.Got = omega arith

pub word_fits : (w : Word) → length (spelled w) ≤ 20
word_fits w = omega (arith, spelled_short w)
