use mathlib.Core.Path.{◌≡◌, sym, ◌∙◌}
use mathlib.Core.Bool.{true, false}
use native.Mathlib.Omega.{arith}
use lib.ListN.{get_or}
use Rattle.digits.proofs.Digits.{ascii_digit, digit_high, step_yes, stop_got, stop_bad, step_end, value_room, below}
use Rattle.digits.specs.Reading.{is_digit}
use Rattle.digits.proofs.read_digits.Goals as goal
use Rattle.digits.proofs.read_digits.Goals.{Else-not-is_ascii_digit, Then-not-is_ascii_digit}

-- in a turn that goes on, the byte is a digit
digit : (c : Else-not-is_ascii_digit) → is_digit (get_or c.args.text.now c.loop-taken.at 0) ≡ true
digit c = rw (← ascii_digit, ← c.byte_at-b.ensures, ← c.is_ascii_digit.ensures.value) c.if-not-is_ascii_digit.false

-- and where it stops, none
none : (c : Then-not-is_ascii_digit) → is_digit (get_or c.args.text.now c.loop-taken.at 0) ≡ false
none c = rw (← ascii_digit, ← c.byte_at-b.ensures, ← c.is_ascii_digit.ensures.value) c.if-not-is_ascii_digit.true

pub returns-then-not-is_ascii_digit : goal.returns-then-not-is_ascii_digit
returns-then-not-is_ascii_digit c =
    sym (stop_bad _ _ _ _ _ (omega arith) (none (goal.at.returns-then-not-is_ascii_digit c).Then-not-is_ascii_digit) c.if-most-taken.false)
    ∙ c.loop-taken.invariant.0

pub overflow_mul-v : goal.overflow_mul-v
overflow_mul-v c = omega (arith, below _ _ _ c.loop-taken.invariant.1)

pub overflow_add-v : goal.overflow_add-v
overflow_add-v c = omega (arith, below _ _ _ c.loop-taken.invariant.1)

pub loop-taken-preserved : goal.loop-taken-preserved
loop-taken-preserved c =
    let d = digit (goal.at.loop-taken-preserved c).Else-not-is_ascii_digit in (
      rw c.byte_at-b.ensures (sym (step_yes _ _ _ _ _ _ (omega arith) d) ∙ c.loop-taken.invariant.0),
      value_room _ _ _ _ _ (omega arith) (omega (arith, digit_high _ d)) c.loop-taken.invariant.1,
    )

pub returns-after-loop-taken : goal.returns-after-loop-taken
returns-after-loop-taken c = sym (step_end _ _ _ _ _ (omega arith)) ∙ c.loop-taken.invariant.0

pub returns-then-most-taken : goal.returns-then-most-taken
returns-then-most-taken c =
    sym (stop_got _ _ _ _ _ (omega arith) (none (goal.at.returns-then-most-taken c).Then-not-is_ascii_digit) c.if-most-taken.true)
    ∙ c.loop-taken.invariant.0
