-- Every text is taken or refused by 1, 2, 3 or 4, every line read or refused by 2 or 3. Assumes nothing.
use Prim.Native.Nat.{ℕ, ◌≤◌, ◌<◌}
use mathlib.Core.Bool.{true, false}
use mathlib.Core.Logic.{⊎_elim}
use mathlib.Core.Path.{◌≡◌, refl}
use native.Mathlib.Omega.{arith}
use borrow.Author.Tests.{ltb-true, ltb-false}
use lib.Dec.{ltb}
use lib.ListN.{length}
use Rattle.fault.specs.Refusal.{number_of}
use Rattle.fault.specs.declared.Refusal.{Refusal}
use Rattle.fault.specs.declared.Refusal.TheVariants.{TooLong, BadForm, BadRange, Extra}
use Rattle.laws.proofs.Choice.{either}
use Rattle.form.specs.declared.Fields.{Fields}
use Rattle.line.specs.Row.{Row, due_row, line_of_row, line_read, read_line, read_number}
use Rattle.operand.specs.declared.OutOfRange.{OutOfRange}
use Rattle.digits.specs.declared.Stopped.{Stopped}
use Rattle.std.specs.Prelude.{Result, Ok, Err}
use Rattle.schedule.specs.Sections.{judged, sections}
use Rattle.schedule.specs.declared.Sections.{Sections}
use Rattle.std.specs.Prelude.{Result, Ok, Err}
use Rattle.texts.proofs.Places.{JudgedIn, sections_in}
use Rattle.texts.specs.Promise.{LineNumbered, JudgedNumbered}
use Rattle.texts.specs.Schedule.{judged_number}

pub line_numbered : LineNumbered
unfolding read_line
line_numbered due s at = go (due_row due s at)
  where
    value : (v : Result Fields OutOfRange) (p : ℕ)
        → let x = line_of_row due at v p in 0 < read_number x → (2 ≤ read_number x) × (read_number x ≤ 3)
    value (Ok f) p h = absurd (omega arith)
    value (Err n) p h = (omega arith, omega arith)

    go : (r : Result Row Stopped) → let x = line_read due at r in 0 < read_number x → (2 ≤ read_number x) × (read_number x ≤ 3)
    go (Ok r) h = value r.value r.next h
    go (Err x) h = (omega arith, omega arith)

four : (r : Refusal) → number_of r ≤ 4
four TooLong = omega arith
four (BadForm line stop) = omega arith
four (BadRange line number) = omega arith
four (Extra at) = omega arith

pub judged_numbered : JudgedNumbered
unfolding judged
judged_numbered s =
    ⊎_elim
    (λ (l : ltb 65536 (length s) ≡ true). rw l (omega arith, (λ e. ltb-true _ _ l), λ h. refl))
    (λ (l : ltb 65536 (length s) ≡ false). rw l (go (sections s) (sections_in s) (ltb-false _ _ l)))
    (either (ltb 65536 (length s)))
  where
    go : (j : Result Sections Refusal) → JudgedIn (length s) j → length s ≤ 65536
        → (judged_number j ≤ 4) × (judged_number j ≡ 1 → 65536 < length s) × (65536 < length s → judged_number j ≡ 1)
    go (Ok x) h b = (omega arith, (λ e. absurd (omega arith)), λ l. absurd (omega arith))
    go (Err r) h b = (four r, (λ e. absurd (omega (arith, h.1))), λ l. absurd (omega arith))
