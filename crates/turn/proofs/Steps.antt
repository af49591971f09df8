-- What a run asks next is what its text asks, and what it comes to after a step, taken or refused. Assumes nothing.
use Prim.Native.Nat.{suc, zero, ℕ}
use mathlib.Core.Bool.{Bool, true}
use mathlib.Core.List.{List, map}
use mathlib.Core.Path.{◌≡◌, ap, refl, sym}
use native.Mathlib.Numerals.{sub-one}
use native.Mathlib.Omega.{arith}
use Rattle.std.specs.Prelude.{Option}
use Rattle.form.specs.declared.Due.TheVariants.{StepDue}
use Rattle.form.specs.declared.Line.{Line}
use Rattle.line.specs.Row.{read_line}
use Rattle.digits.specs.declared.Read.{Read}
use Rattle.fault.specs.declared.Refusal.{Refusal}
use Rattle.std.specs.Prelude.{Result, Ok, Err, Some}
use Rattle.printed.specs.Printed.{placed_next, put_next, answer_line}
use Rattle.asking.specs.declared.Asked.{Asked}
use Rattle.schedule.specs.declared.Section.{Section}
use Rattle.step.specs.declared.Answer.{Answer}
use Rattle.step.specs.declared.Step.{Step}
use Rattle.texts.specs.Schedule.{also, lines_from, step_in, steps_at}
use Rattle.turn.specs.Going.{ahead_by, ahead_if, ahead_of, asks, going_after, left_after, nothing_ahead}
use Rattle.turn.specs.declared.Ahead.{Ahead}
use Rattle.turn.specs.declared.Going.{Going}

-- no line is left
pub ahead_none : (n : ℕ) (r : Result (Read Line) Refusal) (s : Section) (known : Bool) → n ≡ 0 → ahead_if n r s known ≡ nothing_ahead s
ahead_none n r s known e = rw e

-- a line is left
pub ahead_read : (n : ℕ) (r : Result (Read Line) Refusal) (s : Section) (known : Bool) → (n ≡ 0 → ⊥)
    → ahead_if n r s known ≡ ahead_by r s known
ahead_read zero r s known h = absurd (h refl)
ahead_read (suc n) r s known h = refl

asks_by : (text : List ℕ) (r : Result (Read Line) Refusal) (n at : ℕ) (known : Bool)
    → asks text (ahead_by r (record { count = suc n; at = at }) known) ≡ map step_in (also r (λ p. lines_from n StepDue text p))
asks_by text (Ok y) n at known = rw (sub-one (suc n))
asks_by text (Err r) n at known = refl

asks_if : (text : List ℕ) (n at : ℕ) (known : Bool)
    → asks text (ahead_if n (read_line StepDue text at) (record { count = n; at = at }) known)
    ≡ steps_at text (record { count = n; at = at })
unfolding lines_from
asks_if text zero at known = refl
asks_if text (suc n) at known = asks_by text (read_line StepDue text at) n at known

-- the lines of a section are asked, one after the other
pub asks_ahead : (text : List ℕ) (s : Section) (known : Bool) → asks text (ahead_of text s known) ≡ steps_at text s
unfolding ahead_of
asks_ahead text s known = asks_if text s.count s.at known

known_by : (r : Result (Read Line) Refusal) (s : Section) (known : Bool) {a : Asked} → (ahead_by r s known).asked ≡ Some a → a.known ≡ known
known_by (Ok y) s known {a} e =
    let q : ◌≡◌ {A = Asked} (record { step = step_in y.value; known = known }) a = cc in
    ap (λ (k : Asked). k.known) (sym q)
known_by (Err r) s known e = let z : ◌≡◌ {A = ℕ} 0 1 = cc in absurd (omega arith)

known_if : (n : ℕ) (r : Result (Read Line) Refusal) (s : Section) (known : Bool) {a : Asked} → (ahead_if n r s known).asked ≡ Some a
    → a.known ≡ known
known_if zero r s known e = let z : ◌≡◌ {A = ℕ} 0 1 = cc in absurd (omega arith)
known_if (suc n) r s known e = known_by r s known e

-- what is said to be known of a step that is asked
pub known_ahead : (text : List ℕ) (s : Section) (known : Bool) {a : Asked} → (ahead_of text s known).asked ≡ Some a → a.known ≡ known
unfolding ahead_of
known_ahead text s known e = known_if s.count (read_line StepDue text s.at) s known e
