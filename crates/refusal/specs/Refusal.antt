-- The refusals of a step, in their order. Assumes nothing.
use Rattle.std.specs.Prelude.{Bool, true, false, not, ℕ, ◌-◌, leb, ltb, Option, eqb, Some, None}
use Rattle.accesses.specs.Accesses.{full, outdated, amiss}
use Rattle.places.specs.Places.{due_at}
use Rattle.state.specs.State.{row, place}
use Rattle.state.specs.declared.Machine.{Machine}
use Rattle.step.specs.Limit.{most}
use Rattle.step.specs.declared.LineKind.{LineKind}
use Rattle.step.specs.declared.LineKind.TheVariants.{Begins, Goes, GoesAt}
use Rattle.step.specs.declared.Reason.{Reason}
use Rattle.step.specs.declared.Reason.TheVariants.{StepsTaken, NoSuchThread, NotDue, NoSuchCell, TooGreat, NoRecordFree, Outdated, Amiss, CannotStand}
use Rattle.step.specs.declared.Step.{Step}
use Rattle.verbs.specs.Verbs.{among, asks, named, greatest}
use Rattle.writes.specs.declared.Access.{Access}

abbrev pub same_kind : LineKind → LineKind → Bool
same_kind Begins Begins = true
same_kind Goes Goes = true
same_kind GoesAt GoesAt = true
same_kind j k = false

-- refused for r where the test holds, else for what is said next
abbrev pub refuse : {A : Type 0} → Bool → A → Option A → Option A
refuse true r rest = Some r
refuse false r rest = rest

-- Stepping: 14, 6, 7, 8, 9, 10, 11, 12, 13; none where the step is taken.
unfoldable pub refusal_by : Bool → Machine → ℕ → Step → Access → Option ℕ → Option Reason
refusal_by stand m lent s a f =
    refuse (not stand) CannotStand
    (refuse (leb 4096 m.steps) StepsTaken
    (refuse (not (among s.thread m.shape.threads)) NoSuchThread
    (refuse (not (same_kind (asks s.verb) (due_at (place m (s.thread - 1))))) NotDue
    (refuse (not (named m.shape s.verb)) NoSuchCell
    (refuse (ltb most (greatest s.verb)) TooGreat
    (refuse (full a m.held lent) NoRecordFree
    (refuse (outdated a (row m (s.thread - 1))) Outdated
    (refuse (amiss a f) Amiss None))))))))
