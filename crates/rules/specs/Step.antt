-- One step: state, list of writes and step to answer, state and list. Assumes nothing.
use Rattle.std.specs.Prelude.{Bool, true, false, List, ℕ, ◌+◌, ◌-◌, eqb, length, Option, unwrap_or, Some, None}
use Rattle.rules.specs.Access.{slot_cell, access_of, found_by, accessed}
use Rattle.rules.specs.Calls.{status_name, acted}
use Rattle.rules.specs.declared.Decided.{Decided}
use Rattle.rules.specs.declared.Done.{Done}
use Rattle.rank.specs.Rank.{full_status}
use Rattle.refusal.specs.Refusal.{refusal_by}
use Rattle.standing.specs.Stands.{stands}
use Rattle.state.specs.Fields.{with_steps}
use Rattle.state.specs.State.{place, atomic_at, first_of}
use Rattle.state.specs.declared.Machine.{Machine}
use Rattle.step.specs.declared.Answer.{Answer}
use Rattle.step.specs.declared.Answer.TheVariants.{Dash, Value, Refused}
use Rattle.step.specs.Reason.{number}
use Rattle.step.specs.declared.Reason.{Reason}
use Rattle.step.specs.declared.Reason.TheVariants.{CannotStand}
use Rattle.step.specs.declared.Step.{Step}
use Rattle.writes.specs.History.{newest}
use Rattle.writes.specs.Records.{recorded}
use Rattle.writes.specs.declared.Access.{Access}
use Rattle.writes.specs.declared.Access.TheVariants.{NoAccess}
use Rattle.writes.specs.declared.Write.{Write}

-- the value that a plain read answers: what it finds
abbrev pub value_of : Option ℕ → ℕ
value_of f = unwrap_or f 0

-- one step more is taken
abbrev pub counted : ℕ → Done → Done
counted n d = record { answer = d.answer; machine = with_steps d.machine n }

-- what a step does that is taken
unfoldable pub taken_by : Machine → Step → Access → Option ℕ → Done
taken_by m s a f = counted (m.steps + 1) (acted (accessed m (s.thread - 1) a) (s.thread - 1) s.verb (value_of f))

-- A refused step is answered by its reason's number, and gives back the same state and list.
abbrev pub refused_by : Reason → Machine → Decided
refused_by r m = record { done = record { answer = Refused (number r); machine = m }; wrote = NoAccess }

-- what is decided of a step by the reason that it is refused for, if there is one: what it does, and the access whose write is recorded
abbrev pub decided_by : Option Reason → Machine → Step → Access → Option ℕ → Decided
decided_by None m s a f = record { done = taken_by m s a f; wrote = a }
decided_by (Some r) m s a f = refused_by r m

-- the plain access that the step makes
abbrev pub asked : Machine → Step → Access
asked m s = access_of m.shape s.verb (place m (s.thread - 1))

-- the reason that a step is refused for, none where it is taken
unfoldable pub refusal_of : Machine → List Write → Step → Option Reason
refusal_of m ws s = refusal_by (stands m ws) m (length ws) s (asked m s) (found_by m ws (asked m s))

-- what is decided of a step in a state, with the list that was lent
unfoldable pub decided_of : Machine → List Write → Step → Decided
decided_of m ws s = decided_by (refusal_of m ws s) m s (asked m s) (found_by m ws (asked m s))

-- what a step leaves
pub record Outcome : Type 0 where
  pub done : Done
  pub writes : List Write

abbrev pub outcome : Done → List Write → Outcome
outcome d ws = record { done = d; writes = ws }

-- One step, for every state, list and step: its answer, the state and the list afterwards.
unfoldable pub step_of : Machine → List Write → Step → Outcome
step_of m ws s = outcome (decided_of m ws s).done (recorded (decided_of m ws s).wrote m.held ws)

-- What a queue holds: the weight at the greatest stamp of the rank's slot if its status is 2 times rank plus 1, else `-`; of a state that
-- cannot stand, 14.
abbrev pub content_if : Bool → Bool → ℕ → Answer
content_if false b v = Refused (number CannotStand)
content_if true true v = Value v
content_if true false v = Dash

unfoldable pub content_of : Machine → List Write → ℕ → Answer
content_of m ws k =
    content_if (stands m ws) (eqb (atomic_at m (status_name m k)).value (full_status k))
    (newest (first_of m (slot_cell m.shape k - 1)) ws (slot_cell m.shape k) m.held).value
