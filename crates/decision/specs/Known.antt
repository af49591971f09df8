-- A step of a state and a list that are known to stand, as they are after a step that was taken: 14 is not judged anew. Assumes nothing.
use Rattle.std.specs.Prelude.{Bool, true, false, List, ◌≡◌, ◌<◌, length}
use Rattle.decision.specs.Decision.{rank_fits}
use Rattle.laws.specs.Tests.{◌and◌}
use Rattle.refusal.specs.Refusal.{refusal_by}
use Rattle.rules.specs.Access.{found_by}
use Rattle.rules.specs.Step.{Outcome, outcome, asked, decided_by, step_of}
use Rattle.rules.specs.declared.Decided.{Decided}
use Rattle.standing.specs.Stands.{sizes_stand, stands}
use Rattle.state.specs.declared.Machine.{Machine}
use Rattle.step.specs.Answer.{number_of}
use Rattle.step.specs.Reason.{number_by}
use Rattle.step.specs.declared.Step.{Step}
use Rattle.writes.specs.Records.{recorded}
use Rattle.writes.specs.declared.Write.{Write}

-- what is judged of 14: the whole state and list, or, where they are known to stand, only what the step reckons with
abbrev pub judged_by : Bool → Machine → List Write → Step → Bool
judged_by false m ws s = stands m ws
judged_by true m ws s = sizes_stand m (length ws) and rank_fits m s

abbrev pub decided_with : Bool → Machine → List Write → Step → Decided
decided_with b m ws s = decided_by (refusal_by b m (length ws) s (asked m s) (found_by m ws (asked m s))) m s (asked m s) (found_by m ws (asked m s))

abbrev pub left_by : Decided → Machine → List Write → Outcome
left_by d m ws = outcome d.done (recorded d.wrote m.held ws)

-- the step
unfoldable pub step_by : Bool → Machine → List Write → Step → Outcome
step_by known m ws s = left_by (decided_with (judged_by known m ws s) m ws s) m ws

-- what is promised: where nothing is known the step is `step_of`, and so it is where the state and the list stand
abbrev pub StepAnew : Type 0
StepAnew = (m : Machine) (ws : List Write) (s : Step) → step_by false m ws s ≡ step_of m ws s

abbrev pub StepKnown : Type 0
StepKnown = (m : Machine) (ws : List Write) (s : Step) → stands m ws ≡ true → step_by true m ws s ≡ step_of m ws s

-- However 14 is judged, the step is answered with the number of the first refusal in order, and a refused one gives back the same state and list.
abbrev pub KnownNumbered : Type 0
KnownNumbered =
    (known : Bool) (m : Machine) (ws : List Write) (s : Step)
    → number_of (step_by known m ws s).done.answer
    ≡ number_by (refusal_by (judged_by known m ws s) m (length ws) s (asked m s) (found_by m ws (asked m s)))

abbrev pub KnownKeeps : Type 0
KnownKeeps =
    (known : Bool) (m : Machine) (ws : List Write) (s : Step) → 0 < number_of (step_by known m ws s).done.answer
    → ((step_by known m ws s).done.machine ≡ m) × ((step_by known m ws s).writes ≡ ws)
