-- That a step is what the published rules say, both ways. Assumes nothing.
use Rattle.std.specs.Prelude.{◌≡◌, true, false, List, ◌⊎◌, ◌≢◌, ℕ, ◌+◌, ◌-◌, ◌<◌, ◌≤◌, length}
use Rattle.accesses.specs.Accesses.{full}
use Rattle.places.specs.Places.{due_at}
use Rattle.rules.specs.Kept.{number_given, SameRoom, Alike}
use Rattle.rules.specs.Step.{asked, Outcome, step_of}
use Rattle.published.specs.Calls.{Code, Makes, rest_of, waits_for, code_of, stamp_in, answers}
use Rattle.published.specs.Memory.{Stamps, Memory, Event, Rule, rd, wr, rd_a, wr_a, rdwr_a}
use Rattle.standing.specs.Stands.{stands}
use Rattle.state.specs.State.{row, place, atomic_at, first_of, Whole}
use Rattle.state.specs.declared.Machine.{Machine}
use Rattle.state.specs.declared.Place.{Place}
use Rattle.state.specs.declared.Place.TheVariants.{Idle}
use Rattle.state.specs.declared.Shape.{Shape}
use Rattle.step.specs.Limit.{most}
use Rattle.step.specs.declared.Answer.{Answer}
use Rattle.step.specs.declared.Answer.TheVariants.{Dash}
use Rattle.step.specs.declared.Step.{Step}
use Rattle.verbs.specs.Verbs.{asks, named, greatest}
use Rattle.view.specs.View.{stamp_of}
use Rattle.writes.specs.History.{found}
use Rattle.writes.specs.Records.{write, nth}
use Rattle.writes.specs.declared.Write.{Write}

-- the store and the views that a state and its list are
abbrev pub store_of : Machine → List Write → Memory
store_of m ws =
    record {
      history = λ a t. found (first_of m (a - 1)) ws a t m.held;
      value = λ A. (atomic_at m A).value;
      seen = λ A a. stamp_of (atomic_at m A).view (a - 1);
    }

abbrev pub stamps_of : Machine → ℕ → Stamps
stamps_of m i a = stamp_of (row m i) (a - 1)

-- what document 01 asks before a rule is looked at: refusals 14 and 6 to 11 are not given
pub record Admitted (m : Machine) (ws : List Write) (s : Step) : Type 0 where
  pub stand : stands m ws ≡ true
  pub steps : m.steps < 4096
  pub thread : (1 ≤ s.thread) × (s.thread ≤ m.shape.threads)
  pub due : asks s.verb ≡ due_at (place m (s.thread - 1))
  pub cell : named m.shape s.verb ≡ true
  pub range : greatest s.verb ≤ most
  pub room : full (asked m s) m.held (length ws) ≡ false

-- the code that the step runs
abbrev pub running : Machine → Step → Code
running m s = code_of m.shape s.verb (place m (s.thread - 1))

-- that code makes an event at the line's time stamp, and a code is left
abbrev pub Runs : Machine → Step → Event → Code → Type 0
Runs m s event left = Makes (running m s) (stamp_in s.verb) event left

-- what is left of the code once the answer is given: nothing and the thread is idle, or the rest of the call at its place
abbrev pub Left : Shape → Place → Answer → Code → Type 0
Left s p a c = ((p ≡ Idle) × (c ≡ answers a)) ⊎ ((p ≢ Idle) × (c ≡ rest_of s p) × (a ≡ Dash))

-- the rules let the code make an event from here
pub record Possible (m : Machine) (ws : List Write) (s : Step) : Type 0 where
  pub event : Event
  pub left : Code
  pub store : Memory
  pub view : Stamps
  pub makes : Runs m s event left
  pub rule : Rule m.shape (store_of m ws) (stamps_of m (s.thread - 1)) event store view

-- list and held count stay
abbrev pub Unlisted : ℕ → List Write → ℕ → List Write → Type 0
Unlisted h ws h' us = (h' ≡ h) × (us ≡ ws)

-- A plain write fills the record after the held ones and changes no other; every other event leaves the list and its held count.
abbrev pub Listed : Event → ℕ → List Write → ℕ → List Write → Type 0
Listed (rd a t v) h ws h' us = Unlisted h ws h' us
Listed (wr a t v) h ws h' us =
    (h' ≡ h + 1) × (length us ≡ length ws) × (nth us h ≡ write a t v) × ((n : ℕ) → n ≢ h → nth us n ≡ nth ws n)
Listed (rd_a A v) h ws h' us = Unlisted h ws h' us
Listed (wr_a A v) h ws h' us = Unlisted h ws h' us
Listed (rdwr_a A v v') h ws h' us = Unlisted h ws h' us

-- the machine that an outcome leaves
abbrev pub after : Outcome → Machine
after o = o.done.machine

-- an outcome is that of an event by the rules: store and view are what the rule says, the thread is answered and has the rest of its code
-- left, the other threads are as they were, the list has the event's write, one step more is counted, and all else stays
pub record Performed (m : Machine) (ws : List Write) (s : Step) (o : Outcome) : Type 0 where
  pub event : Event
  pub left : Code
  pub makes : Runs m s event left
  pub rule : Rule m.shape (store_of m ws) (stamps_of m (s.thread - 1)) event (store_of (after o) o.writes) (stamps_of (after o) (s.thread - 1))
  pub rest : Left m.shape (place (after o) (s.thread - 1)) o.done.answer left
  pub others : (j : ℕ) → j ≢ s.thread - 1 → (row (after o) j ≡ row m j) × (place (after o) j ≡ place m j)
  pub list : Listed event m.held ws (after o).held o.writes
  pub steps : (after o).steps ≡ m.steps + 1
  pub room : SameRoom m (after o)

-- A step is taken exactly when it is admitted and the rules allow it; and then it does what the rule says.
abbrev pub TakenFollows : Type 0
TakenFollows = (m : Machine) (ws : List Write) (s : Step) → Whole m → number_given m ws s ≡ 0 → Admitted m ws s × Performed m ws s (step_of m ws s)

abbrev pub AllowedTaken : Type 0
AllowedTaken = (m : Machine) (ws : List Write) (s : Step) → Admitted m ws s → Possible m ws s → number_given m ws s ≡ 0

-- From one store and view, a code makes one event at a time stamp.
abbrev pub OneEvent : Type 0
OneEvent =
    (D : Shape) (σ σ' σ'' : Memory) (W W' W'' : Stamps) (c d d' : Code) (t : ℕ) (e e' : Event)
    → Makes c t e d → Rule D σ W e σ' W' → Makes c t e' d' → Rule D σ W e' σ'' W'' → (e ≡ e') × (d ≡ d')

-- From one state and list, a step has one outcome: two that perform are the same answer, machine and list.
abbrev pub OneOutcome : Type 0
OneOutcome =
    (m : Machine) (ws : List Write) (s : Step) (o p : Outcome) → Whole (after o) → Whole (after p)
    → Performed m ws s o → Performed m ws s p → o ≡ p

-- An admitted step that an outcome performs is taken, and that outcome is its own.
abbrev pub OnlyOutcome : Type 0
OnlyOutcome =
    (m : Machine) (ws : List Write) (s : Step) (o : Outcome) → Whole m → Whole (after o) → Admitted m ws s → Performed m ws s o → step_of m ws s ≡ o

-- Room is not looked at: of machines that agree outside it, a step has the same answer and leaves the same list, and machines that agree so.
abbrev pub StepsAlike : Type 0
StepsAlike =
    (m n : Machine) (ws : List Write) (s : Step) → Whole m → Whole n → Alike m n
    → ((step_of n ws s).done.answer ≡ (step_of m ws s).done.answer)
    × ((step_of n ws s).writes ≡ (step_of m ws s).writes)
    × Alike (after (step_of m ws s)) (after (step_of n ws s))

-- Which line is due at a place (refusal 8) is what the rest of its call waits for.
abbrev pub DueByCode : Type 0
DueByCode = (s : Shape) (p : Place) → due_at p ≡ waits_for (rest_of s p)
