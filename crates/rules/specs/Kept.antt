-- What steps keep. Assumes nothing.
use Rattle.std.specs.Prelude.{◌≡◌, true, false, List, ◌⊎◌, ℕ, ◌+◌, ◌<◌, ◌≤◌}
use Rattle.rules.specs.Step.{refusal_of, step_of}
use Rattle.opening.specs.Opening.{opened_of}
use Rattle.standing.specs.Stands.{stands}
use Rattle.state.specs.State.{cells_of, row, place, atomic_at, first_of, Whole}
use Rattle.state.specs.declared.Machine.{Machine}
use Rattle.state.specs.declared.Name.{Name}
use Rattle.state.specs.declared.Name.TheVariants.{Head, Tail, Flag, Status}
use Rattle.state.specs.declared.Shape.{Shape}
use Rattle.step.specs.Answer.{number_of}
use Rattle.step.specs.Reason.{number_by}
use Rattle.step.specs.declared.Step.{Step}
use Rattle.view.specs.View.{stamp_of}
use Rattle.writes.specs.declared.Write.{Write}

abbrev pub number_given : Machine → List Write → Step → ℕ
number_given m ws s = number_of (step_of m ws s).done.answer

-- The number that a step is answered with is that of the first refusal in order, 0 where none is given.
abbrev pub Numbered : Type 0
Numbered = (m : Machine) (ws : List Write) (s : Step) → number_given m ws s ≡ number_by (refusal_of m ws s)

-- A step's number is 0, or one of 6 to 14.
abbrev pub StepNumbered : Type 0
StepNumbered =
    (m : Machine) (ws : List Write) (s : Step)
    → (number_given m ws s ≡ 0) ⊎ ((6 ≤ number_given m ws s) × (number_given m ws s ≤ 14))

-- A refused step gives back the same state and list.
abbrev pub RefusedKeeps : Type 0
RefusedKeeps =
    (m : Machine) (ws : List Write) (s : Step) → 0 < number_given m ws s
    → ((step_of m ws s).done.machine ≡ m) × ((step_of m ws s).writes ≡ ws)

-- A taken step counts one step.
abbrev pub TakenCounts : Type 0
TakenCounts =
    (m : Machine) (ws : List Write) (s : Step) → number_given m ws s ≡ 0 → (step_of m ws s).done.machine.steps ≡ m.steps + 1

-- A step leaves a standing state standing.
abbrev pub StandingKept : Type 0
StandingKept =
    (m : Machine) (ws : List Write) (s : Step) → stands m ws ≡ true
    → stands (step_of m ws s).done.machine (step_of m ws s).writes ≡ true

-- A fresh machine stands, whatever list is lent.
abbrev pub FreshStands : Type 0
FreshStands =
    (t c : ℕ) (plain flags : List ℕ) (ws : List Write) → number_of (opened_of t c plain flags).answer ≡ 0
    → stands (opened_of t c plain flags).machine ws ≡ true

-- A fresh machine's lists are as long as its arrays, and a step leaves them so.
abbrev pub FreshWhole : Type 0
FreshWhole = (t c : ℕ) (plain flags : List ℕ) → Whole (opened_of t c plain flags).machine

abbrev pub WholeKept : Type 0
WholeKept = (m : Machine) (ws : List Write) (s : Step) → Whole m → Whole (step_of m ws s).done.machine

-- What a refused opening gives does not stand.
abbrev pub RefusedFalls : Type 0
RefusedFalls =
    (t c : ℕ) (plain flags : List ℕ) (ws : List Write) → 0 < number_of (opened_of t c plain flags).answer
    → stands (opened_of t c plain flags).machine ws ≡ false

-- an atomic cell that this machine lacks
abbrev pub Lacks : Shape → Name → Type 0
Lacks s Head = ⊥
Lacks s Tail = ⊥
Lacks s (Flag f) = s.flags ≤ f
Lacks s (Status i) = s.slots ≤ i

-- What no step changes: the shape, the first values, and room for threads, cells, flags or slots that this machine lacks.
pub record SameRoom (m n : Machine) : Type 0 where
  pub shape : n.shape ≡ m.shape
  pub firsts : n.firsts ≡ m.firsts
  pub threads : (i : ℕ) → m.shape.threads ≤ i → (row n i ≡ row m i) × (place n i ≡ place m i)
  pub rows : (i e : ℕ) → cells_of m ≤ e → stamp_of (row n i) e ≡ stamp_of (row m i) e
  pub cells : (a : Name) → Lacks m.shape a → atomic_at n a ≡ atomic_at m a
  pub seen : (a : Name) (e : ℕ) → cells_of m ≤ e → stamp_of (atomic_at n a).view e ≡ stamp_of (atomic_at m a).view e

abbrev pub RoomKept : Type 0
RoomKept = (m : Machine) (ws : List Write) (s : Step) → SameRoom m (step_of m ws s).done.machine

-- Two machines that agree outside their room, in all that a machine of their shape has.
pub record Alike (m k : Machine) : Type 0 where
  pub shape : k.shape ≡ m.shape
  pub steps : k.steps ≡ m.steps
  pub held : k.held ≡ m.held
  pub firsts : (e : ℕ) → e < m.shape.plain → first_of k e ≡ first_of m e
  pub places : (i : ℕ) → i < m.shape.threads → place k i ≡ place m i
  pub rows : (i e : ℕ) → i < m.shape.threads → e < cells_of m → stamp_of (row k i) e ≡ stamp_of (row m i) e
  pub values : (a : Name) → (Lacks m.shape a → ⊥) → (atomic_at k a).value ≡ (atomic_at m a).value
  pub seen : (a : Name) (e : ℕ) → (Lacks m.shape a → ⊥) → e < cells_of m → stamp_of (atomic_at k a).view e ≡ stamp_of (atomic_at m a).view e

-- Room is not judged, and no refusal looks at it.
abbrev pub RoomUnjudged : Type 0
RoomUnjudged =
    (m k : Machine) (ws : List Write) (s : Step) → Alike m k
    → (stands k ws ≡ stands m ws) × (number_given k ws s ≡ number_given m ws s)
