-- What holds of every state that is reached from a fresh machine. Assumes nothing.
use Rattle.std.specs.Prelude.{◌≡◌, true, List, ◌≢◌, ℕ, ◌+◌, ◌-◌, ◌<◌, ◌≤◌, is_some}
use Rattle.rules.specs.Kept.{number_given}
use Rattle.rules.specs.Step.{asked}
use Rattle.rules.specs.Log.{Point, Throughout, thread_of}
use Rattle.state.specs.State.{row, atomic_at, first_of}
use Rattle.state.specs.declared.Machine.{Machine}
use Rattle.state.specs.declared.Name.{Name}
use Rattle.step.specs.declared.Step.{Step}
use Rattle.view.specs.View.{stamp_of}
use Rattle.view.specs.declared.View.{View}
use Rattle.writes.specs.History.{found, newest}
use Rattle.writes.specs.Records.{nth}
use Rattle.writes.specs.declared.Access.TheVariants.{Reads}
use Rattle.writes.specs.declared.Write.{Write}

-- stamp t is in the history of the cell that a record numbers c
abbrev pub InHistory : Machine → List Write → ℕ → ℕ → Type 0
InHistory m ws c t = is_some (found (first_of m (c - 1)) ws c t m.held) ≡ true

-- every stamp of a view of k cells is in its cell's history
abbrev pub AllInHistory : ℕ → Machine → List Write → View → Type 0
AllInHistory k m ws v = (j : ℕ) → j < k → InHistory m ws (j + 1) (stamp_of v j)

-- Every stamp of every view is in that cell's history: of the threads' views, and of the atomic cells'.
abbrev pub ViewsKnown : ℕ → Point → Type 0
ViewsKnown k p =
    ((i : ℕ) → AllInHistory k p.machine p.writes (row p.machine i))
    × ((a : Name) → AllInHistory k p.machine p.writes (atomic_at p.machine a).view)

-- no stamp of a view is above the newest of its cell's history
abbrev pub NonePast : ℕ → Machine → List Write → View → Type 0
NonePast k m ws v = (j : ℕ) → j < k → stamp_of v j ≤ (newest (first_of m (j + 1 - 1)) ws (j + 1) m.held).stamp

-- So all views lie under the newest stamps.
abbrev pub ViewsUnder : ℕ → Point → Type 0
ViewsUnder k p =
    ((i : ℕ) → NonePast k p.machine p.writes (row p.machine i))
    × ((a : Name) → NonePast k p.machine p.writes (atomic_at p.machine a).view)

-- The stamps of one cell's history are distinct: those of its held records, and the first write's 0.000.
abbrev pub Distinct : Point → Type 0
Distinct p =
    ((i j : ℕ) → i < p.machine.held → j < p.machine.held → (nth p.writes i).cell ≡ (nth p.writes j).cell
    → (nth p.writes i).stamp ≡ (nth p.writes j).stamp → i ≡ j)
    × ((i : ℕ) → i < p.machine.held → 0 < (nth p.writes i).stamp)

-- So a plain read at the thread's own view is never refused by 12 or 13: no thread is stuck at one.
abbrev pub Unstuck : Point → Type 0
Unstuck p =
    (s : Step) (c : ℕ) → asked p.machine s ≡ Reads c (stamp_of (row p.machine (thread_of s)) (c - 1))
    → (number_given p.machine p.writes s ≢ 12) × (number_given p.machine p.writes s ≢ 13)

-- of k cells, as many as were opened
pub record Reached (k : ℕ) (p : Point) : Type 0 where
  pub views_known : ViewsKnown k p
  pub views_under : ViewsUnder k p
  pub distinct : Distinct p
  pub unstuck : Unstuck p

abbrev pub ReachedHolds : Type 0
ReachedHolds = Throughout (λ b c p. Reached (b + c) p)
