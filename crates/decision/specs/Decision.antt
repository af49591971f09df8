-- What is decided once the list is searched. Assumes nothing.
use Rattle.std.specs.Prelude.{Bool, true, false, ℕ, ◌-◌, eqb, leb, ltb}
use Rattle.decision.specs.declared.Verdict.{Verdict}
use Rattle.laws.specs.Tests.{◌and◌, ◌or◌}
use Rattle.parts.specs.Parts.{parts_stand}
use Rattle.places.specs.Places.{rank_of}
use Rattle.rank.specs.Rank.{full_status}
use Rattle.refusal.specs.Refusal.{refusal_by}
use Rattle.rules.specs.Calls.{status_name}
use Rattle.rules.specs.Step.{decided_by, content_if}
use Rattle.rules.specs.declared.Decided.{Decided}
use Rattle.standing.specs.Stands.{sizes_stand}
use Rattle.state.specs.State.{place, atomic_at}
use Rattle.state.specs.declared.Machine.{Machine}
use Rattle.step.specs.declared.Answer.{Answer}
use Rattle.step.specs.declared.Step.{Step}
use Rattle.writes.specs.Records.{fill_of}
use Rattle.writes.specs.declared.Access.{Access}
use Rattle.writes.specs.declared.Query.{Query}

-- the state and the list stand, by what the search has found
abbrev pub stands_by : Machine → ℕ → Query → Bool
stands_by m lent q = sizes_stand m lent and (parts_stand m and q.looked.stand)

-- the rank that the thread's place notes is one that the step can reckon with
unfoldable pub rank_fits : Machine → Step → Bool
rank_fits m s = ltb m.shape.threads s.thread or leb (rank_of (place m (s.thread - 1))) 4096

-- of a state and a list that are known to stand only what the step reckons with is judged
abbrev pub stands_if : Bool → Machine → ℕ → Step → Query → Bool
stands_if true m lent s q = sizes_stand m lent and rank_fits m s
stands_if false m lent s q = stands_by m lent q

-- the record that a decided step stores
abbrev pub verdict_by : Decided → ℕ → ℕ → Verdict
verdict_by d held lent = record { fill = fill_of d.wrote held lent; done = d.done }

unfoldable pub verdict_of : Bool → Machine → ℕ → Step → Access → Query → Verdict
verdict_of known m lent s a q =
    verdict_by (decided_by (refusal_by (stands_if known m lent s q) m lent s a q.looked.found) m s a q.looked.found) m.held lent

-- what the queue holds at a rank
unfoldable pub content_by : Machine → ℕ → ℕ → Query → Answer
content_by m lent k q =
    content_if (stands_by m lent q) (eqb (atomic_at m (status_name m k)).value (full_status k)) q.looked.newest.value
