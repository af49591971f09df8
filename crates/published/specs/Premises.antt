-- When each number of a refused step is given: the tests before a rule is looked at, then the premises of the rule. Assumes nothing.
use Rattle.std.specs.Prelude.{◌≡◌, true, false, List, ◌⊎◌, ◌≢◌, ◌↔◌, ℕ, ◌-◌, ◌<◌, ◌≤◌, length, None}
use Rattle.accesses.specs.Accesses.{full}
use Rattle.places.specs.Places.{due_at}
use Rattle.published.specs.Calls.{Code, stamp_in, answers, reads, writes, reads_at, writes_at, swaps_at}
use Rattle.published.specs.Follows.{store_of, stamps_of, running}
use Rattle.published.specs.Memory.{Stamps, Memory}
use Rattle.rules.specs.Kept.{number_given}
use Rattle.rules.specs.Step.{asked}
use Rattle.standing.specs.Stands.{stands}
use Rattle.state.specs.State.{place}
use Rattle.state.specs.declared.Machine.{Machine}
use Rattle.step.specs.Limit.{most}
use Rattle.step.specs.declared.Step.{Step}
use Rattle.verbs.specs.Verbs.{asks, named, greatest}
use Rattle.writes.specs.declared.Write.{Write}

-- a rule's premise on the thread's view, of the plain event that a code makes at a time stamp
abbrev pub ViewPremise : Stamps → Code → ℕ → Type 0
ViewPremise W (answers a) t = Unit {0}
ViewPremise W (reads a f) t = W a ≤ t
ViewPremise W (writes a v c) t = W a < t
ViewPremise W (reads_at A f) t = Unit {0}
ViewPremise W (writes_at A v c) t = Unit {0}
ViewPremise W (swaps_at A u v c d) t = Unit {0}

-- and its premise on the history
abbrev pub HistoryPremise : Memory → Code → ℕ → Type 0
HistoryPremise σ (answers a) t = Unit {0}
HistoryPremise σ (reads a f) t = σ.history a t ≢ None
HistoryPremise σ (writes a v c) t = σ.history a t ≡ None
HistoryPremise σ (reads_at A f) t = Unit {0}
HistoryPremise σ (writes_at A v c) t = Unit {0}
HistoryPremise σ (swaps_at A u v c d) t = Unit {0}

abbrev pub ViewLets : Machine → Step → Type 0
ViewLets m s = ViewPremise (stamps_of m (s.thread - 1)) (running m s) (stamp_in s.verb)

abbrev pub HistoryLets : Machine → List Write → Step → Type 0
HistoryLets m ws s = HistoryPremise (store_of m ws) (running m s) (stamp_in s.verb)

-- where P fails, k is n; where it holds, the later ones say what k is
abbrev pub Unless : Type 0 → ℕ → (ℕ → Type 0) → ℕ → Type 0
Unless P n later k = ((P → ⊥) × (k ≡ n)) ⊎ (P × later k)

-- The first of these that fails gives its number; 0 where none does.
abbrev pub FirstFailed : Machine → List Write → Step → ℕ → Type 0
FirstFailed m ws s =
    Unless (stands m ws ≡ true) 14
    (Unless (m.steps < 4096) 6
    (Unless ((1 ≤ s.thread) × (s.thread ≤ m.shape.threads)) 7
    (Unless (asks s.verb ≡ due_at (place m (s.thread - 1))) 8
    (Unless (named m.shape s.verb ≡ true) 9
    (Unless (greatest s.verb ≤ most) 10
    (Unless (full (asked m s) m.held (length ws) ≡ false) 11
    (Unless (ViewLets m s) 12
    (Unless (HistoryLets m ws s) 13 (λ k. k ≡ 0)))))))))

abbrev pub FirstGiven : Type 0
FirstGiven = (m : Machine) (ws : List Write) (s : Step) (k : ℕ) → (number_given m ws s ≡ k) ↔ FirstFailed m ws s k
