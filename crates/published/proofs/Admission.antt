-- A step is taken exactly when no test of a refusal holds. Assumes nothing.
use mathlib.Core.Path.{◌≡◌}
use mathlib.Core.Bool.{false}
use mathlib.Core.List.{List}
use Prim.Native.Nat.{ℕ, ◌-◌}
use lib.ListN.{length}
use Rattle.std.specs.Prelude.{None}
use Rattle.accesses.specs.Accesses.{outdated, amiss}
use Rattle.refusal.proofs.Passed.{Passed, passed, unrefused}
use Rattle.rules.specs.Access.{found_by}
use Rattle.rules.specs.Step.{asked, refusal_of}
use Rattle.published.specs.Follows.{Admitted}
use Rattle.standing.specs.Stands.{stands}
use Rattle.state.specs.State.{row}
use Rattle.state.specs.declared.Machine.{Machine}
use Rattle.step.specs.declared.Step.{Step}
use Rattle.writes.specs.declared.Access.{Access}
use Rattle.writes.specs.declared.Write.{Write}

-- of an access by thread i, the tests of refusals 12 and 13 do not hold
abbrev pub Fits : Machine → List Write → ℕ → Access → Type 0
Fits m ws i a = (outdated a (row m i) ≡ false) × (amiss a (found_by m ws a) ≡ false)

module _ (m : Machine) (ws : List Write) (s : Step) where
  -- what document 01 asks before a rule is looked at: the tests before 12 are passed
  abbrev Early : Type 0
  Early = Passed (stands m ws) m (length ws) s (asked m s) (found_by m ws (asked m s))

  admits : Early → Admitted m ws s
  admits p = record { stand = p.stands; steps = p.steps; thread = p.thread; due = p.due; cell = p.names; range = p.range; room = p.room }

  passes : Admitted m ws s → Early
  passes A = record { stands = A.stand; steps = A.steps; thread = A.thread; due = A.due; names = A.cell; range = A.range; room = A.room }

  -- what holds of a step that is taken
  pub admitted : refusal_of m ws s ≡ None → Admitted m ws s × Fits m ws (s.thread - 1) (asked m s)
  unfolding refusal_of
  admitted e =
      let p = passed (stands m ws) m (length ws) s (asked m s) (found_by m ws (asked m s)) e in
      (admits p.0, p.1)

  -- and back
  pub taken_if : Admitted m ws s → Fits m ws (s.thread - 1) (asked m s) → refusal_of m ws s ≡ None
  unfolding refusal_of
  taken_if A F = unrefused (stands m ws) m (length ws) s (asked m s) (found_by m ws (asked m s)) (passes A) F
