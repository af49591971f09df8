-- A step leaves a standing state standing. Assumes nothing.
use mathlib.Core.Path.{◌≡◌, refl}
use mathlib.Core.Bool.{true}
use mathlib.Core.List.{List}
use Prim.Native.Nat.{ℕ, ◌+◌, ◌-◌, ◌<◌}
use native.Mathlib.Omega.{arith}
use lib.ListN.{length}
use Rattle.std.specs.Prelude.{Option, Some, None}
use Rattle.places.specs.Places.{rank_of}
use Rattle.rules.proofs.Access.{value_fits, access_fits, accessed_fits}
use Rattle.rules.proofs.Calls.{acted_fits}
use Rattle.rules.proofs.Parts.{raised}
use Rattle.rules.proofs.Standing.{Fits, standing, stand}
use Rattle.rules.proofs.Accessed.{accessed_shape}
use Rattle.refusal.proofs.Passed.{Passed, passed}
use Rattle.rules.specs.Kept.{StandingKept}
use Rattle.rules.specs.Access.{found_by, accessed}
use Rattle.rules.specs.Step.{taken_by, decided_by, asked, refusal_of, decided_of, step_of}
use Rattle.standing.specs.Stands.{stands}
use Rattle.state.specs.State.{place}
use Rattle.state.specs.declared.Machine.{Machine}
use Rattle.step.specs.declared.Reason.{Reason}
use Rattle.step.specs.declared.Step.{Step}
use Rattle.verbs.specs.Verbs.{named}
use Rattle.writes.specs.Records.{recorded}
use Rattle.writes.specs.declared.Access.{Access}
use Rattle.writes.specs.declared.Write.{Write}

-- what a taken step leaves
taken_stands : (m : Machine) (ws : List Write) (s : Step) → Fits m.steps m ws
    → Passed (stands m ws) m (length ws) s (asked m s) (found_by m ws (asked m s))
    → stands (taken_by m s (asked m s) (found_by m ws (asked m s))).machine (recorded (asked m s) m.held ws) ≡ true
unfolding taken_by
taken_stands m ws s fits t =
    let n = m.steps in
    let i = s.thread - 1 in
    let a = asked m s in
    let next = accessed m i a in
    let us = recorded a m.held ws in
    let l : i < m.shape.threads = omega (arith, t.thread) in
    let fit = access_fits n m ws fits s.verb (place m i) (fits.places i l) t.names t.range in
    let done = accessed_fits n m ws fits i a l t.room fit in
    let here : i < next.shape.threads = rw (accessed_shape m i a) l in
    let known : named next.shape s.verb ≡ true = rw (accessed_shape m i a) t.names in
    let rank : rank_of (place next i) < n + 1 = omega (arith, (done.places i here).0) in
    stand (n + 1) _ us
    (acted_fits (n + 1) next us (raised n next us t.steps done) i here s.verb _ known t.range rank (value_fits n m ws fits a))

-- what a step leaves that is decided by a reason or none
decided_stands : (o : Option Reason) (m : Machine) (ws : List Write) (s : Step) (a : Access) (f : Option ℕ) → stands m ws ≡ true
    → (o ≡ None → stands (taken_by m s a f).machine (recorded a m.held ws) ≡ true)
    → stands (decided_by o m s a f).done.machine (recorded (decided_by o m s a f).wrote m.held ws) ≡ true
unfolding recorded
decided_stands None m ws s a f e h = h refl
decided_stands (Some r) m ws s a f e h = e

-- A step leaves a standing state standing.
pub standing_kept : StandingKept
unfolding step_of decided_of refusal_of
standing_kept m ws s e =
    decided_stands (refusal_of m ws s) m ws s (asked m s) _ e (λ r. taken_stands m ws s (standing m ws e) (passed _ _ _ _ _ _ r).0)
