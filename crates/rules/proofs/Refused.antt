-- The number that a step is answered with, what a refused step keeps, and what a taken one counts. Assumes nothing.
use mathlib.Core.Path.{◌≡◌, refl, sym, ◌∙◌}
use mathlib.Core.Bool.{Bool, true, false}
use mathlib.Core.List.{List}
use Prim.Native.Nat.{ℕ, ◌+◌, ◌-◌, ◌<◌}
use native.Mathlib.Omega.{arith}
use Rattle.std.specs.Prelude.{Option, Some}
use Rattle.std.specs.Prelude as std
use Rattle.atomic.specs.Atomic.{swapped_of}
use Rattle.refusal.proofs.Passed.{passed, number_in}
use Rattle.rules.specs.Kept.{number_given, Numbered, StepNumbered, RefusedKeeps, TakenCounts}
use Rattle.rules.specs.Calls.{goes_on, looks, swaps, closes, resumed, yes_if, acted}
use Rattle.rules.specs.Step.{taken_by, decided_by, refusal_of, decided_of, step_of}
use Rattle.state.specs.State.{place}
use Rattle.state.specs.declared.Machine.{Machine}
use Rattle.state.specs.declared.Name.TheVariants.{Flag}
use Rattle.state.specs.declared.Place.{Place}
use Rattle.state.specs.declared.Place.TheVariants.{Idle, PutStatus, PutSwap, PutWrite, PutPublish, TakeStatus, TakeSwap, TakeRead, TakeFree}
use Rattle.step.proofs.Numbered.{no_reason}
use Rattle.step.specs.Answer.{number_of}
use Rattle.step.specs.Reason.{number_by}
use Rattle.step.specs.declared.Answer.{Answer}
use Rattle.step.specs.declared.Answer.TheVariants.{No, None}
use Rattle.step.specs.declared.Reason.{Reason}
use Rattle.step.specs.declared.Step.{Step}
use Rattle.step.specs.declared.Verb.{Verb}
use Rattle.step.specs.declared.Verb.TheVariants.{Get, Set, Load, Store, Swap, Put, Take, Go, GoAt}
use Rattle.writes.specs.Records.{recorded}
use Rattle.writes.specs.declared.Access.{Access}
use Rattle.writes.specs.declared.Write.{Write}

-- a call that goes on or ends so
goes_on_lem : (b : Bool) (m : Machine) (i : ℕ) (p : Place) (lost : Answer) → number_of lost ≡ 0 → number_of (goes_on b m i p lost).answer ≡ 0
unfolding goes_on
goes_on_lem true m i p lost e = refl
goes_on_lem false m i p lost e = e

-- a step of a call is answered with no number
resumed_taken : (m : Machine) (i : ℕ) (p : Place) (v : ℕ) → number_of (resumed m i p v).answer ≡ 0
unfolding resumed looks swaps closes
resumed_taken m i Idle v = refl
resumed_taken m i (PutStatus h w) v = goes_on_lem _ _ _ _ No refl
resumed_taken m i (PutSwap h w) v = goes_on_lem _ _ _ _ No refl
resumed_taken m i (PutWrite h w) v = refl
resumed_taken m i (PutPublish h) v = refl
resumed_taken m i (TakeStatus t) v = goes_on_lem _ _ _ _ None refl
resumed_taken m i (TakeSwap t) v = goes_on_lem _ _ _ _ None refl
resumed_taken m i (TakeRead t) v = refl
resumed_taken m i (TakeFree t w) v = refl

-- yes and no have no number
yes_taken : (b : Bool) → number_of (yes_if b) ≡ 0
yes_taken true = refl
yes_taken false = refl

-- what a verb does is answered with no number
acted_taken : (m : Machine) (i : ℕ) (x : Verb) (v : ℕ) → number_of (acted m i x v).answer ≡ 0
unfolding acted
acted_taken m i (Get c t) v = refl
acted_taken m i (Set c x t) v = refl
acted_taken m i (Load f) v = refl
acted_taken m i (Store f x) v = refl
acted_taken m i (Swap f old new) v = yes_taken (swapped_of m i (Flag (f - 1)) old new).won
acted_taken m i (Put w) v = refl
acted_taken m i Take v = refl
acted_taken m i Go v = resumed_taken m i (place m i) v
acted_taken m i (GoAt t) v = resumed_taken m i (place m i) v

-- what is decided by a reason is answered with its number
pub decided_numbered : (o : Option Reason) (m : Machine) (s : Step) (a : Access) (f : Option ℕ)
    → number_of (decided_by o m s a f).done.answer ≡ number_by o
unfolding taken_by
decided_numbered std.None m s a f = acted_taken _ _ s.verb _
decided_numbered (Some r) m s a f = refl

-- The number that a step is answered with is that of the first refusal in order, 0 where none is given.
pub numbered : Numbered
unfolding step_of decided_of
numbered m ws s = decided_numbered (refusal_of m ws s) m s _ _

-- no step is answered with 0 for which there is a reason
pub no_refusal : (m : Machine) (ws : List Write) (s : Step) → number_given m ws s ≡ 0 → refusal_of m ws s ≡ std.None
no_refusal m ws s e = no_reason (refusal_of m ws s) (sym (numbered m ws s) ∙ e)

-- A step's number is 0, or one of 6 to 14.
pub step_numbered : StepNumbered
unfolding refusal_of
step_numbered m ws s = rw (numbered m ws s) (number_in _ _ _ _ _ _)

-- what is decided by a reason
pub decided_keeps : (o : Option Reason) (m : Machine) (ws : List Write) (s : Step) (a : Access) (f : Option ℕ) → 0 < number_by o
    → ((decided_by o m s a f).done.machine ≡ m) × (recorded (decided_by o m s a f).wrote m.held ws ≡ ws)
unfolding recorded
decided_keeps std.None m ws s a f h = absurd (omega arith)
decided_keeps (Some r) m ws s a f h = (refl, refl)

-- A refused step gives back the same state and list.
pub refused_keeps : RefusedKeeps
unfolding step_of decided_of
refused_keeps m ws s h = decided_keeps (refusal_of m ws s) m ws s _ _ (omega (arith, numbered m ws s))

-- what is decided by no reason
decided_counts : (o : Option Reason) (m : Machine) (s : Step) (a : Access) (f : Option ℕ) → o ≡ std.None
    → (decided_by o m s a f).done.machine.steps ≡ m.steps + 1
unfolding taken_by
decided_counts o m s a f e = rw e

-- A taken step counts one step.
pub taken_counts : TakenCounts
unfolding step_of decided_of
taken_counts m ws s e = decided_counts (refusal_of m ws s) m s _ _ (no_refusal m ws s e)

-- The thread of a taken step counts from 1.
pub taken_thread : (m : Machine) (ws : List Write) (s : Step) → number_given m ws s ≡ 0 → 0 < s.thread
unfolding refusal_of
taken_thread m ws s e = (passed _ _ _ _ _ _ (no_refusal m ws s e)).0.thread.0
