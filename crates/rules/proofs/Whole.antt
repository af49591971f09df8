-- A machine as long as its arrays: a fresh one is, and a step leaves it so. Assumes nothing.
use mathlib.Core.Path.{◌≡◌, refl}
use mathlib.Core.Bool.{Bool, true, false}
use mathlib.Core.List.{List}
use Prim.Native.Nat.{ℕ, zero, suc, ◌-◌}
use lib.ListN.{length, get_or, replicate}
use Rattle.std.specs.Prelude.{Option, Some, None}
use Rattle.rules.specs.Kept.{FreshWhole, WholeKept}
use Rattle.laws.proofs.Lists.{set_either, replicated, filled_length}
use Rattle.laws.specs.Lists.{filled}
use Rattle.laws.specs.Tests.{◌and◌}
use Rattle.rules.specs.Step.{value_of, taken_by, decided_by, refusal_of, decided_of, step_of}
use Rattle.opening.specs.Opening.{weights_stand, given_room, flags_room, statuses_room, unmoved, fresh, refused_opening, opened_if, opened_of}
use Rattle.standing.specs.Stands.{in_shape}
use Rattle.state.specs.State.{atomic, zero_atomic, row, atomic_at, Whole}
use Rattle.state.specs.declared.Atomic.{Atomic}
use Rattle.state.specs.declared.Machine.{Machine}
use Rattle.state.specs.declared.Name.{Name}
use Rattle.state.specs.declared.Name.TheVariants.{Head, Tail, Flag, Status}
use Rattle.state.specs.declared.Shape.{Shape}
use Rattle.step.specs.declared.Reason.{Reason}
use Rattle.step.specs.declared.Step.{Step}
use Rattle.view.specs.View.{zero_view}
use Rattle.writes.specs.declared.Access.{Access}
use Rattle.rules.proofs.WholeSteps.{whole, counts_whole, accessed_whole, acted_whole}

-- what a step leaves that is decided by a reason or none
decided_whole : (o : Option Reason) (m : Machine) (s : Step) (a : Access) (f : Option ℕ) → Whole m → Whole (decided_by o m s a f).done.machine
unfolding taken_by
decided_whole None m s a f w =
    counts_whole (acted_whole _ (accessed_whole m w (s.thread - 1) a) (s.thread - 1) s.verb (value_of f))
decided_whole (Some r) m s a f w = w

-- A step leaves a machine as long as its arrays.
pub whole_kept : WholeKept
unfolding step_of decided_of
whole_kept m ws s w = decided_whole (refusal_of m ws s) m s _ _ w

-- a list of cells with views as long as their arrays
abbrev AllSeen : List Atomic → Type 0
AllSeen l = (i : ℕ) → length (get_or l i zero_atomic).view.at ≡ 32

-- cells at zero
zero_seen : (room : ℕ) → AllSeen (replicate room zero_atomic)
zero_seen room i = rw (replicated room zero_atomic i) refl

-- cells at zero, the first n of them filled with values
abbrev valued : (ℕ → ℕ) → ℕ → ℕ → List Atomic
valued f n room = filled (λ i. atomic (f i) zero_view) n (replicate room zero_atomic)

valued_seen : (f : ℕ → ℕ) (n room : ℕ) → AllSeen (valued f n room)
unfolding filled
valued_seen f zero room i = zero_seen room i
valued_seen f (suc n) room i =
    set_either (λ (x : Atomic). length x.view.at ≡ 32) (valued f n room) n i (atomic (f n) zero_view) zero_atomic refl (valued_seen f n room i)

-- a machine that has not moved
unmoved_whole : (s : Shape) (given : List ℕ) (flags statuses : List Atomic) → length given ≡ 16 → length flags ≡ 8 → length statuses ≡ 16
    → AllSeen flags → AllSeen statuses → Whole (unmoved s given flags statuses)
unfolding unmoved row atomic_at
unmoved_whole s given flags statuses g f h p q = whole g refl refl f h (λ i. rw (replicated 8 zero_view i) refl) go
  where
    go : (a : Name) → length (atomic_at (unmoved s given flags statuses) a).view.at ≡ 32
    go Head = refl
    go Tail = refl
    go (Flag i) = p i
    go (Status i) = q i

-- an opening, refused or not
opened_whole : (b d : Bool) (m : Machine) → Whole m → Whole (opened_if b d m).machine
unfolding refused_opening
opened_whole false d m w = unmoved_whole _ _ _ _ refl refl refl (zero_seen 8) (zero_seen 16)
opened_whole true false m w = unmoved_whole _ _ _ _ refl refl refl (zero_seen 8) (zero_seen 16)
opened_whole true true m w = w

-- A fresh machine is as long as its arrays.
pub fresh_whole : FreshWhole
unfolding opened_of fresh given_room flags_room statuses_room
fresh_whole t c plain flags =
    opened_whole (in_shape t c (length plain) (length flags)) (weights_stand plain and weights_stand flags) (fresh t c plain flags)
    (unmoved_whole _ _ _ _ (filled_length _ (length plain) (replicate 16 0)) (filled_length _ (length flags) (replicate 8 zero_atomic)) (filled_length _ c (replicate 16 zero_atomic))
    (valued_seen _ (length flags) 8) (valued_seen _ c 16))
