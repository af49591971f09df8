-- No step changes room for threads, cells, flags or slots that a machine lacks. Assumes nothing.
use mathlib.Core.Path.{◌≡◌, refl}
use mathlib.Core.Bool.{true}
use mathlib.Core.List.{List}
use Prim.Native.Nat.{ℕ, ◌-◌, ◌<◌}
use native.Mathlib.Omega.{arith}
use lib.ListN.{length}
use Rattle.std.specs.Prelude.{Option, Some, None}
use Rattle.rules.proofs.Access.{access_fits}
use Rattle.rules.proofs.Parts.{Known}
use Rattle.rules.proofs.Standing.{Fits, standing, slot_in}
use Rattle.rules.specs.Kept.{SameRoom, RoomKept}
use Rattle.rules.proofs.Accessed.{accessed_shape}
use Rattle.rules.specs.Access.{found_by, accessed}
use Rattle.rules.specs.Calls.{status_name}
use Rattle.rules.specs.Step.{taken_by, decided_by, asked, refusal_of, decided_of, step_of}
use Rattle.refusal.proofs.Passed.{Passed, passed}
use Rattle.standing.specs.Stands.{stands}
use Rattle.state.specs.State.{place}
use Rattle.state.specs.declared.Machine.{Machine}
use Rattle.step.specs.declared.Reason.{Reason}
use Rattle.step.specs.declared.Step.{Step}
use Rattle.verbs.specs.Verbs.{named}
use Rattle.writes.specs.declared.Access.{Access}
use Rattle.writes.specs.declared.Write.{Write}
use Rattle.rules.proofs.RoomSteps.{room_same, room_then, counts_room, accessed_room, acted_room}

-- what a taken step leaves
taken_room : (m : Machine) (ws : List Write) (s : Step) → Fits m.steps m ws
    → Passed (stands m ws) m (length ws) s (asked m s) (found_by m ws (asked m s))
    → SameRoom m (taken_by m s (asked m s) (found_by m ws (asked m s))).machine
unfolding taken_by
taken_room m ws s fits t =
    let i = s.thread - 1 in
    let a = asked m s in
    let l : i < m.shape.threads = omega (arith, t.thread) in
    let done = accessed_room m i l a (access_fits _ m ws fits s.verb (place m i) (fits.places i l) t.names t.range) in
    let here : i < (accessed m i a).shape.threads = rw (accessed_shape m i a) l in
    let known : named (accessed m i a).shape s.verb ≡ true = rw (accessed_shape m i a) t.names in
    let slot : (k : ℕ) → Known (accessed m i a).shape (status_name (accessed m i a) k) = rw (accessed_shape m i a) (slot_in _ m ws fits) in
    room_then (room_then done (acted_room (accessed m i a) i here slot s.verb _ known)) (counts_room _ _ _)

-- what a step leaves that is decided by a reason or none
decided_room : (o : Option Reason) (m : Machine) (s : Step) (a : Access) (f : Option ℕ) → (o ≡ None → SameRoom m (taken_by m s a f).machine)
    → SameRoom m (decided_by o m s a f).done.machine
decided_room None m s a f h = h refl
decided_room (Some r) m s a f h = room_same m

-- No step changes the room that a machine lacks.
pub room_kept : RoomKept
unfolding step_of decided_of refusal_of
room_kept m ws s =
    decided_room (refusal_of m ws s) m s (asked m s) _
    (λ r. let t = (passed _ _ _ _ _ _ r).0 in taken_room m ws s (standing m ws t.stands) t)
