-- A plain read at a stamp that the view allows and the history has is not refused by 12 or 13. Assumes nothing.
use mathlib.Core.Path.{◌≡◌, sym, subst, ◌∙◌}
use mathlib.Core.Bool.{true}
use mathlib.Core.List.{List}
use mathlib.Core.Logic.{◌≢◌}
use Prim.Native.Nat.{ℕ, ◌+◌, ◌-◌, ◌<◌, ◌≤◌}
use native.Mathlib.Omega.{arith}
use borrow.Author.Tests.{le-ltb}
use lib.ListN.{length}
use Rattle.std.specs.Prelude.{is_some}
use Rattle.rules.proofs.Refused.{numbered}
use Rattle.rules.specs.Access.{slot_cell, stamped_at, access_of, found_by}
use Rattle.rules.specs.Step.{asked, refusal_of, step_of}
use Rattle.rules.proofs.Ranks.{slot_in}
use Rattle.rules.proofs.Recalled.{Recalled}
use Rattle.refusal.proofs.Passed.{among_some, others, early, past_early}
use Rattle.standing.proofs.Bounds.{Bounds}
use Rattle.standing.specs.Stands.{stands}
use Rattle.state.specs.State.{cells_of, row, place, first_of}
use Rattle.state.specs.declared.Machine.{Machine}
use Rattle.state.specs.declared.Place.{Place}
use Rattle.state.specs.declared.Place.TheVariants.{Idle, PutStatus, PutSwap, PutWrite, PutPublish, TakeStatus, TakeSwap, TakeRead, TakeFree}
use Rattle.step.specs.Answer.{number_of}
use Rattle.step.specs.declared.Step.{Step}
use Rattle.step.specs.declared.Verb.{Verb}
use Rattle.step.specs.declared.Verb.TheVariants.{Get, Set, Load, Store, Swap, Put, Take, Go, GoAt}
use Rattle.verbs.specs.Verbs.{named}
use Rattle.view.specs.View.{stamp_of}
use Rattle.writes.specs.declared.Access.{Access}
use Rattle.writes.specs.declared.Access.TheVariants.{NoAccess, Reads, Writes}
use Rattle.writes.specs.declared.Write.{Write}

-- an access is of one of k cells
abbrev pub Ranged : ℕ → Access → Type 0
Ranged k NoAccess = Unit {0}
Ranged k (Reads c t) = (1 ≤ c) × (c ≤ k)
Ranged k (Writes c t v) = (1 ≤ c) × (c ≤ k)

module _ (m : Machine) (B : Bounds m.shape) where
  stamped_ranged : (p : Place) (t : ℕ) → Ranged (cells_of m) (stamped_at m.shape p t)
  unfolding cells_of slot_cell
  stamped_ranged Idle t = tt
  stamped_ranged (PutStatus h w) t = tt
  stamped_ranged (PutSwap h w) t = tt
  stamped_ranged (PutWrite h w) t = omega (arith, slot_in m.shape.slots h B.some_slot)
  stamped_ranged (PutPublish h) t = tt
  stamped_ranged (TakeStatus k) t = tt
  stamped_ranged (TakeSwap k) t = tt
  stamped_ranged (TakeRead k) t = omega (arith, slot_in m.shape.slots k B.some_slot)
  stamped_ranged (TakeFree k w) t = tt

  pub ranged : (v : Verb) (p : Place) → named m.shape v ≡ true → Ranged (cells_of m) (access_of m.shape v p)
  unfolding cells_of
  ranged (Get c t) p e = omega (arith, among_some c m.shape.plain e)
  ranged (Set c v t) p e = omega (arith, among_some c m.shape.plain e)
  ranged (Load f) p e = tt
  ranged (Store f v) p e = tt
  ranged (Swap f u v) p e = tt
  ranged (Put w) p e = tt
  ranged Take p e = tt
  ranged Go p e = tt
  ranged (GoAt t) p e = stamped_ranged p t

  module _ (ws : List Write) (K : Recalled (cells_of m) (first_of m) m ws) (s : Step) (c : ℕ)
      (e : asked m s ≡ Reads c (stamp_of (row m (s.thread - 1)) (c - 1))) where
    pub never : (r : ℕ) → 0 < r → others r (early (stands m ws) m (length ws) s (asked m s) (found_by m ws (asked m s))) ≡ true
        → number_of (step_of m ws s).done.answer ≢ r
    unfolding refusal_of found_by
    never r p n h =
        let l = past_early (stands m ws) m (length ws) s (asked m s) (found_by m ws (asked m s)) r n (sym (numbered m ws s) ∙ h) in
        let v = stamp_of (row m (s.thread - 1)) (c - 1) in
        let g = subst (Ranged (cells_of m)) e (ranged s.verb (place m (s.thread - 1)) l.0.names) in
        let d : c - 1 + 1 ≡ c = omega arith in
        let there : is_some (found_by m ws (asked m s)) ≡ true = rw e (rw d at (K.rows (s.thread - 1) (c - 1) (omega arith))) in
        let z : 0 ≡ r = rw (e, le-ltb v v (omega arith), rw e at there) at l.1 in
        omega arith
