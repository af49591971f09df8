-- The plain access of a step: what it reads and what it writes fits. Assumes nothing.
use mathlib.Core.Path.{◌≡◌, refl}
use mathlib.Core.Bool.{Bool, true, false, not}
use mathlib.Core.List.{List}
use Prim.Native.Nat.{ℕ, zero, suc, ◌-◌, ◌<◌, ◌≤◌}
use native.Mathlib.Omega.{arith}
use native.Mathlib.Decide.{dec_lt}
use borrow.Author.Tests.{leb-true, leb-false, le-leb, le-ltb}
use lib.Dec.{eqb}
use lib.ListN.{length}
use Rattle.std.specs.Prelude.{Option, Some, None, is_some}
use Rattle.std.specs.Bool.{then_some}
use Rattle.accesses.specs.Accesses.{full}
use Rattle.parts.specs.Parts.{firsts_stand}
use Rattle.rules.proofs.Parts.{row_fits, held_fits}
use Rattle.rules.proofs.Standing.{NotesFit, Fits, slot_in}
use Rattle.refusal.proofs.Passed.{among_some}
use Rattle.rules.proofs.Views.{stamped_stands}
use Rattle.laws.proofs.Tests.{apart, together, neither, each}
use Rattle.laws.specs.Tests.{◌and◌, all_below}
use Rattle.rules.specs.Access.{slot_cell, stamped_at, access_of, found_by, accessed}
use Rattle.rules.specs.Step.{value_of}
use Rattle.state.specs.State.{cells_of, row, with_row, first_of}
use Rattle.state.specs.declared.Machine.{Machine}
use Rattle.state.specs.declared.Place.{Place}
use Rattle.state.specs.declared.Place.TheVariants.{Idle, PutStatus, PutSwap, PutWrite, PutPublish, TakeStatus, TakeSwap, TakeRead, TakeFree}
use Rattle.step.specs.Limit.{most}
use Rattle.step.specs.declared.Verb.{Verb}
use Rattle.step.specs.declared.Verb.TheVariants.{Get, Set, Load, Store, Swap, Put, Take, Go, GoAt}
use Rattle.verbs.specs.Verbs.{named, greatest}
use Rattle.view.specs.View.{with_stamp}
use Rattle.writes.specs.History.{earlier, shown_by, found, record_stands, records_stand}
use Rattle.writes.specs.Records.{write, recorded}
use Rattle.writes.specs.declared.Access.{Access}
use Rattle.writes.specs.declared.Access.TheVariants.{NoAccess, Reads, Writes}
use Rattle.writes.specs.declared.Write.{Write}

-- what a plain access found whose test of refusal 13 does not hold
pub shown : (f : Option ℕ) → not (is_some f) ≡ false → f ≡ Some (value_of f)
shown None e = cc
shown (Some v) e = refl

pub hidden : (f : Option ℕ) → is_some f ≡ false → f ≡ None
hidden None e = refl
hidden (Some v) e = cc

-- what a plain write may be, of k cells
abbrev pub AccessFits : ℕ → Access → Type 0
AccessFits k NoAccess = Unit {0}
AccessFits k (Reads c t) = Unit {0}
AccessFits k (Writes c t v) = (1 ≤ c) × (c ≤ k) × (t ≤ most) × (v ≤ most)

-- the record of a plain write that fits stands
record_stands_lem : (k c t v : ℕ) → AccessFits k (Writes c t v) → record_stands k (write c t v) ≡ true
unfolding record_stands
record_stands_lem k c t v h =
    together _ _ (le-leb _ _ h.0) (together _ _ (le-leb _ _ h.1) (together _ _ (le-leb _ _ h.2) (le-leb _ _ h.3)))

-- of two searches that find values in range
earlier_fits : (f g : Option ℕ) → value_of f ≤ most → value_of g ≤ most → value_of (earlier f g) ≤ most
earlier_fits None g p q = q
earlier_fits (Some v) g p q = p

-- a value in range, found or not
present_fits : (b : Bool) (v : ℕ) → v ≤ most → value_of (then_some b v) ≤ most
present_fits true v h = h
present_fits false v h = omega arith

-- what a record that stands shows
shown_fits : (k : ℕ) (w : Write) (c t : ℕ) → record_stands k w ≡ true → value_of (shown_by w c t) ≤ most
unfolding shown_by record_stands
shown_fits k w c t e =
    present_fits (eqb w.cell c and eqb w.stamp t) w.value (leb-true _ _ (apart _ _ (apart _ _ (apart _ _ e).1).1).1)

-- what a search finds in records that stand
found_fits : (k first : ℕ) (ws : List Write) (c t n : ℕ) → first ≤ most → records_stand k ws n ≡ true → value_of (found first ws c t n) ≤ most
unfolding found records_stand all_below
found_fits k first ws c t zero h e = present_fits (eqb t 0) first h
found_fits k first ws c t (suc n) h e =
    let a = apart _ _ e in
    earlier_fits (found first ws c t n) _ (found_fits k first ws c t n h a.0) (shown_fits k _ c t a.1)

-- past the plain cells every first value is 0
given_past : (i : ℕ) (m : Machine) → m.shape.plain ≤ i → first_of m i ≤ most
unfolding first_of
given_past i m h = rw (le-ltb i m.shape.plain h) (omega arith)

module _ (n : ℕ) (m : Machine) (ws : List Write) (fits : Fits n m ws) where
  -- the first value of any cell
  pub first_fits : (i : ℕ) → first_of m i ≤ most
  unfolding firsts_stand
  first_fits i = go (dec_lt i m.shape.plain)
    where
      go : Dec (i < m.shape.plain) → first_of m i ≤ most
      go (yes l) = leb-true _ _ (each _ _ fits.firsts i l)
      go (no l) = given_past i m (omega arith)

  -- the value that a plain read finds
  pub value_fits : (a : Access) → value_of (found_by m ws a) ≤ most
  unfolding found_by
  value_fits a = found_fits _ _ ws _ _ m.held (first_fits _) fits.records

  -- the access of a `go` with a stamp at a place
  stamped_fits : (p : Place) (t : ℕ) → NotesFit n p → t ≤ most → AccessFits (cells_of m) (stamped_at m.shape p t)
  unfolding slot_cell cells_of
  stamped_fits Idle t h r = tt
  stamped_fits (PutStatus k w) t h r = tt
  stamped_fits (PutSwap k w) t h r = tt
  stamped_fits (PutWrite k w) t h r = (omega arith, omega (arith, slot_in n m ws fits k), r, h.1)
  stamped_fits (PutPublish k) t h r = tt
  stamped_fits (TakeStatus k) t h r = tt
  stamped_fits (TakeSwap k) t h r = tt
  stamped_fits (TakeRead k) t h r = tt
  stamped_fits (TakeFree k w) t h r = tt

  -- the access that a verb makes at a place
  pub access_fits : (x : Verb) (p : Place) → NotesFit n p → named m.shape x ≡ true → greatest x ≤ most
      → AccessFits (cells_of m) (access_of m.shape x p)
  unfolding cells_of
  access_fits (Get c t) p h e r = tt
  access_fits (Set c v t) p h e r =
      let a = among_some c m.shape.plain e in
      (a.0, omega (arith, a.1), omega arith, omega arith)
  access_fits (Load f) p h e r = tt
  access_fits (Store f v) p h e r = tt
  access_fits (Swap f u v) p h e r = tt
  access_fits (Put w) p h e r = tt
  access_fits Take p h e r = tt
  access_fits Go p h e r = tt
  access_fits (GoAt t) p h e r = stamped_fits p t h r

  -- the state and the list after an access
  pub accessed_fits : (i : ℕ) (a : Access) → i < m.shape.threads → full a m.held (length ws) ≡ false → AccessFits (cells_of m) a
      → Fits n (accessed m i a) (recorded a m.held ws)
  unfolding accessed recorded with_row cells_of
  accessed_fits i NoAccess l e h = fits
  accessed_fits i (Reads c t) l e h = fits
  accessed_fits i (Writes c t v) l e h =
      let free = neither _ _ e in
      let seen = with_stamp (row m i) (c - 1) t in
      held_fits n (with_row m i seen) ws (write c t v) (row_fits n m ws i seen fits (stamped_stands _ (row m i) _ _ (fits.rows i l) h.2))
      (leb-false _ _ free.0) (leb-false _ _ free.1) (record_stands_lem _ c t v h)
