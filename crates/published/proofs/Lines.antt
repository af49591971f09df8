-- Each line of a schedule makes one event of its code, at the thread's place. Assumes nothing.
use mathlib.Core.Path.{◌≡◌, refl}
use mathlib.Core.Bool.{Bool, true, false}
use mathlib.Core.List.{List}
use mathlib.Core.Logic.{◌≢◌, inl, inr}
use Prim.Native.Nat.{ℕ, ◌+◌, ◌-◌, ◌*◌, ◌<◌}
use native.Mathlib.Omega.{arith}
use native.Mathlib.Nat.{mod-lt}
use borrow.Author.Tests.{leb-false, ltb-false, eqb-true, eqb-false}
use lib.Dec.{eqb}
use lib.ListN.{length}
use Rattle.accesses.specs.Accesses.{full}
use Rattle.atomic.specs.Atomic.{read_atomic, swap_if, swapped_of}
use Rattle.places.specs.Places.{due_at}
use Rattle.rules.proofs.Access.{shown, hidden}
use Rattle.rules.specs.Access.{slot_cell, access_of, found_by, accessed}
use Rattle.rules.specs.Calls.{ends, goes_on, looks, won_to, swaps, closes, resumed, won_answer, acted}
use Rattle.rules.specs.Step.{value_of, counted}
use Rattle.rules.specs.declared.Done.{Done}
use Rattle.published.proofs.Admission.{Fits}
use Rattle.refusal.proofs.Passed.{among_some}
use Rattle.rules.proofs.Accessed.{accessed_place}
use Rattle.laws.proofs.Tests.{neither}
use Rattle.standing.proofs.Bounds.{Bounds}
use Rattle.published.proofs.Made.{Made, read_plain, write_plain, read_atomic_lem, write_atomic_lem, win, lose}
use Rattle.published.specs.Calls.{Code, if_code, item, status, rest_of, code_of, stamp_in, answers, reads, writes, reads_at, writes_at, swaps_at}
use Rattle.published.specs.Follows.{Left}
use Rattle.published.specs.Memory.{Loc, Has}
use Rattle.rank.specs.Rank.{slot_of, next_rank, free_status, full_status, lapped}
use Rattle.state.specs.State.{place, atomic_at, Whole}
use Rattle.state.specs.declared.Machine.{Machine}
use Rattle.state.specs.declared.Name.{Name}
use Rattle.state.specs.declared.Name.TheVariants.{Head, Tail, Flag}
use Rattle.state.specs.declared.Place.{Place}
use Rattle.state.specs.declared.Place.TheVariants.{Idle, PutStatus, PutSwap, PutWrite, PutPublish, TakeStatus, TakeSwap, TakeRead, TakeFree}
use Rattle.step.specs.declared.Answer.{Answer}
use Rattle.step.specs.declared.Answer.TheVariants.{Dash, Ok, Yes, No, None, Got}
use Rattle.step.specs.declared.Verb.{Verb}
use Rattle.step.specs.declared.Verb.TheVariants.{Get, Set, Load, Store, Swap, Put, Take, Go, GoAt}
use Rattle.verbs.specs.Verbs.{among, asks, named}
use Rattle.writes.specs.Records.{recorded}
use Rattle.writes.specs.declared.Access.TheVariants.{Reads, Writes}
use Rattle.writes.specs.declared.Write.{Write}

module _ (m : Machine) (ws : List Write) (i : ℕ) (W : Whole m) (B : Bounds m.shape) (l : i < 8) (k : ℕ) where
  -- thread i has run a code up to what was done
  abbrev pub Runs : Code → ℕ → Done → List Write → Type 0
  Runs c t d us = Made m ws i c t (counted k d) us

  -- a call or an access ends
  over : (a : Answer) → Left m.shape Idle a (answers a)
  over a = inl (refl, refl)

  -- a call goes on
  on : (p : Place) → p ≢ Idle → Left m.shape p Dash (rest_of m.shape p)
  on p n = inr (n, refl, refl)

  -- the status of a rank is there
  slotted : (j : ℕ) → Has m.shape (status m.shape j)
  slotted j = mod-lt j B.some_slot

  -- second of a call
  looked : (j due t : ℕ) (p : Place) (lost : Answer) → p ≢ Idle
      → Runs (reads_at (status m.shape j) (λ x. if_code (eqb x due) (rest_of m.shape p) (answers lost))) t (looks m i j due p lost) ws
  unfolding looks goes_on slot_of
  looked j due t p lost h = go (eqb (atomic_at m (status m.shape j)).value due) refl
    where
      go : (z : Bool) → eqb (atomic_at m (status m.shape j)).value due ≡ z
          → Runs (reads_at (status m.shape j) (λ x. if_code (eqb x due) (rest_of m.shape p) (answers lost))) t
          (goes_on z (read_atomic m i (status m.shape j)) i p lost) ws
      go true e = read_atomic_lem m ws i W B l k _ t _ p Dash (slotted j) (rw e (on p h))
      go false e = read_atomic_lem m ws i W B l k _ t _ Idle lost (slotted j) (rw e (over lost))

  -- third of a call
  swapped : (A : Name) (j t : ℕ) (p : Place) (lost : Answer) → Has m.shape A → p ≢ Idle
      → Runs (swaps_at A j (j + 1) (rest_of m.shape p) (answers lost)) t (swaps m i A j p lost) ws
  unfolding swaps goes_on swapped_of next_rank
  swapped A j t p lost room h = go (eqb (atomic_at m A).value j) refl
    where
      go : (z : Bool) → eqb (atomic_at m A).value j ≡ z
          → Runs (swaps_at A j (j + 1) (rest_of m.shape p) (answers lost)) t (won_to (swap_if z m i A (j + 1)) i p lost) ws
      go true e = win m ws i W B l k A t j _ _ _ p Dash room (eqb-true _ _ e) (on p h)
      go false e = lose m ws i W B l k A t j _ _ _ Idle lost room (eqb-false _ _ e) (over lost)

  -- fifth of a call
  closed : (j x t : ℕ) (a : Answer) → Runs (writes_at (status m.shape j) x (answers a)) t (closes m i j x a) ws
  unfolding closes slot_of
  closed j x t a = write_atomic_lem m ws i W B l k _ t x _ Idle a (slotted j) (over a)

  -- a swap of a flag
  exchanged : (A : Name) (u x t : ℕ) → Has m.shape A → Runs (swaps_at A u x (answers Yes) (answers No)) t (won_answer (swapped_of m i A u x) i) ws
  unfolding swapped_of
  exchanged A u x t room = go (eqb (atomic_at m A).value u) refl
    where
      go : (z : Bool) → eqb (atomic_at m A).value u ≡ z → Runs (swaps_at A u x (answers Yes) (answers No)) t (won_answer (swap_if z m i A x) i) ws
      go true e = win m ws i W B l k A t u x _ _ Idle Yes room (eqb-true _ _ e) (over Yes)
      go false e = lose m ws i W B l k A t u x _ _ Idle No room (eqb-false _ _ e) (over No)

  -- a plain read that no test refuses
  fetched : (c t : ℕ) (f : ℕ → Code) (p : Place) (a : Answer) → Loc m.shape c → Fits m ws i (Reads c t)
      → Left m.shape p a (f (value_of (found_by m ws (Reads c t)))) → Runs (reads c f) t (ends m i p a) ws
  unfolding found_by
  fetched c t f p a h o r = read_plain m ws i W B l k c t _ f p a h (shown _ o.1) (ltb-false _ _ o.0) r

  -- a plain write that no test refuses
  stored : (c t v : ℕ) (d : Code) (p : Place) (a : Answer) → Loc m.shape c → full (Writes c t v) m.held (length ws) ≡ false
      → Fits m ws i (Writes c t v) → Left m.shape p a d
      → Runs (writes c v d) t (ends (accessed m i (Writes c t v)) i p a) (recorded (Writes c t v) m.held ws)
  unfolding found_by
  stored c t v d p a h f o r =
      write_plain m ws i W B l k c t v d p a h (leb-false _ _ (neither _ _ f).1) (hidden _ o.1) (leb-false _ _ o.0) r

  -- the locations that lines name
  flagged : (f : ℕ) → among f m.shape.flags ≡ true → Has m.shape (Flag (f - 1))
  flagged f e = omega (arith, among_some _ _ e)

  celled : (c : ℕ) → among c m.shape.plain ≡ true → Loc m.shape c
  celled c e = omega (arith, among_some _ _ e)

  itemed : (j : ℕ) → Loc m.shape (item m.shape j)
  itemed j = omega (arith, mod-lt j B.some_slot)

  -- a verb that no test refuses, for a thread at place p
  pub by_verb : (v : Verb) (p : Place) → place m i ≡ p → asks v ≡ due_at p → named m.shape v ≡ true
      → full (access_of m.shape v p) m.held (length ws) ≡ false → Fits m ws i (access_of m.shape v p)
      → Runs (code_of m.shape v p) (stamp_in v)
      (acted (accessed m i (access_of m.shape v p)) i v (value_of (found_by m ws (access_of m.shape v p)))) (recorded (access_of m.shape v p) m.held ws)
  unfolding acted accessed recorded resumed slot_cell slot_of free_status full_status lapped atomic_at
  by_verb (Get c t) p e d n f o = fetched c t _ Idle _ (celled c n) o (over _)
  by_verb (Set c v t) p e d n f o = stored c t v _ Idle Ok (celled c n) f o (over Ok)
  by_verb (Load x) p e d n f o = read_atomic_lem m ws i W B l k (Flag (x - 1)) 0 _ Idle _ (flagged x n) (over _)
  by_verb (Store x v) p e d n f o = write_atomic_lem m ws i W B l k (Flag (x - 1)) 0 v _ Idle Ok (flagged x n) (over Ok)
  by_verb (Swap x u v) p e d n f o = exchanged (Flag (x - 1)) u v 0 (flagged x n)
  by_verb (Put w) p e d n f o = read_atomic_lem m ws i W B l k Head 0 _ _ Dash tt (on (PutStatus m.head.value w) (λ x. cc))
  by_verb Take p e d n f o = read_atomic_lem m ws i W B l k Tail 0 _ _ Dash tt (on (TakeStatus m.tail.value) (λ x. cc))
  by_verb Go (PutStatus h w) e d n f o = rw e (looked h (2 * h) 0 (PutSwap h w) No (λ x. cc))
  by_verb Go (PutSwap h w) e d n f o = rw e (swapped Head h 0 (PutWrite h w) No tt (λ x. cc))
  by_verb Go (PutPublish h) e d n f o = rw e (closed h (2 * h + 1) 0 Yes)
  by_verb Go (TakeStatus t) e d n f o = rw e (looked t (2 * t + 1) 0 (TakeSwap t) None (λ x. cc))
  by_verb Go (TakeSwap t) e d n f o = rw e (swapped Tail t 0 (TakeRead t) None tt (λ x. cc))
  by_verb Go (TakeFree t w) e d n f o = rw e (closed t (2 * (t + m.shape.slots)) 0 (Got w))
  by_verb Go p e d n f o = absurd cc
  by_verb (GoAt z) (PutWrite h w) e d n f o =
      rw (accessed_place m i (Writes (item m.shape h) z w) i, e) (stored (item m.shape h) z w _ (PutPublish h) Dash (itemed h) f o (on (PutPublish h) (λ x. cc)))
  by_verb (GoAt z) (TakeRead t) e d n f o = rw e (fetched (item m.shape t) z _ _ Dash (itemed t) o (on (TakeFree t _) (λ x. cc)))
  by_verb (GoAt z) p e d n f o = absurd cc
