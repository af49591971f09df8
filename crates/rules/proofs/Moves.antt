-- The moves of a machine: one field for each, and the one proof that unfolds the step. Assumes nothing.
use mathlib.Core.Path.{◌≡◌, refl, ◌∙◌}
use mathlib.Core.Bool.{Bool, true, false}
use mathlib.Core.List.{List}
use Prim.Native.Nat.{ℕ, ◌+◌, ◌-◌, ◌<◌, ◌≤◌}
use native.Mathlib.Omega.{arith}
use borrow.Author.Tests.{eqb-true, leb-false, ltb-false}
use lib.Dec.{eqb}
use lib.ListN.{length}
use Rattle.accesses.specs.Accesses.{full, outdated, amiss}
use Rattle.std.specs.Prelude.{Option, Some}
use Rattle.std.specs.Prelude as std
use Rattle.atomic.specs.Atomic.{read_atomic, swap_if, swapped_of}
use Rattle.laws.proofs.Tests.{neither}
use Rattle.places.specs.Places.{due_at}
use Rattle.rules.proofs.Access.{shown, hidden}
use Rattle.rules.proofs.Accessed.{accessed_place}
use Rattle.rules.specs.Access.{slot_cell, access_of, found_by, accessed}
use Rattle.rules.specs.Calls.{goes_on, status_name, looks, won_to, swaps, closes, resumed, won_answer, acted}
use Rattle.rules.specs.Step.{value_of, taken_by, decided_by, asked, refusal_of, decided_of, step_of}
use Rattle.rules.specs.declared.Done.{Done}
use Rattle.rules.proofs.Events.{Reading, Writing, Looking, Storing, is_reading, is_writing, is_looking, is_storing}
use Rattle.rules.proofs.Ranks.{slot_in}
use Rattle.rank.specs.Rank.{next_rank, free_status, full_status, lapped}
use Rattle.refusal.proofs.Passed.{Passed, Current, passed, among_some}
use Rattle.standing.proofs.Bounds.{Bounds, bounds}
use Rattle.standing.specs.Stands.{stands}
use Rattle.state.proofs.Changed.{Room}
use Rattle.state.specs.Fields.{with_steps}
use Rattle.state.specs.State.{row, place, with_place, atomic_at, Whole}
use Rattle.state.specs.declared.Machine.{Machine}
use Rattle.state.specs.declared.Name.{Name}
use Rattle.state.specs.declared.Name.TheVariants.{Head, Tail, Flag}
use Rattle.state.specs.declared.Place.{Place}
use Rattle.state.specs.declared.Place.TheVariants.{Idle, PutStatus, PutSwap, PutWrite, PutPublish, TakeStatus, TakeSwap, TakeRead, TakeFree}
use Rattle.step.specs.declared.Answer.{Answer}
use Rattle.step.specs.declared.Answer.TheVariants.{Dash, Ok, Value, Yes, No, None, Got, Refused}
use Rattle.step.specs.declared.LineKind.TheVariants.{Begins}
use Rattle.step.specs.Reason.{number}
use Rattle.step.specs.declared.Reason.{Reason}
use Rattle.step.specs.declared.Step.{Step}
use Rattle.step.specs.declared.Verb.{Verb}
use Rattle.step.specs.declared.Verb.TheVariants.{Get, Set, Load, Store, Swap, Put, Take, Go, GoAt}
use Rattle.verbs.specs.Verbs.{among, asks, named}
use Rattle.writes.specs.Records.{recorded}
use Rattle.writes.specs.declared.Access.TheVariants.{Reads, Writes}
use Rattle.writes.specs.declared.Write.{Write}

-- What holds after each taken step of thread i: of its verb, its answer, and the machine and list that it leaves.
pub record Moves (m : Machine) (ws : List Write) (i : ℕ) (P : Verb → Answer → Machine → List Write → Type 0) : Type 0 where
  pub gets : (c t v : ℕ) (n : Machine) → place m i ≡ Idle → (1 ≤ c) × (c ≤ m.shape.plain) → Reading m ws i c t v Idle n
      → P (Get c t) (Value v) n ws
  pub sets : (c t v : ℕ) (n : Machine) (us : List Write) → place m i ≡ Idle → (1 ≤ c) × (c ≤ m.shape.plain) → Writing m ws i c t v Idle n us
      → P (Set c v t) Ok n us
  pub loads : (b f : ℕ) (n : Machine) → place m i ≡ Idle → Looking m i (Flag f) Idle n → P (Load b) (Value (atomic_at m (Flag f)).value) n ws
  pub stores : (b f x : ℕ) (n : Machine) → place m i ≡ Idle → Storing m i (Flag f) x Idle n → P (Store b x) Ok n ws
  pub swap_wins : (b f u x : ℕ) (n : Machine) → place m i ≡ Idle → Storing m i (Flag f) x Idle n → P (Swap b u x) Yes n ws
  pub swap_loses : (b f u x : ℕ) (n : Machine) → place m i ≡ Idle → Looking m i (Flag f) Idle n → P (Swap b u x) No n ws
  pub put_begins : (w : ℕ) (n : Machine) → place m i ≡ Idle → Looking m i Head (PutStatus m.head.value w) n → P (Put w) Dash n ws
  pub put_sees : (h w : ℕ) (n : Machine) → place m i ≡ PutStatus h w → (atomic_at m (status_name m h)).value ≡ free_status h
      → Looking m i (status_name m h) (PutSwap h w) n → P Go Dash n ws
  pub put_stops : (h w : ℕ) (n : Machine) → place m i ≡ PutStatus h w → Looking m i (status_name m h) Idle n → P Go No n ws
  pub put_wins : (h w : ℕ) (n : Machine) → place m i ≡ PutSwap h w → m.head.value ≡ h → Storing m i Head (next_rank h) (PutWrite h w) n
      → P Go Dash n ws
  pub put_loses : (h w : ℕ) (n : Machine) → place m i ≡ PutSwap h w → Looking m i Head Idle n → P Go No n ws
  pub put_writes : (h w t : ℕ) (n : Machine) (us : List Write) → place m i ≡ PutWrite h w
      → Writing m ws i (slot_cell m.shape h) t w (PutPublish h) n us → P (GoAt t) Dash n us
  pub put_ends : (h : ℕ) (n : Machine) → place m i ≡ PutPublish h → Storing m i (status_name m h) (full_status h) Idle n → P Go Yes n ws
  pub take_begins : (n : Machine) → place m i ≡ Idle → Looking m i Tail (TakeStatus m.tail.value) n → P Take Dash n ws
  pub take_sees : (t : ℕ) (n : Machine) → place m i ≡ TakeStatus t → (atomic_at m (status_name m t)).value ≡ full_status t
      → Looking m i (status_name m t) (TakeSwap t) n → P Go Dash n ws
  pub take_stops : (t : ℕ) (n : Machine) → place m i ≡ TakeStatus t → Looking m i (status_name m t) Idle n → P Go None n ws
  pub take_wins : (t : ℕ) (n : Machine) → place m i ≡ TakeSwap t → m.tail.value ≡ t → Storing m i Tail (next_rank t) (TakeRead t) n
      → P Go Dash n ws
  pub take_loses : (t : ℕ) (n : Machine) → place m i ≡ TakeSwap t → Looking m i Tail Idle n → P Go None n ws
  pub take_reads : (t s w : ℕ) (n : Machine) → place m i ≡ TakeRead t → Reading m ws i (slot_cell m.shape t) s w (TakeFree t w) n
      → P (GoAt s) Dash n ws
  pub take_ends : (t w : ℕ) (n : Machine) → place m i ≡ TakeFree t w
      → Storing m i (status_name m t) (free_status (lapped m.shape.slots t)) Idle n → P Go (Got w) n ws

-- a call or an access begins at an idle place only
idle : (p : Place) → Begins ≡ due_at p → p ≡ Idle
idle Idle e = refl
idle p e = cc

module _ (m : Machine) (ws : List Write) (i : ℕ) (P : Verb → Answer → Machine → List Write → Type 0) (W : Whole m) (B : Bounds m.shape)
    (l : i < 8) (k : ℕ) (A : Moves m ws i P) where
  abbrev Left : Verb → Done → List Write → Type 0
  Left v d us = P v d.answer (with_steps d.machine k) us

  -- second of a call
  looked : (r due : ℕ) (q : Place) (lost : Answer)
      → ((n : Machine) → (atomic_at m (status_name m r)).value ≡ due → Looking m i (status_name m r) q n → P Go Dash n ws)
      → ((n : Machine) → Looking m i (status_name m r) Idle n → P Go lost n ws)
      → Left Go (looks m i r due q lost) ws
  unfolding looks goes_on
  looked r due q lost f g = go (eqb (atomic_at m (status_name m r)).value due) refl
    where
      go : (z : Bool) → eqb (atomic_at m (status_name m r)).value due ≡ z → Left Go (goes_on z (read_atomic m i (status_name m r)) i q lost) ws
      go true e = f _ (eqb-true _ _ e) (is_looking m i W l q k (status_name m r))
      go false e = g _ (is_looking m i W l Idle k (status_name m r))

  -- third of a call
  swapped : (a : Name) (r : ℕ) (q : Place) (lost : Answer) → Room a
      → ((n : Machine) → (atomic_at m a).value ≡ r → Storing m i a (next_rank r) q n → P Go Dash n ws)
      → ((n : Machine) → Looking m i a Idle n → P Go lost n ws)
      → Left Go (swaps m i a r q lost) ws
  unfolding swaps goes_on swapped_of
  swapped a r q lost room f g = go (eqb (atomic_at m a).value r) refl
    where
      go : (z : Bool) → eqb (atomic_at m a).value r ≡ z → Left Go (won_to (swap_if z m i a (next_rank r)) i q lost) ws
      go true e = f _ (eqb-true _ _ e) (is_storing m i W l q k a (next_rank r) room)
      go false e = g _ (is_looking m i W l Idle k a)

  -- a swap of a flag
  exchanged : (b f u x : ℕ) → f < 8 → place m i ≡ Idle → Left (Swap b u x) (won_answer (swapped_of m i (Flag f) u x) i) ws
  unfolding swapped_of
  exchanged b f u x h e = go (eqb (atomic_at m (Flag f)).value u)
    where
      go : (z : Bool) → Left (Swap b u x) (won_answer (swap_if z m i (Flag f) x) i) ws
      go true = A.swap_wins b f u x _ e (is_storing m i W l Idle k (Flag f) x h)
      go false = A.swap_loses b f u x _ e (is_looking m i W l Idle k (Flag f))

  flagged : (f : ℕ) → among f m.shape.flags ≡ true → f - 1 < 8
  flagged f e = omega (arith, among_some _ _ e, B.flags)

  slotted : (r : ℕ) → Room (status_name m r)
  slotted r = omega (arith, slot_in m.shape.slots r B.some_slot, B.slots)

  -- a plain read and a plain write that no test refuses
  fetched : (c t : ℕ) (q : Place) → outdated (Reads c t) (row m i) ≡ false → amiss (Reads c t) (found_by m ws (Reads c t)) ≡ false
      → Reading m ws i c t (value_of (found_by m ws (Reads c t))) q (with_steps (with_place m i q) k)
  unfolding found_by
  fetched c t q o f = is_reading m i W l q k ws c t _ (ltb-false _ _ o) (shown _ f)

  filed : (c t v : ℕ) (q : Place) → full (Writes c t v) m.held (length ws) ≡ false → outdated (Writes c t v) (row m i) ≡ false
      → amiss (Writes c t v) (found_by m ws (Writes c t v)) ≡ false
      → Writing m ws i c t v q (with_steps (with_place (accessed m i (Writes c t v)) i q) k) (recorded (Writes c t v) m.held ws)
  unfolding found_by
  filed c t v q r o f = is_writing m i W l q k ws c t v (leb-false _ _ (neither _ _ r).1) (leb-false _ _ o) (hidden _ f)

  -- a verb that no test refuses, of a thread at place p
  by_verb : (v : Verb) (p : Place) → place m i ≡ p → asks v ≡ due_at p → named m.shape v ≡ true
      → full (access_of m.shape v p) m.held (length ws) ≡ false → outdated (access_of m.shape v p) (row m i) ≡ false
      → amiss (access_of m.shape v p) (found_by m ws (access_of m.shape v p)) ≡ false
      → Left v (acted (accessed m i (access_of m.shape v p)) i v (value_of (found_by m ws (access_of m.shape v p))))
      (recorded (access_of m.shape v p) m.held ws)
  unfolding acted accessed recorded resumed closes atomic_at
  by_verb (Get c t) p e d n f o a = A.gets c t _ _ (e ∙ idle p d) (among_some _ _ n) (fetched c t Idle o a)
  by_verb (Set c v t) p e d n f o a = A.sets c t v _ _ (e ∙ idle p d) (among_some _ _ n) (filed c t v Idle f o a)
  by_verb (Load x) p e d n f o a = A.loads x (x - 1) _ (e ∙ idle p d) (is_looking m i W l Idle k (Flag (x - 1)))
  by_verb (Store x v) p e d n f o a =
      A.stores x (x - 1) v _ (e ∙ idle p d) (is_storing m i W l Idle k (Flag (x - 1)) v (flagged x n))
  by_verb (Swap x u v) p e d n f o a = exchanged x (x - 1) u v (flagged x n) (e ∙ idle p d)
  by_verb (Put w) p e d n f o a = A.put_begins w _ (e ∙ idle p d) (is_looking m i W l _ k Head)
  by_verb Take p e d n f o a = A.take_begins _ (e ∙ idle p d) (is_looking m i W l _ k Tail)
  by_verb Go (PutStatus h w) e d n f o a = rw e (looked h (free_status h) (PutSwap h w) No (λ x. A.put_sees h w x e) (λ x. A.put_stops h w x e))
  by_verb Go (PutSwap h w) e d n f o a = rw e (swapped Head h (PutWrite h w) No tt (λ x. A.put_wins h w x e) (λ x. A.put_loses h w x e))
  by_verb Go (PutPublish h) e d n f o a = rw e (A.put_ends h _ e (is_storing m i W l Idle k (status_name m h) (full_status h) (slotted h)))
  by_verb Go (TakeStatus t) e d n f o a = rw e (looked t (full_status t) (TakeSwap t) None (λ x. A.take_sees t x e) (λ x. A.take_stops t x e))
  by_verb Go (TakeSwap t) e d n f o a = rw e (swapped Tail t (TakeRead t) None tt (λ x. A.take_wins t x e) (λ x. A.take_loses t x e))
  by_verb Go (TakeFree t w) e d n f o a =
      rw e (A.take_ends t w _ e (is_storing m i W l Idle k (status_name m t) (free_status (lapped m.shape.slots t)) (slotted t)))
  by_verb Go p e d n f o a = absurd cc
  by_verb (GoAt z) (PutWrite h w) e d n f o a =
      rw (accessed_place m i (Writes (slot_cell m.shape h) z w) i, e)
      (A.put_writes h w z _ _ e (filed (slot_cell m.shape h) z w (PutPublish h) f o a))
  by_verb (GoAt z) (TakeRead t) e d n f o a = rw e (A.take_reads t z _ _ e (fetched (slot_cell m.shape t) z (TakeFree t _) o a))
  by_verb (GoAt z) p e d n f o a = absurd cc

-- what a step leaves: nothing new if it is refused, else what its move says
pub by_moves : (m : Machine) (ws : List Write) (s : Step) (P : Verb → Answer → Machine → List Write → Type 0) → Whole m
    → ((r : Reason) → P s.verb (Refused (number r)) m ws)
    → (s.thread - 1 < m.shape.threads → Moves m ws (s.thread - 1) P)
    → P s.verb (step_of m ws s).done.answer (step_of m ws s).done.machine (step_of m ws s).writes
unfolding step_of decided_of taken_by recorded refusal_of
by_moves m ws s P W still A = go (refusal_of m ws s) refl
  where
    i : ℕ
    i = s.thread - 1

    taken : Passed (stands m ws) m (length ws) s (asked m s) (found_by m ws (asked m s)) × Current (stands m ws) m (length ws) s (asked m s) (found_by m ws (asked m s))
        → P s.verb (taken_by m s (asked m s) (found_by m ws (asked m s))).answer (taken_by m s (asked m s) (found_by m ws (asked m s))).machine
        (recorded (asked m s) m.held ws)
    taken (t, c) =
        let B = bounds m ws t.stands in
        by_verb m ws i P W B (omega (arith, t.thread, B.threads)) (m.steps + 1) (A (omega (arith, t.thread))) s.verb (place m i) refl
        t.due t.names t.room c.0 c.1

    go : (o : Option Reason) → refusal_of m ws s ≡ o
        → P s.verb (decided_by o m s (asked m s) (found_by m ws (asked m s))).done.answer
        (decided_by o m s (asked m s) (found_by m ws (asked m s))).done.machine
        (recorded (decided_by o m s (asked m s) (found_by m ws (asked m s))).wrote m.held ws)
    go std.None e = taken (passed _ _ _ _ _ _ e)
    go (Some r) e = still r
