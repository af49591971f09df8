-- A code that thread i runs makes its event by a memory rule and is left, one law for each kind of event. Assumes nothing.
use mathlib.Core.Path.{◌≡◌, refl, sym, ap, ◌∙◌, subst}
use mathlib.Core.List.{List}
use mathlib.Core.Logic.{◌≢◌}
use Prim.Native.Nat.{ℕ, ◌-◌, ◌<◌, ◌≤◌}
use native.Mathlib.Omega.{arith}
use lib.ListN.{length, get_or}
use Rattle.std.specs.Prelude.{Some, None}
use Rattle.laws.proofs.Lists.{set_length, set_here, set_else}
use Rattle.atomic.specs.Atomic.{told, met, read_atomic, write_atomic}
use Rattle.rules.specs.Access.{accessed}
use Rattle.rules.specs.Calls.{ends}
use Rattle.rules.specs.Step.{counted}
use Rattle.rules.specs.declared.Done.{Done}
use Rattle.standing.proofs.Bounds.{Bounds}
use Rattle.published.proofs.Rules.{settled, reads_plain, writes_plain, reads_atomic, writes_atomic, swaps_atomic, row_written}
use Rattle.state.proofs.Changed.{row_else, place_here, place_else, atomic_leaves}
use Rattle.published.specs.Calls.{write, Code, Makes, reads, writes, reads_at, writes_at, swaps_at, read, read_at, write_at, swap_won, swap_lost}
use Rattle.published.specs.Follows.{store_of, stamps_of, Left, Listed}
use Rattle.published.specs.Memory.{Loc, Has, Memory, Event, Rule}
use Rattle.state.specs.State.{atomic, at, row, with_row, place, with_place, atomic_at, first_of, Whole}
use Rattle.state.specs.declared.Machine.{Machine}
use Rattle.state.specs.declared.Name.{Name}
use Rattle.state.specs.declared.Place.{Place}
use Rattle.state.specs.declared.Place.TheVariants.{Idle}
use Rattle.state.specs.declared.Thread.{Thread}
use Rattle.step.specs.declared.Answer.{Answer}
use Rattle.view.specs.View.{stamp_of, with_stamp}
use Rattle.writes.specs.History.{found}
use Rattle.writes.specs.Records.{no_write, recorded}
use Rattle.writes.specs.declared.Access.TheVariants.{Writes}
use Rattle.writes.specs.declared.Write.{Write}

-- thread i ran a code from a machine and a list; this was done, and left another list
pub record Made (m : Machine) (ws : List Write) (i : ℕ) (c : Code) (t : ℕ) (d : Done) (us : List Write) : Type 0 where
  pub event : Event
  pub left : Code
  pub makes : Makes c t event left
  pub rule : Rule m.shape (store_of m ws) (stamps_of m i) event (store_of d.machine us) (stamps_of d.machine i)
  pub rest : Left m.shape (place d.machine i) d.answer left
  pub others : (j : ℕ) → j ≢ i → (row d.machine j ≡ row m j) × (place d.machine j ≡ place m j)
  pub list : Listed event m.held ws d.machine.held us

-- a machine in which no thread has gone on, and thread i's view alone may have changed
record Alone (m : Machine) (i : ℕ) (n : Machine) : Type 0 where
  threads : n.threads ≡ m.threads
  rows : (j : ℕ) → j ≢ i → row n j ≡ row m j

module _ (m : Machine) (ws : List Write) (i : ℕ) (W : Whole m) (B : Bounds m.shape) (l : i < 8) (k : ℕ) where
  -- thread i goes to its place, is answered, and the step is counted
  ended : (c : Code) (t : ℕ) (e : Event) (d : Code) (n : Machine) (us : List Write) (p : Place) (a : Answer) → Makes c t e d
      → Rule m.shape (store_of m ws) (stamps_of m i) e (store_of n us) (stamps_of n i) → Left m.shape p a d → Alone m i n
      → Listed e m.held ws n.held us → Made m ws i c t (counted k (ends n i p a)) us
  unfolding row place with_place
  ended c t e d n us p a makes rule rest alone list = record {
    event = e;
    left = d;
    makes = makes;
    rule = subst (λ (σ : Memory). Rule m.shape (store_of m ws) (stamps_of m i) e σ (stamps_of n i)) (sym (settled n us i p k)) rule;
    rest = subst (λ (q : Place). Left m.shape q a d) (sym (place_here n i p (rw alone.threads (omega (arith, W.threads))))) rest;
    others = λ j o. (alone.rows j o, place_else n i j p o ∙ ap (λ (ts : List Thread). (get_or ts j (at Idle)).place) alone.threads);
    list = list;
  }

  -- what each kind of event changes
  wrote : (c t v : ℕ) → Alone m i (accessed m i (Writes c t v))
  unfolding accessed row with_row
  wrote c t v = record { threads = refl; rows = λ j o. row_else m i j (with_stamp (row m i) (c - 1) t) o }

  seen : (A : Name) → Alone m i (read_atomic m i A)
  unfolding read_atomic with_row
  seen A = record { threads = refl; rows = λ j o. row_else m i j (met m i A) o }

  gave : (A : Name) (x : ℕ) → Alone m i (write_atomic m i A x)
  unfolding write_atomic read_atomic
  gave A x = record {
    threads = atomic_leaves (λ s h f vs ts. ts) (read_atomic m i A) A (atomic x (told m i A)) ∙ (seen A).threads;
    rows = λ j o. row_written m i A x j ∙ (seen A).rows j o;
  }

  -- how many writes an atomic write leaves held
  gave_held : (A : Name) (x : ℕ) → (write_atomic m i A x).held ≡ m.held
  unfolding write_atomic read_atomic with_row
  gave_held A x = atomic_leaves (λ s h f vs ts. h) (read_atomic m i A) A (atomic x (told m i A))

  -- a plain read, a plain write
  pub read_plain : (c t v : ℕ) (f : ℕ → Code) (p : Place) (a : Answer) → Loc m.shape c → found (first_of m (c - 1)) ws c t m.held ≡ Some v
      → stamp_of (row m i) (c - 1) ≤ t → Left m.shape p a (f v) → Made m ws i (reads c f) t (counted k (ends m i p a)) ws
  read_plain c t v f p a o h b r =
      ended _ t _ (f v) m ws p a (read c f t v) (reads_plain m ws i W B l c t v o h b) r (record { threads = refl; rows = λ j o. refl }) (refl, refl)

  pub write_plain : (c t v : ℕ) (d : Code) (p : Place) (a : Answer) → Loc m.shape c → m.held < length ws
      → found (first_of m (c - 1)) ws c t m.held ≡ None → stamp_of (row m i) (c - 1) < t → Left m.shape p a d
      → Made m ws i (writes c v d) t (counted k (ends (accessed m i (Writes c t v)) i p a)) (recorded (Writes c t v) m.held ws)
  unfolding recorded accessed with_row
  write_plain c t v d p a o q h b r =
      ended _ t _ d _ _ p a (write c v d t) (writes_plain m ws i W B l c t v o q h b) r (wrote c t v)
      (refl, set_length ws m.held new, set_here ws m.held new no_write q, λ n o. set_else ws m.held n new no_write o)
    where
      new : Write
      new = record { cell = c; stamp = t; value = v }

  -- an atomic read, an atomic write
  pub read_atomic_lem : (A : Name) (t : ℕ) (f : ℕ → Code) (p : Place) (a : Answer) → Has m.shape A → Left m.shape p a (f (atomic_at m A).value)
      → Made m ws i (reads_at A f) t (counted k (ends (read_atomic m i A) i p a)) ws
  unfolding read_atomic with_row
  read_atomic_lem A t f p a h r = ended _ t _ _ _ ws p a (read_at A f t _) (reads_atomic m ws i W B l A h) r (seen A) (refl, refl)

  pub write_atomic_lem : (A : Name) (t x : ℕ) (d : Code) (p : Place) (a : Answer) → Has m.shape A → Left m.shape p a d
      → Made m ws i (writes_at A x d) t (counted k (ends (write_atomic m i A x) i p a)) ws
  write_atomic_lem A t x d p a h r = ended _ t _ d _ ws p a (write_at A x d t) (writes_atomic m ws i W B l A x h) r (gave A x) (gave_held A x, refl)

  -- a swap that is won, a swap that is lost
  pub win : (A : Name) (t u x : ℕ) (c d : Code) (p : Place) (a : Answer) → Has m.shape A → (atomic_at m A).value ≡ u → Left m.shape p a c
      → Made m ws i (swaps_at A u x c d) t (counted k (ends (write_atomic m i A x) i p a)) ws
  win A t u x c d p a h e r = ended _ t _ c _ ws p a (swap_won A u x c d t) (swaps_atomic m ws i W B l A u x h e) r (gave A x) (gave_held A x, refl)

  pub lose : (A : Name) (t u x : ℕ) (c d : Code) (p : Place) (a : Answer) → Has m.shape A → (atomic_at m A).value ≢ u → Left m.shape p a d
      → Made m ws i (swaps_at A u x c d) t (counted k (ends (read_atomic m i A) i p a)) ws
  unfolding read_atomic with_row
  lose A t u x c d p a h n r = ended _ t _ d _ ws p a (swap_lost A u x c d t _ n) (reads_atomic m ws i W B l A h) r (seen A) (refl, refl)
