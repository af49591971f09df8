-- Every step keeps the ring. Assumes nothing.
use mathlib.Core.Path.{◌≡◌, refl, sym, ap, subst, fun_ext, ◌∙◌}
use mathlib.Core.List.{List}
use Prim.Native.Nat.{ℕ}
use native.Mathlib.Nat.{le_of_eq}
use Rattle.rules.proofs.Calm.{status_at, Calm, all_calm, flag_calm, head_stored, tail_stored, status_stored}
use Rattle.rules.proofs.Closed.{publish, release}
use Rattle.rules.proofs.Moves.{Moves}
use Rattle.rules.proofs.Ring.{Stage, aside, saw_free, filling, filled, saw_full, emptying, emptied, fills, empties, Saw, Ring, same_hold}
use Rattle.rules.proofs.Swapped.{win_head_at, win_tail_at}
use Rattle.rules.proofs.Updated.{Updated, mapped}
use Rattle.rank.specs.Rank.{slot_of, next_rank, free_status, full_status, lapped}
use Rattle.state.specs.State.{place}
use Rattle.state.specs.declared.Atomic.{Atomic}
use Rattle.state.specs.declared.Machine.{Machine}
use Rattle.state.specs.declared.Place.{Place}
use Rattle.state.specs.declared.Place.TheVariants.{Idle, PutStatus, PutSwap, PutWrite, PutPublish, TakeStatus, TakeSwap, TakeRead, TakeFree}
use Rattle.writes.specs.declared.Write.{Write}

-- what each place is to the ring
abbrev pub stage : Place → Stage
stage Idle = aside
stage (PutStatus h w) = aside
stage (PutSwap h w) = saw_free h
stage (PutWrite h w) = filling h w
stage (PutPublish h) = filled h
stage (TakeStatus t) = aside
stage (TakeSwap t) = saw_full t
stage (TakeRead t) = emptying t
stage (TakeFree t w) = emptied t w

abbrev pub stages : Machine → ℕ → Stage
stages m i = stage (place m i)

abbrev pub status : Machine → ℕ → ℕ
status m z = (status_at m z).value

-- the ring of a machine with c slots
abbrev pub Ringed : ℕ → Machine → Type 0
Ringed c m = Ring c m.head.value m.tail.value (status m) (stages m)

-- a ring over what a machine is known to have
ring_as : (c : ℕ) (n : Machine) (h t : ℕ) (st : ℕ → ℕ) → n.head.value ≡ h → n.tail.value ≡ t → ((z : ℕ) → status n z ≡ st z)
    → Ring c h t st (stages n) → Ringed c n
ring_as c n h t st e f g r =
    subst (λ (x : ℕ). Ring c x n.tail.value (status n) (stages n)) (sym e)
    (subst (λ (x : ℕ). Ring c h x (status n) (stages n)) (sym f)
    (subst (λ (x : ℕ → ℕ). Ring c h t x (stages n)) (sym (fun_ext g)) r))

values : (m n : Machine) → ((z : ℕ) → status_at n z ≡ status_at m z) → (z : ℕ) → status n z ≡ status m z
values m n h z = ap (λ (x : Atomic). x.value) (h z)

module _ (m : Machine) (ws : List Write) (i : ℕ) (R : Ringed m.shape.slots m) where
  -- the thread goes from place p to place q and holds what it held
  quiet : (p q : Place) (n : Machine) → place m i ≡ p → Calm m n → Updated (place m) i q (place n)
      → fills (stage p) ≡ fills (stage q) → empties (stage p) ≡ empties (stage q) → Saw m.shape.slots (status m) (stage q)
      → Ringed m.shape.slots n
  quiet p q n e calm u f g saw =
      ring_as _ n _ _ _ calm.head calm.tail (values m n calm.statuses)
      (same_hold _ _ _ (status m) (stages m) R i (stage q) (stages n) (mapped stage u) (ap (λ (z : Place). fills (stage z)) e ∙ f)
      (ap (λ (z : Place). empties (stage z)) e ∙ g) saw)

  pub ring_moves : Moves m ws i (λ v a n us. Ringed m.shape.slots n)
  ring_moves =
      record {
        gets = λ c t v n e _ x. quiet Idle Idle n e (all_calm m n x.cells) x.goes.places refl refl tt;
        sets = λ c t v n us e _ x. quiet Idle Idle n e (all_calm m n x.cells) x.goes.places refl refl tt;
        loads = λ b f n e x. quiet Idle Idle n e (all_calm m n x.cells) x.goes.places refl refl tt;
        stores = λ b f v n e x. quiet Idle Idle n e (flag_calm m i v Idle n f x) x.goes.places refl refl tt;
        swap_wins = λ b f u v n e x. quiet Idle Idle n e (flag_calm m i v Idle n f x) x.goes.places refl refl tt;
        swap_loses = λ b f u v n e x. quiet Idle Idle n e (all_calm m n x.cells) x.goes.places refl refl tt;
        put_begins = λ w n e x. quiet Idle (PutStatus m.head.value w) n e (all_calm m n x.cells) x.goes.places refl refl tt;
        put_sees = λ h w n e d x. quiet (PutStatus h w) (PutSwap h w) n e (all_calm m n x.cells) x.goes.places refl refl (le_of_eq (sym d));
        put_stops = λ h w n e x. quiet (PutStatus h w) Idle n e (all_calm m n x.cells) x.goes.places refl refl tt;
        put_wins = λ h w n e d x.
            let r = head_stored m i (next_rank h) (PutWrite h w) n x in
            ring_as _ n _ _ _ r.0 r.1 (values m n r.2)
            (win_head_at _ _ _ (status m) (stages m) R i (stages n) h w d (ap stage e) (mapped stage x.goes.places));
        put_loses = λ h w n e x. quiet (PutSwap h w) Idle n e (all_calm m n x.cells) x.goes.places refl refl tt;
        put_writes = λ h w t n us e x. quiet (PutWrite h w) (PutPublish h) n e (all_calm m n x.cells) x.goes.places refl refl tt;
        put_ends = λ h n e x.
            let r = status_stored m i (full_status h) Idle n (slot_of m.shape.slots h) x in
            ring_as _ n _ _ _ r.0 r.1 (λ z. refl)
            (publish _ _ _ (status m) (stages m) R i (stages n) (mapped stage x.goes.places) h (status n) (ap stage e)
            (mapped (λ (y : Atomic). y.value) r.2));
        take_begins = λ n e x. quiet Idle (TakeStatus m.tail.value) n e (all_calm m n x.cells) x.goes.places refl refl tt;
        take_sees = λ t n e d x. quiet (TakeStatus t) (TakeSwap t) n e (all_calm m n x.cells) x.goes.places refl refl (le_of_eq (sym d));
        take_stops = λ t n e x. quiet (TakeStatus t) Idle n e (all_calm m n x.cells) x.goes.places refl refl tt;
        take_wins = λ t n e d x.
            let r = tail_stored m i (next_rank t) (TakeRead t) n x in
            ring_as _ n _ _ _ r.0 r.1 (values m n r.2)
            (win_tail_at _ _ _ (status m) (stages m) R i (stages n) t d (ap stage e) (mapped stage x.goes.places));
        take_loses = λ t n e x. quiet (TakeSwap t) Idle n e (all_calm m n x.cells) x.goes.places refl refl tt;
        take_reads = λ t s w n e x. quiet (TakeRead t) (TakeFree t w) n e (all_calm m n x.cells) x.goes.places refl refl tt;
        take_ends = λ t w n e x.
            let r = status_stored m i (free_status (lapped m.shape.slots t)) Idle n (slot_of m.shape.slots t) x in
            ring_as _ n _ _ _ r.0 r.1 (λ z. refl)
            (release _ _ _ (status m) (stages m) R i (stages n) (mapped stage x.goes.places) t (status n) w (ap stage e)
            (mapped (λ (y : Atomic). y.value) r.2));
      }
