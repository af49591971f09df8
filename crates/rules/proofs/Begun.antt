-- A fresh machine with nothing noted is sound. Assumes nothing.
use mathlib.Core.Path.{◌≡◌, refl, sym, ap, subst}
use mathlib.Core.Bool.{Bool, true, false}
use mathlib.Core.List.{List, []}
use Prim.Native.Nat.{ℕ, zero, suc, ◌<◌}
use native.Mathlib.Nat.{mod-eq_of_lt}
use native.Mathlib.Omega.{arith}
use lib.ListN.{length, get_or, replicate, length-replicate}
use Rattle.rules.proofs.Fresh.{fresh_stands}
use Rattle.rules.proofs.Whole.{fresh_whole}
use Rattle.laws.proofs.Lists.{set_either, replicated, filled_here}
use Rattle.laws.specs.Lists.{filled}
use Rattle.laws.specs.Tests.{◌and◌}
use Rattle.opening.specs.Opening.{weights_stand, flags_room, statuses_room, unmoved, fresh, refused_opening, opened_if, opened_of}
use Rattle.rules.proofs.Listed.{ListedAt}
use Rattle.rules.proofs.Recalled.{ShowsAll, Recalled}
use Rattle.rules.proofs.Remembered.{Remembered}
use Rattle.rules.proofs.Ring.{aside, is_free}
use Rattle.rules.proofs.Ringed.{stage, stages, status, Ringed}
use Rattle.rules.proofs.Sound.{Sound}
use Rattle.rules.specs.Log.{start, ins, outs, seen}
use Rattle.rules.specs.Queue.{plain, Each}
use Rattle.rank.specs.Rank.{slot_of, free_status}
use Rattle.standing.proofs.Bounds.{Within, within_shape}
use Rattle.standing.specs.Stands.{in_shape, stands}
use Rattle.state.specs.State.{atomic, zero_atomic, at, row, place, atomic_at, cells_of, first_of, Whole}
use Rattle.state.specs.declared.Atomic.{Atomic}
use Rattle.state.specs.declared.Machine.{Machine}
use Rattle.state.specs.declared.Name.{Name}
use Rattle.state.specs.declared.Name.TheVariants.{Head, Tail, Flag, Status}
use Rattle.state.specs.declared.Place.TheVariants.{Idle}
use Rattle.state.specs.declared.Thread.{Thread}
use Rattle.step.specs.Answer.{number_of}
use Rattle.step.specs.declared.Answer.TheVariants.{Ok}
use Rattle.view.specs.View.{zero_view, stamp_of}
use Rattle.writes.specs.History.{found, newest}
use Rattle.writes.specs.declared.Write.{Write}

-- cells at zero, the first n of them filled with values: every view is zero
unseen : (f : ℕ → ℕ) (n room i : ℕ) → (get_or (filled (λ i. atomic (f i) zero_view) n (replicate room zero_atomic)) i zero_atomic).view ≡ zero_view
unfolding filled
unseen f zero room i = ap (λ (x : Atomic). x.view) (replicated room zero_atomic i)
unseen f (suc n) room i =
    set_either (λ (x : Atomic). x.view ≡ zero_view) (filled (λ i. atomic (f i) zero_view) n (replicate room zero_atomic)) n i (atomic (f n) zero_view) zero_atomic refl
    (unseen f n room i)

module _ (t c : ℕ) (plain flags : List ℕ) (B : Within t c (length plain) (length flags)) where
  abbrev m : Machine
  m = fresh t c plain flags

  idle : (i : ℕ) → place m i ≡ Idle
  unfolding fresh unmoved place
  idle i = ap (λ (x : Thread). x.place) (replicated 8 (at Idle) i)

  blank : (i : ℕ) → row m i ≡ zero_view
  unfolding fresh unmoved row
  blank i = replicated 8 zero_view i

  bare : (a : Name) → (atomic_at m a).view ≡ zero_view
  unfolding fresh unmoved atomic_at flags_room statuses_room
  bare Head = refl
  bare Tail = refl
  bare (Flag f) = unseen (λ i. get_or flags i 0) (length flags) 8 f
  bare (Status z) = unseen free_status c 16 z

  -- the status of slot j
  free : (j : ℕ) → j < c → status m (slot_of c j) ≡ free_status j
  unfolding fresh unmoved atomic_at statuses_room slot_of
  free j l =
      rw (mod-eq_of_lt l)
      (ap (λ (x : Atomic). x.value)
      (filled_here (λ i. atomic (free_status i) zero_view) c (replicate 16 zero_atomic) j zero_atomic l (rw (length-replicate 16 zero_atomic) B.slots)))

  none : (i : ℕ) → stages m i ≡ aside
  none i = ap stage (idle i)

  fresh_ring : Ringed c m
  unfolding fresh unmoved
  fresh_ring =
      record {
        some = B.some_slot;
        low = omega arith;
        high = omega arith;
        forms = λ j a b. is_free (omega arith) (free j (omega arith));
        seen = λ i. rw (none i) tt;
        putting = λ i k o. absurd (rw (none i) at o);
        taking = λ i k o. absurd (rw (none i) at o);
        put_alone = λ i j k o _. absurd (rw (none i) at o);
        take_alone = λ i j k o _. absurd (rw (none i) at o);
      }

  fresh_memory : (ws : List Write) → Remembered c (length plain) (first_of m) m ws (seen [])
  unfolding fresh unmoved newest seen ins
  fresh_memory ws = record { free = λ j a b. omega arith; full = λ j a b d. absurd (omega arith); knows = λ i. rw (none i) tt; untold = λ j a. refl }

  fresh_list : ListedAt c m (seen [])
  unfolding fresh unmoved seen plain ins outs
  fresh_list =
      record {
        line = record { inside = []; handed = [] };
        is = refl;
        all = refl;
        handed = refl;
        put = refl;
        out = refl;
        marks = λ i. rw (idle i) refl;
      }

  zeros : (ws : List Write) (k : ℕ) → ShowsAll k (first_of m) ws 0 zero_view
  unfolding stamp_of found
  zeros ws k j l = rw (replicated {A = ℕ} 32 0 j)

  fresh_recall : (ws : List Write) → Recalled (cells_of m) (first_of m) m ws
  unfolding fresh unmoved
  fresh_recall ws =
      record {
        rows = λ i. rw (blank i) (zeros ws _);
        cells = λ a. rw (bare a) (zeros ws _);
        distinct = λ i j p. absurd (omega arith);
        positive = λ i p. absurd (omega arith);
      }

-- where an opening answers ok, both its tests hold
opened : (b d : Bool) (m : Machine) → (opened_if b d m).answer ≡ Ok → (b ≡ true) × ((opened_if b d m).machine ≡ m)
unfolding refused_opening
opened false d m e = absurd (omega (arith, ap number_of e))
opened true false m e = absurd (omega (arith, ap number_of e))
opened true true m e = (refl, refl)

-- the shape is what was asked for
pub fresh_shape : (t c : ℕ) (plain flags : List ℕ) → (opened_of t c plain flags).answer ≡ Ok
    → (opened_of t c plain flags).machine.shape ≡ record { threads = t; slots = c; plain = length plain; flags = length flags }
unfolding opened_of fresh unmoved
fresh_shape t c plain flags e =
    ap (λ (m : Machine). m.shape) (opened (in_shape t c (length plain) (length flags)) (weights_stand plain and weights_stand flags) (fresh t c plain flags) e).1

pub fresh_sound : (t c : ℕ) (plain flags : List ℕ) (ws : List Write) → (opened_of t c plain flags).answer ≡ Ok
    → Sound (start (opened_of t c plain flags).machine ws)
unfolding opened_of start fresh unmoved Each
fresh_sound t c plain flags ws e =
    let o = opened (in_shape t c (length plain) (length flags)) (weights_stand plain and weights_stand flags) (fresh t c plain flags) e in
    subst (λ (m : Machine). Sound (start m ws)) (sym o.1) (parts o.1 (within_shape _ _ _ _ o.0))
  where
    parts : (opened_of t c plain flags).machine ≡ fresh t c plain flags → Within t c (length plain) (length flags) → Sound (start (fresh t c plain flags) ws)
    parts q B =
        record {
          whole = subst Whole q (fresh_whole t c plain flags);
          stand = subst (λ (m : Machine). stands m ws ≡ true) q (fresh_stands t c plain flags ws (ap number_of e));
          ring = fresh_ring t c plain flags B;
          memory = fresh_memory t c plain flags B ws;
          list = fresh_list t c plain flags B;
          recall = fresh_recall t c plain flags B ws;
          right = tt;
          spare = λ i _. idle t c plain flags B i;
        }
