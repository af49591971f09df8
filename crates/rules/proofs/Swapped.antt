-- A won swap keeps the ring. Assumes nothing.
use mathlib.Core.Path.{◌≡◌, refl, sym, ap, subst, ◌∙◌}
use mathlib.Core.Logic.{inr}
use Prim.Native.Nat.{ℕ, ◌+◌, ◌<◌, ◌≤◌}
use native.Mathlib.Decide.{ℕ_discrete}
use native.Mathlib.Omega.{arith}
use Rattle.rules.proofs.Ranks.{one_slot}
use Rattle.rules.proofs.Ring.{Stage, saw_free, filling, saw_full, emptying, fills, empties, Saw, Form, is_filling, is_full, is_emptying, is_free, Putting, Taking, Ring, still, holders, alone}
use Rattle.rules.proofs.Updated.{Updated, at_each}
use Rattle.rank.specs.Rank.{slot_of, next_rank, free_status, full_status, lapped}

-- The head swap, won.
module _ (c h t : ℕ) (st : ℕ → ℕ) (at : ℕ → Stage) (I : Ring c h t st at) (i : ℕ) (was : at i ≡ saw_free h) where
  saw : free_status h ≤ st (slot_of c h)
  saw = subst (Saw c st) was (I.seen i)

  -- there is room
  pub room : h < t + c
  unfolding next_rank free_status full_status lapped
  room = go (ℕ_discrete h (t + c))
    where
      no_form : h ≡ t + c → Form c h st at t → ⊥
      no_form e (is_filling a d x o) = omega (arith, saw, one_slot c st h t e)
      no_form e (is_full a d) = omega (arith, saw, one_slot c st h t e)
      no_form e (is_emptying a k d f x o) = omega (arith, I.some)
      no_form e (is_free a d) = omega (arith, I.some)

      go : Dec (h ≡ t + c) → h < t + c
      go (yes e) = absurd (no_form e (I.forms t (omega arith) (omega (arith, I.some))))
      go (no n) = omega (arith, I.high)

  -- the slot is free
  pub free_now : st (slot_of c h) ≡ free_status h
  unfolding next_rank free_status full_status lapped
  free_now = go (I.forms h I.low room)
    where
      go : Form c h st at h → st (slot_of c h) ≡ free_status h
      go (is_filling a d x o) = omega arith
      go (is_full a d) = omega arith
      go (is_emptying a k d e x o) = omega (arith, saw, I.some)
      go (is_free a d) = d

  pub win_head : (w : ℕ) (at' : ℕ → Stage) → Updated at i (filling h w) at' → Ring c (next_rank h) t st at'
  unfolding next_rank free_status full_status lapped
  win_head w at' u = record {
    some = I.some;
    low = omega (arith, I.low);
    high = omega (arith, room);
    forms = λ j x y. go j (ℕ_discrete j h) (I.forms j x y);
    seen = λ x. at_each u (Saw c st) x (λ _. tt) (λ _. I.seen x);
    putting = holders at i (filling h w) at' u fills _
        (λ k o. subst (Putting c (next_rank h) t st) o (record { from = I.low; to = omega arith; is = free_now }))
        (λ x k n o. let p = I.putting x k o in record { from = p.from; to = omega (arith, p.to); is = p.is });
    taking = holders at i (filling h w) at' u empties _ (λ k o. absurd o)
        (λ x k n o. let p = I.taking x k o in record { past = p.past; near = near k p; is = p.is });
    put_alone = alone at i (filling h w) at' u fills I.put_alone (λ k x o p. inr (omega (arith, o, (I.putting x k p).to)));
    take_alone = alone at i (filling h w) at' u empties I.take_alone (λ k x o _. absurd o);
  }
    where
      near : (k : ℕ) → Taking c h t st k → next_rank h ≤ lapped c k
      near k p = go (ℕ_discrete h (lapped c k))
        where
          go : Dec (h ≡ lapped c k) → next_rank h ≤ lapped c k
          go (yes e) = omega (arith, saw, p, one_slot c st h k e)
          go (no n) = omega (arith, p)

      go : (j : ℕ) → Dec (j ≡ h) → Form c h st at j → Form c (next_rank h) st at' j
      go j (yes e) f =
          is_filling (omega arith) (subst (λ (x : ℕ). st (slot_of c x) ≡ free_status x) (sym e) free_now) i
          (subst (λ (x : Stage). fills x j) (sym u.here) (sym e))
      go j (no n) (is_filling a b x o) =
          is_filling (omega arith) b x
          (still at i (filling h w) at' u fills j (λ q. absurd (subst (λ (x : Stage). fills x j) was q)) x o)
      go j (no n) (is_full a b) = is_full (omega arith) b
      go j (no n) (is_emptying a k b d x o) =
          is_emptying (omega arith) k b d x
          (still at i (filling h w) at' u empties k (λ q. absurd (subst (λ (x : Stage). empties x k) was q)) x o)
      go j (no n) (is_free a b) = is_free (omega arith) b

-- The tail swap, won.
module _ (c h t : ℕ) (st : ℕ → ℕ) (at : ℕ → Stage) (I : Ring c h t st at) (i : ℕ) (was : at i ≡ saw_full t) where
  -- the slot is full
  pub full_now : (t < h) × (st (slot_of c t) ≡ full_status t)
  unfolding next_rank free_status full_status lapped
  full_now = go (subst (Saw c st) was (I.seen i)) (I.forms t (omega arith) (omega (arith, I.some)))
    where
      go : full_status t ≤ st (slot_of c t) → Form c h st at t → (t < h) × (st (slot_of c t) ≡ full_status t)
      go s (is_filling a d x o) = omega arith
      go s (is_full a d) = (a, d)
      go s (is_emptying a k d e x o) = omega (arith, I.some)
      go s (is_free a d) = omega arith

  pub win_tail : (at' : ℕ → Stage) → Updated at i (emptying t) at' → Ring c h (next_rank t) st at'
  unfolding next_rank free_status full_status lapped
  win_tail at' u = record {
    some = I.some;
    low = omega (arith, full_now.0);
    high = omega (arith, I.high);
    forms = λ j x y. go j x y (ℕ_discrete j (t + c));
    seen = λ x. at_each u (Saw c st) x (λ _. tt) (λ _. I.seen x);
    putting = holders at i (emptying t) at' u fills _ (λ k o. absurd o)
        (λ x k n o. let p = I.putting x k o in record { from = later k p; to = p.to; is = p.is });
    taking = holders at i (emptying t) at' u empties _
        (λ k o. subst (Taking c h (next_rank t) st) o (record { past = omega arith; near = I.high; is = full_now.1 }))
        (λ x k n o. let p = I.taking x k o in record { past = omega (arith, p.past); near = p.near; is = p.is });
    put_alone = alone at i (emptying t) at' u fills I.put_alone (λ k x o _. absurd o);
    take_alone = alone at i (emptying t) at' u empties I.take_alone (λ k x o p. inr (omega (arith, o, (I.taking x k p).past)));
  }
    where
      later : (k : ℕ) → Putting c h t st k → next_rank t ≤ k
      later k p = go (ℕ_discrete k t)
        where
          go : Dec (k ≡ t) → next_rank t ≤ k
          go (yes e) = omega (arith, full_now.1, p, ap (λ (x : ℕ). st (slot_of c x)) e)
          go (no n) = omega (arith, p)

      old : (j : ℕ) → Form c h st at j → Form c h st at' j
      old j (is_filling a b x o) =
          is_filling a b x (still at i (emptying t) at' u fills j (λ q. absurd (subst (λ (x : Stage). fills x j) was q)) x o)
      old j (is_full a b) = is_full a b
      old j (is_emptying a k b d x o) =
          is_emptying a k b d x (still at i (emptying t) at' u empties k (λ q. absurd (subst (λ (x : Stage). empties x k) was q)) x o)
      old j (is_free a b) = is_free a b

      go : (j : ℕ) → next_rank t ≤ j → j < next_rank t + c → Dec (j ≡ t + c) → Form c h st at' j
      go j a b (yes e) =
          is_emptying (omega (arith, I.high)) t (sym e) (one_slot c st j t e ∙ full_now.1) i (subst (λ (x : Stage). empties x t) (sym u.here) refl)
      go j a b (no n) = old j (I.forms j (omega arith) (omega arith))

-- the same where the rank is the one that the thread has noted
pub win_head_at : (c h t : ℕ) (st : ℕ → ℕ) (at : ℕ → Stage) → Ring c h t st at → (i : ℕ) (at' : ℕ → Stage) (k w : ℕ) → h ≡ k
    → at i ≡ saw_free k → Updated at i (filling k w) at' → Ring c (next_rank k) t st at'
win_head_at c h t st at I i at' k w e =
    subst (λ (k : ℕ). at i ≡ saw_free k → Updated at i (filling k w) at' → Ring c (next_rank k) t st at') e
    (λ was u. win_head c h t st at I i was w at' u)

pub win_tail_at : (c h t : ℕ) (st : ℕ → ℕ) (at : ℕ → Stage) → Ring c h t st at → (i : ℕ) (at' : ℕ → Stage) (k : ℕ) → t ≡ k
    → at i ≡ saw_full k → Updated at i (emptying k) at' → Ring c h (next_rank k) st at'
win_tail_at c h t st at I i at' k e =
    subst (λ (k : ℕ). at i ≡ saw_full k → Updated at i (emptying k) at' → Ring c h (next_rank k) st at') e
    (λ was u. win_tail c h t st at I i was at' u)
