-- A call's last step keeps the ring. Assumes nothing.
use mathlib.Core.Path.{◌≡◌, refl, sym, ap, subst, ◌∙◌}
use mathlib.Core.Logic.{◌≢◌}
use Prim.Native.Nat.{ℕ, ◌+◌, ◌<◌, ◌≤◌}
use native.Mathlib.Decide.{ℕ_discrete}
use native.Mathlib.Nat.{le_refl, le_trans}
use native.Mathlib.Omega.{arith}
use Rattle.rules.proofs.Ranks.{same_rank, same_slot}
use Rattle.rules.proofs.Ring.{Stage, aside, saw_free, filling, filled, saw_full, emptying, emptied, fills, empties, Saw, Form, is_filling, is_full, is_emptying, is_free, Putting, Taking, Ring, still, holders, alone}
use Rattle.rules.proofs.Updated.{Updated, at_each}
use Rattle.rank.specs.Rank.{slot_of, free_status, full_status, lapped}

-- A call's last step: thread i, whose ranks are of slot s and no other's are, stores a status that is no smaller.
module _ (c h t : ℕ) (st : ℕ → ℕ) (at : ℕ → Stage) (I : Ring c h t st at) (i : ℕ) (at' : ℕ → Stage)
    (u : Updated at i aside at') (s v : ℕ) (st' : ℕ → ℕ) (w : Updated st s v st') (up : st s ≤ v)
    (fill_here : (x k : ℕ) → fills (at x) k → slot_of c k ≡ s → x ≡ i) (empty-here : (x k : ℕ) → empties (at x) k → slot_of c k ≡ s → x ≡ i)
    (my-fill : (k : ℕ) → fills (at i) k → slot_of c k ≡ s) (my-empty : (k : ℕ) → empties (at i) k → slot_of c k ≡ s)
    (here : (j : ℕ) → t ≤ j → j < t + c → slot_of c j ≡ s → Form c h st' at' j) where
  -- no status falls
  grows : (x : ℕ) → st x ≤ st' x
  grows x = at_each w (λ y. st x ≤ y) x (λ e. omega (arith, up, ap st e)) (λ n. le_refl _)

  settle : Ring c h t st' at'
  settle = record {
    some = I.some;
    low = I.low;
    high = I.high;
    forms = λ j x y. go j x y (ℕ_discrete (slot_of c j) s);
    seen = λ x. at_each u (Saw c st') x (λ _. tt) (λ _. risen (at x) (I.seen x));
    putting = holders at i aside at' u fills _ (λ k o. absurd o)
        (λ x k n o. let p = I.putting x k o in record { from = p.from; to = p.to; is = w.else (slot_of c k) (λ e. n (fill_here x k o e)) ∙ p.is });
    taking = holders at i aside at' u empties _ (λ k o. absurd o)
        (λ x k n o. let p = I.taking x k o in record { past = p.past; near = p.near; is = w.else (slot_of c k) (λ e. n (empty-here x k o e)) ∙ p.is });
    put_alone = alone at i aside at' u fills I.put_alone (λ k x o _. absurd o);
    take_alone = alone at i aside at' u empties I.take_alone (λ k x o _. absurd o);
  }
    where
      risen : (r : Stage) → Saw c st r → Saw c st' r
      risen aside o = tt
      risen (saw_free k) o = le_trans o (grows _)
      risen (filling k x) o = tt
      risen (filled k) o = tt
      risen (saw_full k) o = le_trans o (grows _)
      risen (emptying k) o = tt
      risen (emptied k x) o = tt

      keep : (j : ℕ) → slot_of c j ≢ s → Form c h st at j → Form c h st' at' j
      keep j n (is_filling a b x o) = is_filling a (w.else (slot_of c j) n ∙ b) x (still at i aside at' u fills j (λ q. n (my-fill j q)) x o)
      keep j n (is_full a b) = is_full a (w.else (slot_of c j) n ∙ b)
      keep j n (is_emptying a k b d x o) =
          is_emptying a k b (w.else (slot_of c j) n ∙ d) x
          (still at i aside at' u empties k (λ q. n (ap (λ (y : ℕ). slot_of c y) (sym b) ∙ same_slot c k ∙ my-empty k q)) x o)
      keep j n (is_free a b) = is_free a (w.else (slot_of c j) n ∙ b)

      go : (j : ℕ) → t ≤ j → j < t + c → Dec (slot_of c j ≡ s) → Form c h st' at' j
      go j x y (yes e) = here j x y e
      go j x y (no n) = keep j n (I.forms j x y)

module _ (c h t : ℕ) (st : ℕ → ℕ) (at : ℕ → Stage) (I : Ring c h t st at) (i : ℕ) (at' : ℕ → Stage)
    (u : Updated at i aside at') (k : ℕ) (st' : ℕ → ℕ) where
  -- a put publishes
  pub publish : at i ≡ filled k → Updated st (slot_of c k) (full_status k) st' → Ring c h t st' at'
  unfolding free_status full_status lapped
  publish was w = settle c h t st at I i at' u (slot_of c k) (full_status k) st' w up f e mf me now
    where
      mine : Putting c h t st k
      mine = I.putting i k (subst (λ (x : Stage). fills x k) (sym was) refl)

      up : st (slot_of c k) ≤ full_status k
      up = omega (arith, mine)

      f : (x j : ℕ) → fills (at x) j → slot_of c j ≡ slot_of c k → x ≡ i
      f x j o d =
          let p : j ≡ k = omega (arith, I.putting x j o, mine, ap st d) in
          I.put_alone x i k (subst (fills (at x)) p o) (subst (λ (x : Stage). fills x k) (sym was) refl)

      e : (x j : ℕ) → empties (at x) j → slot_of c j ≡ slot_of c k → x ≡ i
      e x j o d = absurd (omega (arith, I.taking x j o, mine, ap st d))

      mf : (j : ℕ) → fills (at i) j → slot_of c j ≡ slot_of c k
      mf j o = ap (λ (y : ℕ). slot_of c y) (sym (subst (λ (x : Stage). fills x j) was o))

      me : (j : ℕ) → empties (at i) j → slot_of c j ≡ slot_of c k
      me j o = absurd (subst (λ (x : Stage). empties x j) was o)

      now : (j : ℕ) → t ≤ j → j < t + c → slot_of c j ≡ slot_of c k → Form c h st' at' j
      now j a b d =
          let p : j ≡ k = same_rank c t j k a b mine.from (omega (arith, mine, I.high)) d in
          is_full (omega (arith, mine)) (ap st' d ∙ w.here ∙ ap (λ (y : ℕ). full_status y) (sym p))

  -- a take frees its slot
  pub release : (v : ℕ) → at i ≡ emptied k v → Updated st (slot_of c k) (free_status (lapped c k)) st' → Ring c h t st' at'
  unfolding free_status full_status lapped
  release v was w = settle c h t st at I i at' u (slot_of c k) (free_status (lapped c k)) st' w up f e mf me now
    where
      mine : Taking c h t st k
      mine = I.taking i k (subst (λ (x : Stage). empties x k) (sym was) refl)

      up : st (slot_of c k) ≤ free_status (lapped c k)
      up = omega (arith, mine, I.some)

      f : (x j : ℕ) → fills (at x) j → slot_of c j ≡ slot_of c k → x ≡ i
      f x j o d = absurd (omega (arith, I.putting x j o, mine, ap st d))

      e : (x j : ℕ) → empties (at x) j → slot_of c j ≡ slot_of c k → x ≡ i
      e x j o d =
          let p : j ≡ k = omega (arith, I.taking x j o, mine, ap st d) in
          I.take_alone x i k (subst (empties (at x)) p o) (subst (λ (x : Stage). empties x k) (sym was) refl)

      mf : (j : ℕ) → fills (at i) j → slot_of c j ≡ slot_of c k
      mf j o = absurd (subst (λ (x : Stage). fills x j) was o)

      me : (j : ℕ) → empties (at i) j → slot_of c j ≡ slot_of c k
      me j o = ap (λ (y : ℕ). slot_of c y) (sym (subst (λ (x : Stage). empties x j) was o))

      now : (j : ℕ) → t ≤ j → j < t + c → slot_of c j ≡ slot_of c k → Form c h st' at' j
      now j a b d =
          let p : j ≡ lapped c k = same_rank c t j (lapped c k) a b (omega (arith, mine, I.low)) (omega (arith, mine)) (d ∙ sym (same_slot c k)) in
          is_free (omega (arith, mine)) (ap st' d ∙ w.here ∙ ap (λ (y : ℕ). free_status y) (sym p))
