-- The ring: of the C ranks from tail on, each slot is being filled by one put, full, being emptied by one take, or free. Assumes nothing.
use mathlib.Core.Path.{◌≡◌, sym, subst, ◌∙◌}
use mathlib.Core.Logic.{◌≢◌, ◌⊎◌, inl, ⊎_elim}
use Prim.Native.Nat.{ℕ, ◌+◌, ◌<◌, ◌≤◌}
use Rattle.rules.proofs.Updated.{Updated, at_each}
use Rattle.rank.specs.Rank.{slot_of, free_status, full_status, lapped}

-- what a thread's place is to the ring, with its rank and the weight that it brings or has read
pub data Stage : Type 0 where
  aside : Stage
  saw_free : ℕ → Stage
  filling : ℕ → ℕ → Stage
  filled : ℕ → Stage
  saw_full : ℕ → Stage
  emptying : ℕ → Stage
  emptied : ℕ → ℕ → Stage

-- a put past its head swap fills the slot of its rank
abbrev pub fills : Stage → ℕ → Type 0
fills aside k = ⊥
fills (saw_free h) k = ⊥
fills (filling h w) k = h ≡ k
fills (filled h) k = h ≡ k
fills (saw_full t) k = ⊥
fills (emptying t) k = ⊥
fills (emptied t w) k = ⊥

-- a take past its tail swap empties the slot of its rank
abbrev pub empties : Stage → ℕ → Type 0
empties aside k = ⊥
empties (saw_free h) k = ⊥
empties (filling h w) k = ⊥
empties (filled h) k = ⊥
empties (saw_full t) k = ⊥
empties (emptying t) k = t ≡ k
empties (emptied t w) k = t ≡ k

-- a put or a take past its look at the status, short of its swap: a status never falls below what was seen
abbrev pub Saw : ℕ → (ℕ → ℕ) → Stage → Type 0
Saw c st aside = Unit {0}
Saw c st (saw_free h) = free_status h ≤ st (slot_of c h)
Saw c st (filling h w) = Unit {0}
Saw c st (filled h) = Unit {0}
Saw c st (saw_full t) = full_status t ≤ st (slot_of c t)
Saw c st (emptying t) = Unit {0}
Saw c st (emptied t w) = Unit {0}

-- what the slot of rank j is, j one of the C ranks from tail on
pub data Form (c h : ℕ) (st : ℕ → ℕ) (at : ℕ → Stage) (j : ℕ) : Type 0 where
  is_filling : j < h → st (slot_of c j) ≡ free_status j → (i : ℕ) → fills (at i) j → Form c h st at j
  is_full : j < h → st (slot_of c j) ≡ full_status j → Form c h st at j
  is_emptying : h ≤ j → (k : ℕ) → lapped c k ≡ j → st (slot_of c j) ≡ full_status k → (i : ℕ) → empties (at i) k → Form c h st at j
  is_free : h ≤ j → st (slot_of c j) ≡ free_status j → Form c h st at j

-- the rank that a put fills
pub record Putting (c h t : ℕ) (st : ℕ → ℕ) (k : ℕ) : Type 0 where
  pub from : t ≤ k
  pub to : k < h
  pub is : st (slot_of c k) ≡ free_status k

-- the rank that a take empties
pub record Taking (c h t : ℕ) (st : ℕ → ℕ) (k : ℕ) : Type 0 where
  pub past : k < t
  pub near : h ≤ lapped c k
  pub is : st (slot_of c k) ≡ full_status k

-- C slots, head, tail, the status of each slot and the stage of each thread
pub record Ring (c h t : ℕ) (st : ℕ → ℕ) (at : ℕ → Stage) : Type 0 where
  pub some : 0 < c
  pub low : t ≤ h
  pub high : h ≤ t + c
  pub forms : (j : ℕ) → t ≤ j → j < t + c → Form c h st at j
  pub seen : (i : ℕ) → Saw c st (at i)
  pub putting : (i k : ℕ) → fills (at i) k → Putting c h t st k
  pub taking : (i k : ℕ) → empties (at i) k → Taking c h t st k
  pub put_alone : (i j k : ℕ) → fills (at i) k → fills (at j) k → i ≡ j
  pub take_alone : (i j k : ℕ) → empties (at i) k → empties (at j) k → i ≡ j

-- Thread i goes to stage r. H is what a thread may hold of a rank.
module _ (at : ℕ → Stage) (i : ℕ) (r : Stage) (at' : ℕ → Stage) (u : Updated at i r at') (H : Stage → ℕ → Type 0) where
  -- what was held is held still
  pub still : (k : ℕ) → (H (at i) k → H r k) → (x : ℕ) → H (at x) k → H (at' x) k
  still k f x o = at_each u (λ y. H y k) x (λ d. f (subst (λ (y : ℕ). H (at y) k) d o)) (λ n. o)

  -- a fact of every holder, of the new one and of the others
  pub holders : (P : ℕ → Type 0) → ((k : ℕ) → H r k → P k) → ((x k : ℕ) → x ≢ i → H (at x) k → P k) → (x k : ℕ) → H (at' x) k → P k
  holders P f g x k = at_each u (λ y. H y k → P k) x (λ d. f k) (λ n. g x k n)

  -- no two hold one rank
  pub alone : ((x y k : ℕ) → H (at x) k → H (at y) k → x ≡ y) → ((k x : ℕ) → H r k → H (at x) k → H (at i) k ⊎ ⊥)
      → (x y k : ℕ) → H (at' x) k → H (at' y) k → x ≡ y
  alone a f x y k =
      at_each u (λ v. H v k → H (at' y) k → x ≡ y) x
      (λ ex p. at_each u (λ v. H v k → x ≡ y) y (λ ey q. ex ∙ sym ey) (λ ny q. absurd (ny (meet k y p q))))
      (λ nx p. at_each u (λ v. H v k → x ≡ y) y (λ ey q. absurd (nx (meet k x q p))) (λ ny q. a x y k p q))
    where
      meet : (k x : ℕ) → H r k → H (at x) k → x ≡ i
      meet k x p q = ⊎_elim (λ o. a x i k q o) (λ o. absurd o) (f k x p q)

module _ (c h t : ℕ) (st : ℕ → ℕ) (at : ℕ → Stage) (I : Ring c h t st at) (i : ℕ) (r : Stage) (at' : ℕ → Stage) (u : Updated at i r at') where
  -- the thread holds what it held, and what it says it saw is so
  pub same_hold : fills (at i) ≡ fills r → empties (at i) ≡ empties r → Saw c st r → Ring c h t st at'
  same_hold f e a =
      record {
        some = I.some;
        low = I.low;
        high = I.high;
        forms = λ j x y. go j (I.forms j x y);
        seen = λ x. at_each u (Saw c st) x (λ _. a) (λ _. I.seen x);
        putting = holders at i r at' u fills _ (λ k o. I.putting i k (back f k o)) (λ x k n o. I.putting x k o);
        taking = holders at i r at' u empties _ (λ k o. I.taking i k (back e k o)) (λ x k n o. I.taking x k o);
        put_alone = alone at i r at' u fills I.put_alone (λ k x o _. inl (back f k o));
        take_alone = alone at i r at' u empties I.take_alone (λ k x o _. inl (back e k o));
      }
    where
      on : {F G : ℕ → Type 0} → F ≡ G → (k : ℕ) → F k → G k
      on e k o = subst (λ (H : ℕ → Type 0). H k) e o

      back : {F G : ℕ → Type 0} → F ≡ G → (k : ℕ) → G k → F k
      back e k o = subst (λ (H : ℕ → Type 0). H k) (sym e) o

      go : (j : ℕ) → Form c h st at j → Form c h st at' j
      go j (is_filling a b x o) = is_filling a b x (still at i r at' u fills j (on f j) x o)
      go j (is_full a b) = is_full a b
      go j (is_emptying a k b d x o) = is_emptying a k b d x (still at i r at' u empties k (on e k) x o)
      go j (is_free a b) = is_free a b
