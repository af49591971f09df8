-- The memory's part of the ring: who has seen the newest write of a slot, what it holds, and whose view covers the putter's. Assumes nothing.
use mathlib.Core.Path.{◌≡◌, refl, sym, ap, subst, ◌∙◌}
use mathlib.Core.Logic.{◌≢◌}
use mathlib.Core.Option.{Option, none, some}
use Prim.Native.Nat.{ℕ, ◌+◌, ◌<◌, ◌≤◌}
use native.Mathlib.Decide.{ℕ_discrete}
use native.Mathlib.Nat.{le_trans}
use native.Mathlib.Omega.{arith}
use Rattle.rules.proofs.Ranks.{slot_in}
use Rattle.rules.proofs.Ring.{Stage, aside, saw_free, filling, filled, saw_full, emptying, emptied, fills, empties, Ring}
use Rattle.rules.proofs.Swapped.{free_now, full_now}
use Rattle.rules.proofs.Updated.{Updated, at_both}
use Rattle.rules.specs.Queue.{Covers, CoversNoted}
use Rattle.rank.specs.Rank.{slot_of, next_rank, free_status, full_status}
use Rattle.view.specs.View.{stamp_of}
use Rattle.view.specs.declared.View.{View}

-- the ring and the memory as the proofs see them, but for what each thread and each status has: a stage and a view by thread, a view by slot
pub record Picture : Type 0 where
  pub head : ℕ
  pub tail : ℕ
  -- the status of a slot, the newest stamp of its cell and the value there
  pub st : ℕ → ℕ
  pub top : ℕ → ℕ
  pub val : ℕ → ℕ
  -- the weight put at a rank, and the putter's view when it published it
  pub put : ℕ → Option ℕ
  pub published : ℕ → Option View

abbrev pub Safe : ℕ → Picture → (ℕ → Stage) → Type 0
Safe c p sg = Ring c p.head p.tail p.st sg

-- with n plain cells and c slots: a view has the newest stamp of the slot of a rank
abbrev pub Newest : ℕ → ℕ → (ℕ → ℕ) → ℕ → View → Type 0
Newest c n top k v = top (slot_of c k) ≤ stamp_of v (n + slot_of c k)

-- and it covers the putter's
abbrev pub Brings : ℕ → ℕ → Picture → ℕ → View → Type 0
Brings c n p k v = Newest c n p.top k v × CoversNoted (n + c) (p.published k) v

-- what a thread with a view knows at each stage
abbrev pub Knows : ℕ → ℕ → Picture → View → Stage → Type 0
Knows c n p v aside = Unit {0}
Knows c n p v (saw_free k) = p.st (slot_of c k) ≡ free_status k → p.head ≤ k → Newest c n p.top k v
Knows c n p v (filling k w) = Newest c n p.top k v × (p.put k ≡ some w) × (p.published k ≡ none)
Knows c n p v (filled k) = Newest c n p.top k v × (p.put k ≡ some (p.val (slot_of c k))) × (p.published k ≡ none)
Knows c n p v (saw_full k) = p.st (slot_of c k) ≡ full_status k → p.tail ≤ k → k < p.head → Brings c n p k v
Knows c n p v (emptying k) = Brings c n p k v × (p.put k ≡ some (p.val (slot_of c k)))
Knows c n p v (emptied k w) = Brings c n p k v × (p.put k ≡ some w)

-- stages and views by thread, the statuses' views by slot
pub record Memory (c n : ℕ) (p : Picture) (sg : ℕ → Stage) (vw lf : ℕ → View) : Type 0 where
  pub free : (j : ℕ) → p.st (slot_of c j) ≡ free_status j → p.head ≤ j → Newest c n p.top j (lf (slot_of c j))
  pub full : (j : ℕ) → p.tail ≤ j → j < p.head → p.st (slot_of c j) ≡ full_status j
      → Brings c n p j (lf (slot_of c j)) × (p.put j ≡ some (p.val (slot_of c j)))
  pub knows : (i : ℕ) → Knows c n p (vw i) (sg i)
  pub untold : (j : ℕ) → p.head ≤ j → p.published j ≡ none

-- no rank but what thread i holds matters at slot z
pub record Clear (c : ℕ) (p : Picture) (sg : ℕ → Stage) (i z : ℕ) : Type 0 where
  pub free : (j : ℕ) → p.st (slot_of c j) ≡ free_status j → p.head ≤ j → slot_of c j ≢ z
  pub full : (j : ℕ) → p.tail ≤ j → p.st (slot_of c j) ≡ full_status j → slot_of c j ≢ z
  pub filling : (y k : ℕ) → y ≢ i → fills (sg y) k → slot_of c k ≢ z
  pub emptying : (y k : ℕ) → y ≢ i → empties (sg y) k → slot_of c k ≢ z

-- a view that covers one that covers
pub noted_up : (k : ℕ) (o : Option View) (v w : View) → Covers k w v → CoversNoted k o v → CoversNoted k o w
noted_up k none v w u f = f
noted_up k (some x) v w u f = λ j l. le_trans (f j l) (u j l)

pub newest_up : (c n : ℕ) (top : ℕ → ℕ) (k : ℕ) (v w : View) → 0 < c → Covers (n + c) w v → Newest c n top k v → Newest c n top k w
newest_up c n top k v w h u f = le_trans f (u _ (omega (arith, slot_in c k h)))

pub brings_up : (c n : ℕ) (p : Picture) (k : ℕ) (v w : View) → 0 < c → Covers (n + c) w v → Brings c n p k v → Brings c n p k w
brings_up c n p k v w h u f = (newest_up c n p.top k v w h u f.0, noted_up (n + c) (p.published k) v w u f.1)

-- Thread i goes to stage s with view x.
module _ (c n : ℕ) (p : Picture) (sg : ℕ → Stage) (vw lf : ℕ → View) (M : Memory c n p sg vw lf) (i : ℕ) (s : Stage) (x : View)
    (sg' : ℕ → Stage) (us : Updated sg i s sg') (vw' : ℕ → View) (uv : Updated vw i x vw') where
  pub knew : {r : Stage} → sg i ≡ r → Knows c n p (vw i) r
  knew e = subst (Knows c n p (vw i)) e (M.knows i)

  -- nothing else changes
  pub look : Knows c n p x s → Memory c n p sg' vw' lf
  look k =
      record { free = M.free; full = M.full; knows = λ j. at_both uv us (Knows c n p) j (λ _. k) (λ _. M.knows j); untold = M.untold }

  -- the head swap, won
  pub head_won : (h w : ℕ) → Safe c p sg → sg i ≡ saw_free h → s ≡ filling h w → p.head ≡ h → Covers (n + c) x (vw i)
      → (put : ℕ → Option ℕ) → Updated p.put h (some w) put
      → Memory c n (record { head = next_rank h; tail = p.tail; st = p.st; top = p.top; val = p.val; put = put; published = p.published }) sg' vw' lf
  unfolding next_rank free_status full_status
  head_won h w I e es eh u put up = record {
    free = λ j a b. M.free j a (omega arith);
    full = λ j a b d. let f = M.full j a (under j b d) d in (f.0, up.else j (omega (arith, under j b d)) ∙ f.1);
    knows = λ j. at_both uv us (Knows c n q) j
        (λ _. subst (Knows c n q x) (sym es) (newest_up c n p.top h _ x I.some u (knew e was (omega arith)), up.here, M.untold h (omega arith)))
        (λ _. there j (vw j) (sg j) refl (M.knows j));
    untold = λ j b. M.untold j (omega arith);
  }
    where
      q : Picture
      q = record { head = next_rank h; tail = p.tail; st = p.st; top = p.top; val = p.val; put = put; published = p.published }

      was : p.st (slot_of c h) ≡ free_status h
      was = subst (λ (y : ℕ). p.st (slot_of c y) ≡ free_status y) eh (free_now c p.head p.tail p.st sg I i (e ∙ ap saw_free (sym eh)))

      under : (j : ℕ) → j < next_rank h → p.st (slot_of c j) ≡ full_status j → j < p.head
      under j b d = go (ℕ_discrete j h)
        where
          go : Dec (j ≡ h) → j < p.head
          go (yes r) = omega (arith, was, ap (λ (y : ℕ). p.st (slot_of c y)) r)
          go (no r) = omega arith

      filler : (j k : ℕ) → fills (sg j) k → k ≢ h
      filler j k o = omega (arith, I.putting j k o)

      emptier : (j k : ℕ) → empties (sg j) k → k ≢ h
      emptier j k o = omega (arith, I.low, I.taking j k o)

      there : (j : ℕ) (y : View) (r : Stage) → sg j ≡ r → Knows c n p y r → Knows c n q y r
      there j y aside d f = tt
      there j y (saw_free k) d f = λ a b. f a (omega arith)
      there j y (filling k v) d f = (f.0, up.else k (filler j k (subst (λ (z : Stage). fills z k) (sym d) refl)) ∙ f.1, f.2)
      there j y (filled k) d f = (f.0, up.else k (filler j k (subst (λ (z : Stage). fills z k) (sym d) refl)) ∙ f.1, f.2)
      there j y (saw_full k) d f = λ a b g. f a b (under k g a)
      there j y (emptying k) d f = (f.0, up.else k (emptier j k (subst (λ (z : Stage). empties z k) (sym d) refl)) ∙ f.1)
      there j y (emptied k v) d f = (f.0, up.else k (emptier j k (subst (λ (z : Stage). empties z k) (sym d) refl)) ∙ f.1)

  -- the tail swap, won
  pub tail_won : (t : ℕ) → Safe c p sg → sg i ≡ saw_full t → s ≡ emptying t → p.tail ≡ t → Covers (n + c) x (vw i)
      → Memory c n (record { head = p.head; tail = next_rank t; st = p.st; top = p.top; val = p.val; put = p.put; published = p.published }) sg' vw' lf
  unfolding next_rank
  tail_won t I e es et u = record {
    free = M.free;
    full = λ j a b d. M.full j (omega arith) b d;
    knows = λ j. at_both uv us (Knows c n q) j
        (λ _. subst (Knows c n q x) (sym es)
        (brings_up c n p t _ x I.some u (knew e was.1 (omega arith) was.0), (M.full t (omega arith) was.0 was.1).1))
        (λ _. there (vw j) (sg j) (M.knows j));
    untold = M.untold;
  }
    where
      q : Picture
      q = record { head = p.head; tail = next_rank t; st = p.st; top = p.top; val = p.val; put = p.put; published = p.published }

      was : (t < p.head) × (p.st (slot_of c t) ≡ full_status t)
      was = subst (λ (y : ℕ). (y < p.head) × (p.st (slot_of c y) ≡ full_status y)) et
          (full_now c p.head p.tail p.st sg I i (e ∙ ap saw_full (sym et)))

      there : (y : View) (r : Stage) → Knows c n p y r → Knows c n q y r
      there y aside f = tt
      there y (saw_free k) f = f
      there y (filling k v) f = f
      there y (filled k) f = f
      there y (saw_full k) f = λ a b d. f a (omega arith) d
      there y (emptying k) f = f
      there y (emptied k v) f = f

  -- a write to the cell of slot z, where no other rank of that slot matters
  pub slot_written : (z : ℕ) (top val : ℕ → ℕ) (a b : ℕ) → Updated p.top z a top → Updated p.val z b val → Clear c p sg i z
      → Knows c n (record { head = p.head; tail = p.tail; st = p.st; top = top; val = val; put = p.put; published = p.published }) x s
      → Memory c n (record { head = p.head; tail = p.tail; st = p.st; top = top; val = val; put = p.put; published = p.published }) sg' vw' lf
  slot_written z top val a b ut ul cl own = record {
    free = λ j d e. newest j (cl.free j d e) _ (M.free j d e);
    full = λ j d e f. let g = M.full j d e f in let o = cl.full j d f in ((newest j o _ g.0.0, g.0.1), g.1 ∙ ap some (sym (ul.else (slot_of c j) o)));
    knows = λ j. at_both uv us (Knows c n q) j (λ _. own) (λ m. there j m (vw j) (sg j) refl (M.knows j));
    untold = M.untold;
  }
    where
      q : Picture
      q = record { head = p.head; tail = p.tail; st = p.st; top = top; val = val; put = p.put; published = p.published }

      newest : (k : ℕ) → slot_of c k ≢ z → (v : View) → Newest c n p.top k v → Newest c n top k v
      newest k e v f = rw (ut.else (slot_of c k) e) f

      there : (j : ℕ) → j ≢ i → (y : View) (r : Stage) → sg j ≡ r → Knows c n p y r → Knows c n q y r
      there j m y aside d f = tt
      there j m y (saw_free k) d f = λ g h. newest k (cl.free k g h) y (f g h)
      there j m y (filling k w) d f = let e = cl.filling j k m (subst (λ (v : Stage). fills v k) (sym d) refl) in (newest k e y f.0, f.1, f.2)
      there j m y (filled k) d f =
          let e = cl.filling j k m (subst (λ (v : Stage). fills v k) (sym d) refl) in
          (newest k e y f.0, f.1 ∙ ap some (sym (ul.else (slot_of c k) e)), f.2)
      there j m y (saw_full k) d f = λ g h l. let o = f g h l in (newest k (cl.full k h g) y o.0, o.1)
      there j m y (emptying k) d f =
          let e = cl.emptying j k m (subst (λ (v : Stage). empties v k) (sym d) refl) in
          ((newest k e y f.0.0, f.0.1), f.1 ∙ ap some (sym (ul.else (slot_of c k) e)))
      there j m y (emptied k w) d f =
          let e = cl.emptying j k m (subst (λ (v : Stage). empties v k) (sym d) refl) in ((newest k e y f.0.0, f.0.1), f.1)
