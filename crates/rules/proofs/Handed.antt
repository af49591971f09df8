-- A call's last step hands the thread's view to the slot's status, and so to the next of that slot. Assumes nothing.
use mathlib.Core.Path.{◌≡◌, refl, sym, ap, subst, ◌∙◌}
use mathlib.Core.Logic.{◌≢◌}
use mathlib.Core.Option.{Option, none, some}
use Prim.Native.Nat.{ℕ, ◌+◌, ◌<◌, ◌≤◌}
use native.Mathlib.Decide.{ℕ_discrete}
use native.Mathlib.Omega.{arith}
use Rattle.rules.proofs.Learnt.{Picture, Safe, Newest, Brings, Knows, Memory, Clear, newest_up, knew}
use Rattle.rules.proofs.Ring.{Stage, aside, saw_free, filling, filled, saw_full, emptying, emptied, fills, empties, Saw, Putting, Taking}
use Rattle.rules.proofs.Updated.{Updated, at_each, at_both}
use Rattle.rules.specs.Queue.{Covers, CoversNoted}
use Rattle.rank.specs.Rank.{slot_of, free_status, full_status, lapped}
use Rattle.view.specs.View.{stamp_of}
use Rattle.view.specs.declared.View.{View}

-- Thread i goes aside with view x; the status gets view z.
module _ (c n : ℕ) (p : Picture) (sg : ℕ → Stage) (vw lf : ℕ → View) (M : Memory c n p sg vw lf) (I : Safe c p sg) (i : ℕ) (x z : View)
    (sg' : ℕ → Stage) (us : Updated sg i aside sg') (vw' : ℕ → View) (uv : Updated vw i x vw') (st : ℕ → ℕ) (lf' : ℕ → View)
    (up : Covers (n + c) z (vw i)) where
  -- a put publishes rank h
  pub put_ended : (h : ℕ) → sg i ≡ filled h → Updated p.st (slot_of c h) (full_status h) st → Updated lf (slot_of c h) z lf' → Covers (n + c) z x
      → (told : ℕ → Option View) → Updated p.published h (some x) told
      → Memory c n (record { head = p.head; tail = p.tail; st = st; top = p.top; val = p.val; put = p.put; published = told }) sg' vw' lf'
  unfolding free_status full_status
  put_ended h e ut ul over told un = record {
    free = λ j a b. at_each ul (Newest c n p.top j) (slot_of c j)
        (λ d. absurd (omega (arith, a, ap st d, ut.here))) (λ d. M.free j (sym (ut.else (slot_of c j) d) ∙ a) b);
    full = λ j a b d. full_on j a b d (ℕ_discrete (slot_of c j) (slot_of c h));
    knows = λ j. at_both uv us (Knows c n q) j (λ _. tt) (λ m. there j m (vw j) (sg j) refl (M.knows j));
    untold = λ j a. un.else j (omega (arith, mine)) ∙ M.untold j a;
  }
    where
      q : Picture
      q = record { head = p.head; tail = p.tail; st = st; top = p.top; val = p.val; put = p.put; published = told }

      mine : Putting c p.head p.tail p.st h
      mine = I.putting i h (subst (λ (v : Stage). fills v h) (sym e) refl)

      knows : Newest c n p.top h (vw i) × (p.put h ≡ some (p.val (slot_of c h))) × (p.published h ≡ none)
      knows = knew c n p sg vw lf M i aside x sg' us vw' uv e

      apart : (k : ℕ) → slot_of c k ≢ slot_of c h → k ≢ h
      apart k m d = m (ap (slot_of c) d)

      retold : (k : ℕ) (y : View) → k ≢ h → Brings c n p k y → Brings c n q k y
      retold k y m f = (f.0, subst (λ (o : Option View). CoversNoted (n + c) o y) (sym (un.else k m)) f.1)

      full_on : (j : ℕ) → p.tail ≤ j → j < p.head → st (slot_of c j) ≡ full_status j → Dec (slot_of c j ≡ slot_of c h)
          → Brings c n q j (lf' (slot_of c j)) × (p.put j ≡ some (p.val (slot_of c j)))
      full_on j a b d (yes g) =
          let k : h ≡ j = omega (arith, d, ap st g, ut.here) in
          subst (λ (y : ℕ). Brings c n q y (lf' (slot_of c y)) × (p.put y ≡ some (p.val (slot_of c y)))) k (
            subst (Brings c n q h) (sym ul.here)
                (newest_up c n p.top h _ z I.some up knows.0, subst (λ (o : Option View). CoversNoted (n + c) o z) (sym un.here) over),
            knows.1,
          )
      full_on j a b d (no m) =
          let f = M.full j a b (sym (ut.else (slot_of c j) m) ∙ d) in
          (subst (Brings c n q j) (sym (ul.else (slot_of c j) m)) (retold j _ (apart j m) f.0), f.1)

      putter : (j k : ℕ) → j ≢ i → fills (sg j) k → k ≢ h
      putter j k m o d = m (I.put_alone j i h (subst (fills (sg j)) d o) (subst (λ (v : Stage). fills v h) (sym e) refl))

      taker : (j k : ℕ) → empties (sg j) k → k ≢ h
      taker j k o = omega (arith, mine, I.taking j k o)

      there : (j : ℕ) → j ≢ i → (y : View) (r : Stage) → sg j ≡ r → Knows c n p y r → Knows c n q y r
      there j m y aside d f = tt
      there j m y (saw_free k) d f = λ a b. go a b (ℕ_discrete (slot_of c k) (slot_of c h))
        where
          go : st (slot_of c k) ≡ free_status k → p.head ≤ k → Dec (slot_of c k ≡ slot_of c h) → Newest c n p.top k y
          go a b (yes g) = absurd (omega (arith, a, ap st g, ut.here))
          go a b (no l) = f (sym (ut.else (slot_of c k) l) ∙ a) b
      there j m y (filling k v) d f = (f.0, f.1, un.else k (putter j k m (subst (λ (v : Stage). fills v k) (sym d) refl)) ∙ f.2)
      there j m y (filled k) d f = (f.0, f.1, un.else k (putter j k m (subst (λ (v : Stage). fills v k) (sym d) refl)) ∙ f.2)
      there j m y (saw_full k) d f = λ a b l. go a b l (ℕ_discrete (slot_of c k) (slot_of c h))
        where
          go : st (slot_of c k) ≡ full_status k → p.tail ≤ k → k < p.head → Dec (slot_of c k ≡ slot_of c h) → Brings c n q k y
          go a b l (yes g) =
              absurd (omega (arith, a, ap st g, ut.here, ap p.st g, mine, subst (Saw c p.st) d (I.seen j)))
          go a b l (no x) = retold k y (apart k x) (f (sym (ut.else (slot_of c k) x) ∙ a) b l)
      there j m y (emptying k) d f = (retold k y (taker j k (subst (λ (v : Stage). empties v k) (sym d) refl)) f.0, f.1)
      there j m y (emptied k v) d f = (retold k y (taker j k (subst (λ (v : Stage). empties v k) (sym d) refl)) f.0, f.1)

  -- a take frees the slot of rank t
  pub take_ended : (t w : ℕ) → sg i ≡ emptied t w → Updated p.st (slot_of c t) (free_status (lapped c t)) st → Updated lf (slot_of c t) z lf'
      → Memory c n (record { head = p.head; tail = p.tail; st = st; top = p.top; val = p.val; put = p.put; published = p.published }) sg' vw' lf'
  unfolding free_status full_status lapped
  take_ended t w e ut ul = record {
    free = λ j a b. at_each ul (Newest c n p.top j) (slot_of c j)
        (λ d. subst (λ (v : ℕ). p.top v ≤ stamp_of z (n + v)) (sym d) (newest_up c n p.top t _ z I.some up knows.0.0))
        (λ d. M.free j (sym (ut.else (slot_of c j) d) ∙ a) b);
    full = λ j a b d. full_on j a b d (ℕ_discrete (slot_of c j) (slot_of c t));
    knows = λ j. at_both uv us (Knows c n q) j (λ _. tt) (λ _. there j (vw j) (sg j) refl (M.knows j));
    untold = M.untold;
  }
    where
      q : Picture
      q = record { head = p.head; tail = p.tail; st = st; top = p.top; val = p.val; put = p.put; published = p.published }

      mine : Taking c p.head p.tail p.st t
      mine = I.taking i t (subst (λ (v : Stage). empties v t) (sym e) refl)

      knows : Brings c n p t (vw i) × (p.put t ≡ some w)
      knows = knew c n p sg vw lf M i aside x sg' us vw' uv e

      full_on : (j : ℕ) → p.tail ≤ j → j < p.head → st (slot_of c j) ≡ full_status j → Dec (slot_of c j ≡ slot_of c t)
          → Brings c n q j (lf' (slot_of c j)) × (p.put j ≡ some (p.val (slot_of c j)))
      full_on j a b d (yes g) = absurd (omega (arith, d, ap st g, ut.here))
      full_on j a b d (no m) =
          let f = M.full j a b (sym (ut.else (slot_of c j) m) ∙ d) in
          (subst (Brings c n q j) (sym (ul.else (slot_of c j) m)) f.0, f.1)

      there : (j : ℕ) (y : View) (r : Stage) → sg j ≡ r → Knows c n p y r → Knows c n q y r
      there j y aside d f = tt
      there j y (saw_free k) d f = λ a b. go a b (ℕ_discrete (slot_of c k) (slot_of c t))
        where
          go : st (slot_of c k) ≡ free_status k → p.head ≤ k → Dec (slot_of c k ≡ slot_of c t) → Newest c n p.top k y
          go a b (yes g) =
              absurd (omega (arith, a, ap st g, ut.here, ap p.st g, mine, subst (Saw c p.st) d (I.seen j)))
          go a b (no m) = f (sym (ut.else (slot_of c k) m) ∙ a) b
      there j y (filling k v) d f = f
      there j y (filled k) d f = f
      there j y (saw_full k) d f = λ a b l. go a b l (ℕ_discrete (slot_of c k) (slot_of c t))
        where
          go : st (slot_of c k) ≡ full_status k → p.tail ≤ k → k < p.head → Dec (slot_of c k ≡ slot_of c t) → Brings c n q k y
          go a b l (yes g) = absurd (omega (arith, a, ap st g, ut.here))
          go a b l (no m) = f (sym (ut.else (slot_of c k) m) ∙ a) b l
      there j y (emptying k) d f = f
      there j y (emptied k v) d f = f

-- Where thread i fills the slot of a rank, no other rank of it matters.
module _ (c : ℕ) (p : Picture) (sg : ℕ → Stage) (I : Safe c p sg) (i k : ℕ) where
  pub fill_clear : fills (sg i) k → Clear c p sg i (slot_of c k)
  unfolding free_status full_status
  fill_clear o =
      let mine = I.putting i k o in
      record {
        free = λ j a b e. omega (arith, mine, ap p.st e);
        full = λ j a b e. omega (arith, mine, ap p.st e);
        filling = λ y j m q e.
            m (let d : j ≡ k = omega (arith, mine, I.putting y j q, ap p.st e) in I.put_alone y i k (subst (fills (sg y)) d q) o);
        emptying = λ y j m q e. omega (arith, mine, I.taking y j q, ap p.st e);
      }
