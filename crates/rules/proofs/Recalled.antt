-- Every stamp of every view stays in its cell's history, and the stamps of a history distinct. Assumes nothing.
use mathlib.Core.Path.{◌≡◌, refl, sym, ap, subst, ◌∙◌}
use mathlib.Core.Bool.{true}
use mathlib.Core.List.{List}
use mathlib.Core.Logic.{◌≢◌}
use Prim.Native.Nat.{ℕ, zero, suc, ◌+◌, ◌-◌, ◌<◌, ◌≤◌, max}
use native.Mathlib.Decide.{ℕ_discrete, dec_lt}
use native.Mathlib.Omega.{arith}
use borrow.Author.Tests.{eq-eqb}
use lib.ListN.{length, set}
use Rattle.std.specs.Prelude.{Option, Some, None, is_some}
use Rattle.atomic.specs.Atomic.{met, told}
use Rattle.laws.proofs.Lists.{set_here, set_else}
use Rattle.laws.specs.Tests.{◌and◌}
use Rattle.rules.proofs.Calm.{same_name}
use Rattle.rules.proofs.Events.{Goes, Reading, Writing, Looking, Storing}
use Rattle.rules.proofs.Joins.{met_here, told_here}
use Rattle.rules.proofs.Updated.{at_each}
use Rattle.standing.proofs.Bounds.{Bounds}
use Rattle.state.proofs.Changed.{stamp_here, stamp_else}
use Rattle.state.specs.State.{cells_of, row, atomic_at, first_of, Whole}
use Rattle.state.specs.declared.Atomic.{Atomic}
use Rattle.state.specs.declared.Machine.{Machine}
use Rattle.state.specs.declared.Name.{Name}
use Rattle.state.specs.declared.Place.{Place}
use Rattle.view.specs.View.{stamp_of, with_stamp}
use Rattle.view.specs.declared.View.{View}
use Rattle.writes.proofs.History.{found_more}
use Rattle.writes.specs.History.{earlier, shown_by, found}
use Rattle.writes.specs.Records.{no_write, nth, write}
use Rattle.writes.specs.declared.Write.{Write}

-- stamp t is in the history of the cell at j of a view, in the first n records
abbrev pub Shows : (ℕ → ℕ) → List Write → ℕ → ℕ → ℕ → Type 0
Shows first ws n j t = is_some (found (first (j + 1 - 1)) ws (j + 1) t n) ≡ true

-- every stamp of a view, of k cells
abbrev pub ShowsAll : ℕ → (ℕ → ℕ) → List Write → ℕ → View → Type 0
ShowsAll k first ws n v = (j : ℕ) → j < k → Shows first ws n j (stamp_of v j)

-- of k cells, with the given first values
pub record Recalled (k : ℕ) (first : ℕ → ℕ) (m : Machine) (ws : List Write) : Type 0 where
  pub rows : (i : ℕ) → ShowsAll k first ws m.held (row m i)
  pub cells : (a : Name) → ShowsAll k first ws m.held (atomic_at m a).view
  pub distinct : (i j : ℕ) → i < m.held → j < m.held → (nth ws i).cell ≡ (nth ws j).cell → (nth ws i).stamp ≡ (nth ws j).stamp → i ≡ j
  pub positive : (i : ℕ) → i < m.held → 0 < (nth ws i).stamp

-- what was shown is shown after one record more
earlier_shows : (f g : Option ℕ) → is_some f ≡ true → is_some (earlier f g) ≡ true
earlier_shows None g e = cc
earlier_shows (Some v) g e = refl

-- a record shows its value at its cell and stamp
shown_here : (w : Write) (c t : ℕ) → w.cell ≡ c → w.stamp ≡ t → shown_by w c t ≡ Some w.value
unfolding shown_by ◌and◌
shown_here w c t p q = rw (eq-eqb w.cell c p, eq-eqb w.stamp t q)

-- a stamp that is not in the history is no record's
absent : (first : ℕ) (ws : List Write) (c t n : ℕ) → found first ws c t n ≡ None
    → (i : ℕ) → i < n → (nth ws i).cell ≡ c → (nth ws i).stamp ≡ t → ⊥
unfolding found
absent first ws c t zero e i l p q = omega arith
absent first ws c t (suc n) e i l p q = go (found first ws c t n) e (dec_lt i n) (λ d r. absent first ws c t n d i r p q) refl
  where
    go : (f : Option ℕ) → earlier f (shown_by (nth ws n) c t) ≡ None → Dec (i < n) → (found first ws c t n ≡ None → i < n → ⊥)
        → found first ws c t n ≡ f → ⊥
    go None h (yes r) before d = before d r
    go None h (no r) before d =
        let k : i ≡ n = omega arith in
        let shown = shown_here (nth ws n) c t (sym (ap (λ (y : ℕ). (nth ws y).cell) k) ∙ p) (sym (ap (λ (y : ℕ). (nth ws y).stamp) k) ∙ q) in
        cc
    go (Some v) h r before d = cc

module _ (m : Machine) (ws : List Write) (i : ℕ) (W : Whole m) (B : Bounds m.shape) (K : Recalled (cells_of m) (first_of m) m ws) where
  abbrev Now : Machine → List Write → Type 0
  Now o us = Recalled (cells_of m) (first_of m) o us

  -- the list as it was: new rows and cells whose stamps the history has
  same_list : (o : Machine) → o.held ≡ m.held → ((j : ℕ) → ShowsAll (cells_of m) (first_of m) ws m.held (row o j))
      → ((a : Name) → ShowsAll (cells_of m) (first_of m) ws m.held (atomic_at o a).view) → Now o ws
  same_list o e f g =
      record {
        rows = λ j. subst (λ (n : ℕ). ShowsAll (cells_of m) (first_of m) ws n (row o j)) (sym e) (f j);
        cells = λ a. subst (λ (n : ℕ). ShowsAll (cells_of m) (first_of m) ws n (atomic_at o a).view) (sym e) (g a);
        distinct = λ x y p q. K.distinct x y (omega arith) (omega arith);
        positive = λ x p. K.positive x (omega arith);
      }

  -- the larger of two stamps that the history has
  larger : (j s t u : ℕ) → u ≡ max s t → Shows (first_of m) ws m.held j s → Shows (first_of m) ws m.held j t → Shows (first_of m) ws m.held j u
  larger j s t u e p q = go (dec_lt s t)
    where
      go : Dec (s < t) → Shows (first_of m) ws m.held j u
      go (yes l) = let d : u ≡ t = omega arith in rw d q
      go (no l) = let d : u ≡ s = omega arith in rw d p

  met_shows : (a : Name) → ShowsAll (cells_of m) (first_of m) ws m.held (met m i a)
  met_shows a j l = larger j _ _ _ (met_here m i a W B j l) (K.rows i j l) (K.cells a j l)

  told_shows : (a : Name) → ShowsAll (cells_of m) (first_of m) ws m.held (told m i a)
  told_shows a j l = larger j _ _ _ (told_here m i a W B j l) (K.cells a j l) (K.rows i j l)

  went : (q : Place) (v : View) (o : Machine) → Goes m o i q v → ShowsAll (cells_of m) (first_of m) ws m.held v
      → (j : ℕ) → ShowsAll (cells_of m) (first_of m) ws m.held (row o j)
  went q v o g f j = at_each g.rows (ShowsAll (cells_of m) (first_of m) ws m.held) j (λ _. f) (λ _. K.rows j)

  alike : (o : Machine) → ((a : Name) → atomic_at o a ≡ atomic_at m a) → (a : Name) → ShowsAll (cells_of m) (first_of m) ws m.held (atomic_at o a).view
  alike o h a = subst (λ (x : Atomic). ShowsAll (cells_of m) (first_of m) ws m.held x.view) (sym (h a)) (K.cells a)

  pub reads : (b t v : ℕ) (q : Place) (o : Machine) → Reading m ws i b t v q o → Now o ws
  reads b t v q o x = same_list o x.held (went q (row m i) o x.goes (K.rows i)) (alike o x.cells)

  pub looks : (a : Name) (q : Place) (o : Machine) → Looking m i a q o → Now o ws
  looks a q o x = same_list o x.held (went q (met m i a) o x.goes (met_shows a)) (alike o x.cells)

  pub stores : (a : Name) (v : ℕ) (q : Place) (o : Machine) → Storing m i a v q o → Now o ws
  stores a v q o x = same_list o x.held (went q (met m i a) o x.goes (met_shows a)) (λ b. go b (same_name b a))
    where
      go : (b : Name) → Dec (b ≡ a) → ShowsAll (cells_of m) (first_of m) ws m.held (atomic_at o b).view
      go b (yes e) = subst (λ (y : Atomic). ShowsAll (cells_of m) (first_of m) ws m.held y.view) (sym (ap (atomic_at o) e ∙ x.here)) (told_shows a)
      go b (no n) = subst (λ (y : Atomic). ShowsAll (cells_of m) (first_of m) ws m.held y.view) (sym (x.else b n)) (K.cells b)

  pub writes : (b t v : ℕ) (q : Place) (o : Machine) (us : List Write) → (1 ≤ b) × (b ≤ cells_of m) → Writing m ws i b t v q o us → Now o us
  unfolding cells_of
  writes b t v q o us r x = subst (λ (xs : List Write). Now o xs) (sym x.filed)
      (record {
        rows = λ j. subst (λ (n : ℕ). ShowsAll (cells_of m) (first_of m) new n (row o j)) (sym x.held)
            (at_each x.goes.rows (ShowsAll (cells_of m) (first_of m) new (suc m.held)) j (λ _. mine) (λ _. more (row m j) (K.rows j)));
        cells = λ a. subst (λ (n : ℕ). ShowsAll (cells_of m) (first_of m) new n (atomic_at o a).view) (sym x.held)
            (more (atomic_at o a).view (alike o x.cells a));
        distinct = λ y z p q. apart y z (omega (arith, x.held)) (omega (arith, x.held)) (ℕ_discrete y m.held) (ℕ_discrete z m.held);
        positive = λ y p. above y (omega (arith, x.held)) (ℕ_discrete y m.held);
      })
    where
      new : List Write
      new = set ws m.held (write b t v)

      old : (j s : ℕ) → Shows (first_of m) ws m.held j s → Shows (first_of m) new (suc m.held) j s
      old j s h =
          rw (found_more (first_of m (j + 1 - 1)) ws (write b t v) (j + 1) s m.held x.room)
          (earlier_shows (found (first_of m (j + 1 - 1)) ws (j + 1) s m.held) (shown_by (write b t v) (j + 1) s) h)

      more : (w : View) → ShowsAll (cells_of m) (first_of m) ws m.held w → ShowsAll (cells_of m) (first_of m) new (suc m.held) w
      more w f j l = old j (stamp_of w j) (f j l)

      spot : b - 1 + 1 ≡ b
      spot = omega arith

      wide : b - 1 < length (row m i).at
      wide = omega (arith, W.rows i, B.plain, B.slots)

      now : is_some (found (first_of m (b - 1)) new b t (suc m.held)) ≡ true
      now = rw (found_more (first_of m (b - 1)) ws (write b t v) b t m.held x.room, x.fresh, shown_here (write b t v) b t refl refl)

      mine : ShowsAll (cells_of m) (first_of m) new (suc m.held) (with_stamp (row m i) (b - 1) t)
      mine j l = go (ℕ_discrete j (b - 1))
        where
          go : Dec (j ≡ b - 1) → Shows (first_of m) new (suc m.held) j (stamp_of (with_stamp (row m i) (b - 1) t) j)
          go (yes e) = rw (e, stamp_here (row m i) (b - 1) t wide, spot) now
          go (no n) = rw (stamp_else (row m i) (b - 1) j t n) (old j (stamp_of (row m i) j) (K.rows i j l))

      last : nth new m.held ≡ write b t v
      last = set_here ws m.held (write b t v) no_write x.room

      before : (y : ℕ) → y ≢ m.held → nth new y ≡ nth ws y
      before y n = set_else ws m.held y (write b t v) no_write n

      fresh_at : (y : ℕ) → y < m.held → (nth ws y).cell ≡ b → (nth ws y).stamp ≡ t → ⊥
      fresh_at y l p q = absent (first_of m (b - 1)) ws b t m.held x.fresh y l p q

      apart : (y z : ℕ) → y < suc m.held → z < suc m.held → Dec (y ≡ m.held) → Dec (z ≡ m.held)
          → (nth new y).cell ≡ (nth new z).cell → (nth new y).stamp ≡ (nth new z).stamp → y ≡ z
      apart y z p q (yes e) (yes d) f g = e ∙ sym d
      apart y z p q (yes e) (no d) f g =
          absurd (fresh_at z (omega arith) (sym (rw (ap (nth new) e ∙ last, before z d) at f)) (sym (rw (ap (nth new) e ∙ last, before z d) at g)))
      apart y z p q (no e) (yes d) f g =
          absurd (fresh_at y (omega arith) (rw (before y e, ap (nth new) d ∙ last) at f) (rw (before y e, ap (nth new) d ∙ last) at g))
      apart y z p q (no e) (no d) f g = K.distinct y z (omega arith) (omega arith) (rw (before y e, before z d) at f) (rw (before y e, before z d) at g)

      above : (y : ℕ) → y < suc m.held → Dec (y ≡ m.held) → 0 < (nth new y).stamp
      above y p (yes e) = rw (ap (nth new) e ∙ last) (omega (arith, x.above))
      above y p (no e) = rw (before y e) (K.positive y (omega arith))
