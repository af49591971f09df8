-- A record that is not judged and is not at the stamp asked changes at most the newest write. Assumes nothing.
use Prim.Native.Nat.{◌<◌, ◌≤◌, ℕ}
use borrow.Author.Tests.{eq-eqb, le-ltb, lt-ltb, ne_eqb}
use lib.Dec.{eqb}
use mathlib.Core.Bool.{Bool, false}
use mathlib.Core.Path.{◌≡◌, refl}
use Rattle.laws.specs.Tests.{◌and◌}
use Rattle.std.specs.Prelude.{Option, Some, None}
use Rattle.writes.specs.History.{earlier, newer, record_stands, shown_by}
use Rattle.writes.specs.Searched.{looked_at, stand_still}
use Rattle.writes.specs.declared.Newest.{Newest}
use Rattle.writes.specs.declared.Query.{Query}
use Rattle.writes.specs.declared.Write.{Write}

still : (j b x : Bool) → j ≡ false → b ≡ stand_still j b x
still j b x e = rw e

unshown : (f : Option ℕ) (w : Write) (c t : ℕ) → (eqb w.cell c and eqb w.stamp t) ≡ false → f ≡ earlier f (shown_by w c t)
unfolding shown_by
unshown None w c t e = rw e
unshown (Some v) w c t e = refl

module _ (q : Query) (w : Write) (j : q.judged ≡ false) where
  unjudged : (n : Newest) → (eqb w.cell q.cell and eqb w.stamp q.stamp) ≡ false → n ≡ newer q.looked.newest w q.cell
      → record {
        judged = q.judged;
        cells = q.cells;
        cell = q.cell;
        stamp = q.stamp;
        looked = record { stand = q.looked.stand; found = q.looked.found; newest = n };
      } ≡ looked_at q w
  unfolding looked_at
  unjudged n e f =
      let stand = still q.judged q.looked.stand (record_stands q.cells w) j in
      let found = unshown q.looked.found w q.cell q.stamp e in λ i.
      record {
        judged = q.judged;
        cells = q.cells;
        cell = q.cell;
        stamp = q.stamp;
        looked = record { stand = stand i; found = found i; newest = f i };
      }

  pub other_cell : (w.cell ≡ q.cell → ⊥) → q ≡ looked_at q w
  unfolding newer ◌and◌
  other_cell h = unjudged q.looked.newest (rw (ne_eqb _ _ h)) (rw (ne_eqb _ _ h))

  module _ (e : w.cell ≡ q.cell) (h : w.stamp ≡ q.stamp → ⊥) where
    pub not_newer : w.stamp ≤ q.looked.newest.stamp → q ≡ looked_at q w
    unfolding newer ◌and◌
    not_newer l = unjudged q.looked.newest (rw (eq-eqb _ _ e, ne_eqb _ _ h)) (rw (eq-eqb _ _ e, le-ltb _ _ l))

    pub now_newest : q.looked.newest.stamp < w.stamp
        → record {
          judged = q.judged;
          cells = q.cells;
          cell = q.cell;
          stamp = q.stamp;
          looked = record {
            stand = q.looked.stand;
            found = q.looked.found;
            newest = record { stamp = w.stamp; value = w.value };
          };
        } ≡ looked_at q w
    unfolding newer ◌and◌
    now_newest l = unjudged (record { stamp = w.stamp; value = w.value }) (rw (eq-eqb _ _ e, ne_eqb _ _ h)) (rw (eq-eqb _ _ e, lt-ltb _ _ l))
