-- One search answers all that is asked of the list: a fold over its records, in order of happening. Assumes nothing.
use Rattle.std.specs.Prelude.{Bool, true, false, List, [], ◌∷◌, ℕ, eqb}
use Rattle.std.specs.Bool.{then_some}
use Rattle.laws.specs.Tests.{◌and◌}
use Rattle.writes.specs.History.{earlier, shown_by, newer, record_stands}
use Rattle.writes.specs.declared.Query.{Query}
use Rattle.writes.specs.declared.Write.{Write}

-- before any record: the first write of cell c has the value first, and there are k cells
unfoldable pub sought_of : ℕ → ℕ → ℕ → ℕ → Query
sought_of k first c t =
    record {
      judged = true;
      cells = k;
      cell = c;
      stamp = t;
      looked = record { stand = true; found = then_some (eqb t 0) first; newest = record { stamp = 0; value = first } };
    }

-- the same of records that are known to stand
abbrev pub unjudged_of : Query → Query
unjudged_of q = record { judged = false; cells = q.cells; cell = q.cell; stamp = q.stamp; looked = q.looked }

-- the records before and this one stand, where that is judged
abbrev pub stand_still : Bool → Bool → Bool → Bool
stand_still true before this = before and this
stand_still false before this = before

-- one record more
unfoldable pub looked_at : Query → Write → Query
looked_at q w =
    record {
      judged = q.judged;
      cells = q.cells;
      cell = q.cell;
      stamp = q.stamp;
      looked = record {
        stand = stand_still q.judged q.looked.stand (record_stands q.cells w);
        found = earlier q.looked.found (shown_by w q.cell q.stamp);
        newest = newer q.looked.newest w q.cell;
      };
    }

unfoldable pub searched : Query → List Write → Query
searched q [] = q
searched q (w ∷ ws) = searched (looked_at q w) ws
