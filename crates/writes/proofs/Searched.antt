-- Laws of the search and of the store: a record more, a search of no more records than there are, and what they come to. Assumes nothing.
use mathlib.Core.Path.{◌≡◌, refl, ap, ◌∙◌}
use mathlib.Core.Bool.{true}
use mathlib.Core.List.{List, [], ◌∷◌}
use Prim.Native.Nat.{ℕ, zero, suc, ◌<◌, ◌≤◌}
use native.Mathlib.Omega.{arith}
use lib.ListN.{length, set, take}
use lib.Seq.{set_out}
use Rattle.laws.specs.Tests.{all_below}
use Rattle.std.specs.Prelude.{Some}
use Rattle.writes.specs.History.{earlier, shown_by, found, newest, records_stand, search_of}
use Rattle.writes.specs.Records.{no_write, nth, recorded, fill_of}
use Rattle.writes.specs.Searched.{sought_of, looked_at, searched}
use Rattle.writes.specs.declared.Access.{Access}
use Rattle.writes.specs.declared.Access.TheVariants.{NoAccess, Reads, Writes}
use Rattle.writes.specs.declared.Query.{Query}
use Rattle.writes.specs.declared.Write.{Write}

-- one record more is looked at
pub searched_more : (q : Query) (ws : List Write) (n : ℕ) → n < length ws
    → searched q (take (suc n) ws) ≡ looked_at (searched q (take n ws)) (nth ws n)
unfolding searched
searched_more q [] n l = absurd (omega arith)
searched_more q (w ∷ ws) zero l = refl
searched_more q (w ∷ ws) (suc n) l = searched_more (looked_at q w) ws n (omega arith)

-- what is found at a stamp does not depend on whether the records are judged
pub found_alike : (p q : Query) (ws : List Write) → p.cell ≡ q.cell → p.stamp ≡ q.stamp → p.looked.found ≡ q.looked.found
    → (searched p ws).looked.found ≡ (searched q ws).looked.found
unfolding searched looked_at
found_alike p q [] c t f = f
found_alike p q (w ∷ ws) c t f =
    found_alike (looked_at p w) (looked_at q w) ws c t (λ i. earlier (f i) (shown_by w (c i) (t i)))

-- what is found once stays found
pub found_stays : (q : Query) (ws : List Write) (v : ℕ) → q.looked.found ≡ Some v → (searched q ws).looked.found ≡ Some v
unfolding searched looked_at
found_stays q [] v e = e
found_stays q (w ∷ ws) v e = found_stays (looked_at q w) ws v (rw e)

module _ (k first : ℕ) (ws : List Write) (c t : ℕ) where
  -- what is asked and what is found in the first n records
  abbrev past : ℕ → Query
  past n = record { judged = true; cells = k; cell = c; stamp = t; looked = search_of k first ws c t n }

  searched_past : (n : ℕ) → n ≤ length ws → searched (sought_of k first c t) (take n ws) ≡ past n
  unfolding searched sought_of looked_at search_of records_stand all_below found newest
  searched_past zero l = refl
  searched_past (suc n) l =
      searched_more (sought_of k first c t) ws n l ∙ ap (λ (q : Query). looked_at q (nth ws n)) (searched_past n (omega arith))

  -- a search of records that there are answers what their histories have
  pub searched_is : (n : ℕ) → n ≤ length ws → (searched (sought_of k first c t) (take n ws)).looked ≡ search_of k first ws c t n
  searched_is n l = ap (λ (q : Query). q.looked) (searched_past n l)

-- the record that is set is the one that the access records
pub fill_is : (a : Access) (held : ℕ) (ws : List Write)
    → set ws (fill_of a held (length ws)).at (fill_of a held (length ws)).write ≡ recorded a held ws
unfolding fill_of recorded
fill_is NoAccess held ws = set_out ws (length ws) no_write (omega arith)
fill_is (Reads c t) held ws = set_out ws (length ws) no_write (omega arith)
fill_is (Writes c t v) held ws = refl
