-- The history of a cell: its first write at stamp 0, then the held records that name it, in order of happening. Assumes nothing.
use Rattle.std.specs.Prelude.{Bool, true, false, List, Option, Some, None, ℕ, zero, suc, leb, ltb, eqb}
use Rattle.std.specs.Bool.{then_some}
use Rattle.laws.specs.Tests.{◌and◌, all_below}
use Rattle.step.specs.Limit.{most}
use Rattle.writes.specs.Records.{nth}
use Rattle.writes.specs.declared.Looked.{Looked}
use Rattle.writes.specs.declared.Newest.{Newest}
use Rattle.writes.specs.declared.Write.{Write}

-- Of equal stamps the first write counts, else the earliest record.
abbrev pub earlier : Option ℕ → Option ℕ → Option ℕ
earlier None g = g
earlier (Some v) g = Some v

-- a record shows its value at cell c and stamp t if it is a write to c at t
unfoldable pub shown_by : Write → ℕ → ℕ → Option ℕ
shown_by w c t = then_some (eqb w.cell c and eqb w.stamp t) w.value

-- the value at stamp t of cell c, whose first write has the value first, in the first n records
unfoldable pub found : ℕ → List Write → ℕ → ℕ → ℕ → Option ℕ
found first ws c t zero = then_some (eqb t 0) first
found first ws c t (suc n) = earlier (found first ws c t n) (shown_by (nth ws n) c t)

abbrev pub newest_if : Bool → Write → Newest → Newest
newest_if true w s = record { stamp = w.stamp; value = w.value }
newest_if false w s = s

-- a record takes over if it is a write to c at a greater stamp
unfoldable pub newer : Newest → Write → ℕ → Newest
newer s w c = newest_if (eqb w.cell c and ltb s.stamp w.stamp) w s

-- the greatest stamp of cell c and the value there, in the first n records
unfoldable pub newest : ℕ → List Write → ℕ → ℕ → Newest
newest first ws c zero = record { stamp = 0; value = first }
newest first ws c (suc n) = newer (newest first ws c n) (nth ws n) c

-- A held record names an existing cell, 1 to k; its stamp and weight are at most 1,000,000,000.
unfoldable pub record_stands : ℕ → Write → Bool
record_stands k w = leb 1 w.cell and leb w.cell k and leb w.stamp most and leb w.value most

unfoldable pub records_stand : ℕ → List Write → ℕ → Bool
records_stand k ws n = all_below (λ i. record_stands k (nth ws i)) n

-- one search answers all three
unfoldable pub search_of : ℕ → ℕ → List Write → ℕ → ℕ → ℕ → Looked
search_of k first ws c t n =
    record { stand = records_stand k ws n; found = found first ws c t n; newest = newest first ws c n }
