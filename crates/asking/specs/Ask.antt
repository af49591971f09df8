-- What a step asks of the list of writes. Assumes nothing.
use Rattle.std.specs.Prelude.{Bool, true, false, ℕ, ◌-◌}
use Rattle.asking.specs.declared.Ask.{Ask}
use Rattle.asking.specs.declared.Asked.{Asked}
use Rattle.rules.specs.Access.{slot_cell, cell_asked, stamp_asked}
use Rattle.rules.specs.Step.{asked}
use Rattle.standing.specs.Stands.{sizes_stand}
use Rattle.state.specs.State.{cells_of, first_of}
use Rattle.state.specs.declared.Machine.{Machine}
use Rattle.step.specs.declared.Step.{Step}
use Rattle.writes.specs.Searched.{sought_of, unjudged_of}
use Rattle.writes.specs.declared.Access.{Access}
use Rattle.writes.specs.declared.Access.TheVariants.{NoAccess, Reads, Writes}
use Rattle.writes.specs.declared.Query.{Query}

-- a step of a state of which nothing is known
abbrev pub anew : Step → Asked
anew s = record { step = s; known = false }

-- how many records are searched: none where no access is made and the records are known to stand
abbrev pub records_asked : Bool → Access → ℕ → ℕ
records_asked false a held = held
records_asked true NoAccess held = 0
records_asked true (Reads c t) held = held
records_asked true (Writes c t v) held = held

-- records that are known to stand are not judged
abbrev pub judged_unless : Bool → Query → Query
judged_unless true q = unjudged_of q
judged_unless false q = q

-- they are searched for the cell and the stamp of an access
abbrev pub sought_for : Machine → Access → Query
sought_for m a = sought_of (cells_of m) (first_of m (cell_asked a - 1)) (cell_asked a) (stamp_asked a)

unfoldable pub ask_by : Bool → Machine → Access → Ask
ask_by known m a = record { access = a; held = records_asked known a m.held; query = judged_unless known (sought_for m a) }

-- a state whose sizes do not stand asks of no cell
abbrev pub asked_if : Bool → Access → Access
asked_if true a = a
asked_if false a = NoAccess

unfoldable pub ask_of : Bool → Machine → ℕ → Step → Ask
ask_of known m lent s = ask_by known m (asked_if (sizes_stand m lent) (asked m s))

-- to know what the queue holds, the slot of the rank is searched
unfoldable pub rank_ask_of : Machine → ℕ → ℕ → Ask
rank_ask_of m lent k = ask_by false m (asked_if (sizes_stand m lent) (Reads (slot_cell m.shape k) 0))
