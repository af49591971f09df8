-- The list of writes: the caller lends it as records of cell, stamp and value, in order of happening. Assumes nothing.
use Rattle.std.specs.Prelude.{List, ℕ, get_or, set}
use Rattle.writes.specs.declared.Access.{Access}
use Rattle.writes.specs.declared.Access.TheVariants.{NoAccess, Reads, Writes}
use Rattle.writes.specs.declared.Fill.{Fill}
use Rattle.writes.specs.declared.Write.{Write}

abbrev pub write : ℕ → ℕ → ℕ → Write
write c t v = record { cell = c; stamp = t; value = v }

abbrev pub no_write : Write
no_write = write 0 0 0

-- record n of a list
abbrev pub nth : List Write → ℕ → Write
nth ws n = get_or ws n no_write

-- A plain write fills the record after the held ones and changes no other.
unfoldable pub recorded : Access → ℕ → List Write → List Write
recorded NoAccess held ws = ws
recorded (Reads c t) held ws = ws
recorded (Writes c t v) held ws = set ws held (write c t v)

abbrev pub fill : ℕ → Write → Fill
fill n w = record { at = n; write = w }

-- the same as one record to set, past the last of the records lent where nothing is written
unfoldable pub fill_of : Access → ℕ → ℕ → Fill
fill_of NoAccess held lent = fill lent no_write
fill_of (Reads c t) held lent = fill lent no_write
fill_of (Writes c t v) held lent = fill held (write c t v)
