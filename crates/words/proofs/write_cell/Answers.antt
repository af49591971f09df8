use native.Mathlib.Omega.{arith}
use Rattle.words.proofs.write_cell.Goals as goal

pub returns : goal.returns
returns c =
    record { wrote = rw (← c.atomic_of-a.ensures) c.write_entry.ensures.wrote; value = omega (arith, c.write_entry.ensures.value) }
