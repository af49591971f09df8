use mathlib.Core.Path.{◌≡◌}
use lib.Seq.{sets}
use Rattle.number.specs.Text.{last_digits}
use Rattle.number.proofs.write_last.Given as goal

abbrev pub invariant-loop-i : goal.invariant-loop-i
invariant-loop-i l = sets l.buf l.at (last_digits l.i l.t) ≡ sets l.initial.buf l.at (last_digits l.n l.v)
