use mathlib.Core.Path.{◌≡◌}
use lib.ListN.{take}
use lib.Seq.{sets}
use Rattle.number.proofs.write_bytes.Given as goal

-- the bytes before byte i were written
abbrev pub invariant-loop-i : goal.invariant-loop-i
invariant-loop-i l = l.buf ≡ sets l.initial.buf l.at (take l.i l.t)
