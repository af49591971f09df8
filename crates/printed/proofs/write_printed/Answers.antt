use native.Mathlib.Omega.{arith}
use Rattle.number.proofs.Stores.{wrote_length, wrote_then}
use Rattle.printed.proofs.Laws.{length_three, length_two}
use Rattle.printed.specs.Printed.{printed_text}
use Rattle.printed.proofs.write_printed.Goals as goal

pub write_ended-p-requires : goal.write_ended-p-requires
write_ended-p-requires c = omega (arith, rw (c.in-Two.is, length_two) at c.requires)

pub write_ended-requires : goal.write_ended-requires
write_ended-requires c =
    omega (arith, rw (c.in-Two.is, length_two) at c.requires, wrote_length c.write_ended-p.ensures)

pub write_ended-p-requires-in-Three : goal.write_ended-p-requires-in-Three
write_ended-p-requires-in-Three c = omega (arith, rw (c.in-Three.is, length_three) at c.requires)

pub write_ended-q-requires : goal.write_ended-q-requires
write_ended-q-requires c =
    omega (arith, rw (c.in-Three.is, length_three) at c.requires, wrote_length c.write_ended-p-in-Three.ensures)

pub write_ended-requires-in-Three : goal.write_ended-requires-in-Three
write_ended-requires-in-Three c =
    omega (arith, rw (c.in-Three.is, length_three) at c.requires, wrote_length c.write_ended-p-in-Three.ensures, wrote_length c.write_ended-q.ensures)

pub returns-in-Two : goal.returns-in-Two
unfolding printed_text
returns-in-Two c =
    rw c.in-Two.is (wrote_then c.write_ended-p.ensures c.write_ended.ensures)

pub returns-in-Three : goal.returns-in-Three
unfolding printed_text
returns-in-Three c =
    rw c.in-Three.is (wrote_then c.write_ended-p-in-Three.ensures (wrote_then c.write_ended-q.ensures c.write_ended-in-Three.ensures))
