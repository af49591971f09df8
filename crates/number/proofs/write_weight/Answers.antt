use native.Mathlib.Omega.{arith}
use Rattle.number.proofs.Decimal.{length_weight}
use Rattle.number.proofs.Stores.{wrote_then}
use Rattle.number.specs.Text.{weight_text}
use Rattle.number.proofs.write_weight.Goals as goal

pub write_number-p-requires : goal.write_number-p-requires
write_number-p-requires c = omega (arith, length_weight c.args.v)

pub write_bytes-q-requires : goal.write_bytes-q-requires
write_bytes-q-requires c = omega (arith, length_weight c.args.v)

pub write_last-requires : goal.write_last-requires
write_last-requires c = omega (arith, length_weight c.args.v)

pub returns : goal.returns
unfolding weight_text
returns c =
    wrote_then c.write_number-p.ensures (wrote_then c.write_bytes-q.ensures c.write_last.ensures)
