use native.Mathlib.Omega.{arith}
use lib.ListN.{length-append}
use Rattle.form.specs.Text.{fields_text}
use Rattle.number.proofs.Stores.{wrote_then}
use Rattle.writer.proofs.write_fields.Goals as goal

pub write_lead-p-requires : goal.write_lead-p-requires
unfolding fields_text
write_lead-p-requires c = omega (arith, rw length-append at c.requires)

pub write_form-requires : goal.write_form-requires
unfolding fields_text
write_form-requires c = omega (arith, rw length-append at c.requires)

pub returns : goal.returns
unfolding fields_text
returns c = wrote_then c.write_lead-p.ensures c.write_form.ensures
