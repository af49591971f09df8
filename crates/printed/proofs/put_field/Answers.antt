use Rattle.printed.specs.Printed.{field_text}
use Rattle.printed.proofs.put_field.Goals as goal

pub returns-in-Says : goal.returns-in-Says
unfolding field_text
returns-in-Says c = rw c.in-Says.is (rw c.letters.ensures at c.put_bytes.ensures)

pub returns-in-Counts : goal.returns-in-Counts
unfolding field_text
returns-in-Counts c = rw c.in-Counts.is c.put_number.ensures

pub returns-in-Weighs : goal.returns-in-Weighs
unfolding field_text
returns-in-Weighs c = rw c.in-Weighs.is c.put_weight.ensures
