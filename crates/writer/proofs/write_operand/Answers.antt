use Rattle.form.specs.Text.{operand_text}
use Rattle.writer.proofs.Laws.{wrote_none, wrote_two}
use Rattle.writer.proofs.write_operand.Goals as goal

pub returns-in-Nothing : goal.returns-in-Nothing
unfolding operand_text
returns-in-Nothing c = rw c.in-Nothing.is (wrote_none _ _)

pub returns-in-Count : goal.returns-in-Count
unfolding operand_text
returns-in-Count c =
    rw c.in-Count.is
    (wrote_two _ _ (rw c.in-Count.is at c.requires) c.put_byte.ensures c.unwrap_or-p.ensures c.put_number.ensures c.unwrap_or.ensures)

pub returns-in-Thousandths : goal.returns-in-Thousandths
unfolding operand_text
returns-in-Thousandths c =
    rw c.in-Thousandths.is
    (wrote_two _ _ (rw c.in-Thousandths.is at c.requires) c.put_byte-in-Thousandths.ensures c.unwrap_or-p-in-Thousandths.ensures
    c.put_weight.ensures c.unwrap_or-in-Thousandths.ensures)
