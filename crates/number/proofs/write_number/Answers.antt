use Rattle.number.proofs.Decimal.{text_last}
use Rattle.number.proofs.write_number.Goals as goal

pub returns : goal.returns
returns c =
    rw (c.number_width-n.ensures, text_last) at c.write_last.ensures
