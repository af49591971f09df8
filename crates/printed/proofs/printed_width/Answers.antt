use Rattle.printed.proofs.Laws.{length_ended, length_three, length_two}
use Rattle.printed.proofs.printed_width.Goals as goal

pub returns-in-Two : goal.returns-in-Two
returns-in-Two c = rw (c.in-Two.is, length_two, length_ended, length_ended, c.field_width.ensures.0, c.field_width-in-Two.ensures.0)

pub returns-in-Three : goal.returns-in-Three
returns-in-Three c = rw (c.in-Three.is, length_three, length_ended, length_ended, length_ended, c.field_width-in-Three.ensures.0, c.field_width-in-Three-2.ensures.0, c.field_width-in-Three-3.ensures.0)
