use mathlib.Core.Path.{refl}
use Rattle.turn.proofs.go_on.Goals as goal

pub returns : goal.returns
returns c =
    let put = rw c.answer_line.ensures at c.put_next-next.ensures in
    rw (← c.refused.ensures, c.in_default.is, c.next_step-ahead.ensures, put.0) (refl, put.1)
