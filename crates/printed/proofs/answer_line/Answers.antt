use Rattle.std.proofs.Common.{rules}
use Rattle.printed.specs.Printed.{answer_line}
use Rattle.printed.proofs.answer_line.Goals as goal

pub returns-in-Dash : goal.returns-in-Dash
unfolding answer_line
returns-in-Dash c = rw c.in-Dash.is

pub returns-in-Ok : goal.returns-in-Ok
unfolding answer_line
returns-in-Ok c = rw c.in-Ok.is

pub returns-in-Value : goal.returns-in-Value
unfolding answer_line
returns-in-Value c = rw c.in-Value.is

pub returns-in-Yes : goal.returns-in-Yes
unfolding answer_line
returns-in-Yes c = rw c.in-Yes.is

pub returns-in-No : goal.returns-in-No
unfolding answer_line
returns-in-No c = rw c.in-No.is

pub returns-in-None : goal.returns-in-None
unfolding answer_line
returns-in-None c = rw c.in-None.is

pub returns-in-Got : goal.returns-in-Got
unfolding answer_line
returns-in-Got c = rw c.in-Got.is

pub returns-in-Refused : goal.returns-in-Refused
unfolding answer_line
returns-in-Refused c = search (rules, c.in-Refused.is)
