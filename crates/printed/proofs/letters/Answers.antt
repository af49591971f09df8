use Rattle.printed.specs.Printed.{spelled}
use Rattle.printed.proofs.letters.Goals as goal

pub returns-in-Answers : goal.returns-in-Answers
unfolding spelled
returns-in-Answers c = rw c.in-Answers.is

pub returns-in-Queue : goal.returns-in-Queue
unfolding spelled
returns-in-Queue c = rw c.in-Queue.is

pub returns-in-Refused : goal.returns-in-Refused
unfolding spelled
returns-in-Refused c = rw c.in-Refused.is

pub returns-in-Text : goal.returns-in-Text
unfolding spelled
returns-in-Text c = rw c.in-Text.is

pub returns-in-Dash : goal.returns-in-Dash
unfolding spelled
returns-in-Dash c = rw c.in-Dash.is

pub returns-in-Ok : goal.returns-in-Ok
unfolding spelled
returns-in-Ok c = rw c.in-Ok.is

pub returns-in-Yes : goal.returns-in-Yes
unfolding spelled
returns-in-Yes c = rw c.in-Yes.is

pub returns-in-No : goal.returns-in-No
unfolding spelled
returns-in-No c = rw c.in-No.is

pub returns-in-None : goal.returns-in-None
unfolding spelled
returns-in-None c = rw c.in-None.is

pub returns-in-Got : goal.returns-in-Got
unfolding spelled
returns-in-Got c = rw c.in-Got.is
