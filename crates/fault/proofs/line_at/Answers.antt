use Rattle.std.proofs.Common.{rules}
use Rattle.fault.specs.Refusal.{line_at}
use Rattle.fault.proofs.Laws.{up_to, up_to_end}
use Rattle.fault.proofs.line_at.Goals as goal

pub returns-in-Some : goal.returns-in-Some
unfolding line_at
returns-in-Some c = search (rules, up_to)

pub returns-in-None : goal.returns-in-None
unfolding line_at
returns-in-None c = search (rules, up_to_end)
