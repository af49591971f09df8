use mathlib.Core.Path.{◌∙◌}
use Rattle.standing.proofs.Found.{stands_found}
use Rattle.standing.proofs.state_stands.Goals as goal

pub returns : goal.returns
returns c =
    c.stands_by.ensures ∙ rw (c.search-q.ensures, c.held_of.ensures, c.asked_of.ensures) (stands_found c.args.m c.args.ws.now 0 0 0)
