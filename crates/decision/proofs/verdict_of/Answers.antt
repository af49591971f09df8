use mathlib.Core.Path.{sym, ◌∙◌}
use Rattle.decision.specs.Decision.{verdict_of}
use Rattle.decision.proofs.Known.{judged}
use Rattle.decision.proofs.verdict_of.Goals as goal

pub decide-decided-requires : goal.decide-decided-requires
decide-decided-requires c s =
    judged c.args.asked.known c.args.m c.args.lent c.args.asked.step c.args.q (sym c.stands_if.ensures ∙ s)

pub returns : goal.returns
unfolding verdict_of
returns c =
    rw (c.fill_of-fill.ensures, c.held_of.ensures, c.decide-decided.ensures, c.stands_if.ensures)
