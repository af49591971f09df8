use mathlib.Core.Path.{◌≡◌}
use lib.ListN.{length}
use borrow.Author.Rules.{rules}
use Rattle.decision.proofs.Settled.{content_settled}
use Rattle.machine.proofs.content.Goals as goal
use Rattle.machine.proofs.content.Goals.{Start}

-- as many records are lent as the array holds
long : (c : Start) → length c.args.ws ≡ 1024
long c = search rules

pub returns : goal.returns
returns c =
    rw (c.content_by.ensures, c.search_kept-found.ensures, c.ask_rank-ask.ensures, ← long (goal.at.returns c).Start)
    (content_settled c.args.m c.args.ws c.args.rank)
