use Rattle.decision.proofs.Settled.{settled}
use Rattle.machine.proofs.step_by.Goals as goal

-- what is asked, found, decided and stored comes to the step's outcome
pub returns : goal.returns
returns c =
    rw (c.store.ensures, c.verdict_of-verdict.ensures, c.search-found.ensures, c.ask_of-ask.ensures)
    (settled c.args.m c.args.ws.now c.args.asked.known c.args.asked.step)
