use Rattle.state.proofs.zero_atomic.Goals as goal

pub returns : goal.returns
returns c = rw c.zero_view-view.ensures
