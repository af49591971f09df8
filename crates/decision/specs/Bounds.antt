-- What the private functions of this crate lean on; no public contract speaks of it. Assumes nothing.
use Rattle.std.specs.Prelude.{◌≤◌}
use Rattle.state.specs.declared.Machine.{Machine}

-- what keeps the counts and the status numbers small
pub record Sized (m : Machine) : Type 0 where
  pub slots : m.shape.slots ≤ 16
  pub steps : m.steps ≤ 4096
  pub held : m.held ≤ 1024
