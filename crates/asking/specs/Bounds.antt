-- What the private functions of this crate lean on; no public contract speaks of it. Assumes nothing.
use Rattle.std.specs.Prelude.{◌≤◌}
use Rattle.state.specs.declared.Shape.{Shape}

-- what keeps the numbers of slots' cells small
pub record Small (s : Shape) : Type 0 where
  pub some : 1 ≤ s.slots
  pub slots : s.slots ≤ 16
  pub plain : s.plain ≤ 16
