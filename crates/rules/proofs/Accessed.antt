-- A plain access leaves the shape and every place. Assumes nothing.
use mathlib.Core.Path.{◌≡◌, refl}
use Prim.Native.Nat.{ℕ}
use Rattle.rules.specs.Access.{accessed}
use Rattle.state.specs.State.{with_row, place}
use Rattle.state.specs.declared.Machine.{Machine}
use Rattle.writes.specs.declared.Access.{Access}
use Rattle.writes.specs.declared.Access.TheVariants.{NoAccess, Reads, Writes}

pub accessed_shape : (m : Machine) (i : ℕ) (a : Access) → (accessed m i a).shape ≡ m.shape
unfolding accessed with_row
accessed_shape m i NoAccess = refl
accessed_shape m i (Reads c t) = refl
accessed_shape m i (Writes c t v) = refl

pub accessed_place : (m : Machine) (i : ℕ) (a : Access) (j : ℕ) → place (accessed m i a) j ≡ place m j
unfolding accessed with_row place
accessed_place m i NoAccess j = refl
accessed_place m i (Reads c t) j = refl
accessed_place m i (Writes c t v) j = refl
