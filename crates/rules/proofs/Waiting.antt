-- A take past its swap, and one that waits to read its slot: where they are. Assumes nothing.
use mathlib.Core.Path.{◌≡◌}
use Prim.Native.Nat.{ℕ, ◌+◌, ◌-◌, ◌≤◌}
use native.Mathlib.Omega.{arith}
use Rattle.rules.specs.Access.{slot_cell}
use Rattle.rules.proofs.Listed.{Marked}
use Rattle.rules.proofs.Ring.{empties}
use Rattle.rules.proofs.Ringed.{stage}
use Rattle.rules.specs.Log.{taking}
use Rattle.rank.specs.Rank.{slot_of}
use Rattle.standing.proofs.Bounds.{Bounds}
use Rattle.state.specs.declared.Machine.{Machine}
use Rattle.state.specs.declared.Place.{Place}
use Rattle.state.specs.declared.Place.TheVariants.{Idle, PutStatus, PutSwap, PutWrite, PutPublish, TakeStatus, TakeSwap, TakeRead, TakeFree}

-- a take that has won is past its swap
pub past : (k r : ℕ) (q : Place) → Marked (taking k r) q → 3 ≤ k → empties (stage q) r
past k r Idle e l = absurd (let z : ◌≡◌ {A = ℕ} 0 1 = cc in omega arith)
past k r (PutStatus h w) e l = absurd (let z : ◌≡◌ {A = ℕ} 0 1 = cc in omega arith)
past k r (PutSwap h w) e l = absurd (let z : ◌≡◌ {A = ℕ} 0 1 = cc in omega arith)
past k r (PutWrite h w) e l = absurd (let z : ◌≡◌ {A = ℕ} 0 1 = cc in omega arith)
past k r (PutPublish h) e l = absurd (let d = e.1 in let z : ◌≡◌ {A = ℕ} 0 1 = cc in omega arith)
past k r (TakeStatus t) e l = absurd (omega (arith, let d : k ≡ 1 = cc in d))
past k r (TakeSwap t) e l = absurd (omega (arith, let d : k ≡ 2 = cc in d))
past k r (TakeRead t) e l = cc
past k r (TakeFree t w) e l = cc

-- one that waits to read is at its read
pub waits : (r : ℕ) (q : Place) → Marked (taking 3 r) q → q ≡ TakeRead r
waits r Idle e = cc
waits r (PutStatus h w) e = cc
waits r (PutSwap h w) e = cc
waits r (PutWrite h w) e = cc
waits r (PutPublish h) e = let d = e.1 in cc
waits r (TakeStatus t) e = cc
waits r (TakeSwap t) e = cc
waits r (TakeRead t) e = cc
waits r (TakeFree t w) e = cc

-- the slot of rank r in a view
abbrev pub spot : Machine → ℕ → ℕ
spot m r = m.shape.plain + slot_of m.shape.slots r

pub cell : (m : Machine) (r : ℕ) → Bounds m.shape → slot_cell m.shape r - 1 ≡ spot m r
unfolding slot_cell
cell m r B = omega arith
