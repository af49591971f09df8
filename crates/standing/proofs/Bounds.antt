-- What the sizes of a standing state are. Assumes nothing.
use mathlib.Core.Path.{◌≡◌}
use mathlib.Core.Bool.{true}
use mathlib.Core.List.{List}
use Prim.Native.Nat.{ℕ, ◌<◌, ◌≤◌}
use borrow.Author.Tests.{leb-true}
use lib.ListN.{length}
use Rattle.laws.proofs.Tests.{apart, each}
use Rattle.parts.specs.Parts.{thread_stands, threads_stand, parts_stand}
use Rattle.places.specs.Places.{rank_of, place_stands}
use Rattle.standing.specs.Stands.{in_shape, shape_stands, sizes_stand, stands}
use Rattle.state.specs.State.{place}
use Rattle.state.specs.declared.Machine.{Machine}
use Rattle.state.specs.declared.Shape.{Shape}
use Rattle.writes.specs.declared.Write.{Write}

-- the four numbers of a shape in range
pub record Within (t c n f : ℕ) : Type 0 where
  pub some_thread : 1 ≤ t
  pub threads : t ≤ 8
  pub some_slot : 1 ≤ c
  pub slots : c ≤ 16
  pub plain : n ≤ 16
  pub flags : f ≤ 8

pub within_shape : (t c n f : ℕ) → in_shape t c n f ≡ true → Within t c n f
unfolding in_shape
within_shape t c n f e =
    let x = apart _ _ e in
    let y = apart _ _ x.0 in
    let z = apart _ _ x.1 in
    let p = apart _ _ y.0 in
    let q = apart _ _ y.1 in
    record {
      some_thread = leb-true _ _ p.0;
      threads = leb-true _ _ p.1;
      some_slot = leb-true _ _ q.0;
      slots = leb-true _ _ q.1;
      plain = leb-true _ _ z.0;
      flags = leb-true _ _ z.1;
    }

abbrev pub Bounds : Shape → Type 0
Bounds s = Within s.threads s.slots s.plain s.flags

-- the shape and the counts of a state whose sizes stand
pub record Sizes (m : Machine) (lent : ℕ) : Type 0 where
  pub shape : Bounds m.shape
  pub steps : m.steps ≤ 4096
  pub held : m.held ≤ 1024
  pub room : m.held ≤ lent

pub sizes : (m : Machine) (lent : ℕ) → sizes_stand m lent ≡ true → Sizes m lent
unfolding sizes_stand shape_stands
sizes m lent e =
    let x = apart _ _ e in
    let y = apart _ _ x.1 in
    let z = apart _ _ y.1 in
    record {
      shape = within_shape _ _ _ _ x.0;
      steps = leb-true _ _ y.0;
      held = leb-true _ _ z.0;
      room = leb-true _ _ z.1;
    }

-- the rank that a thread notes is at most the steps taken
pub noted : (m : Machine) (i : ℕ) → parts_stand m ≡ true → i < m.shape.threads → rank_of (place m i) ≤ m.steps
unfolding parts_stand threads_stand thread_stands place_stands
noted m i e l = leb-true _ _ (apart _ _ (apart _ _ (each (thread_stands m) m.shape.threads (apart _ _ e).0 i l)).0).0

pub bounds : (m : Machine) (ws : List Write) → stands m ws ≡ true → Bounds m.shape
unfolding stands
bounds m ws e = (sizes m (length ws) (apart _ _ e).0).shape
