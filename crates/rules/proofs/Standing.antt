-- A state that stands, as plain facts. Assumes nothing.
use mathlib.Core.Path.{◌≡◌}
use mathlib.Core.Bool.{true}
use mathlib.Core.List.{List}
use Prim.Native.Nat.{ℕ, ◌+◌, ◌*◌, ◌<◌, ◌≤◌}
use native.Mathlib.Nat.{mod-lt}
use borrow.Author.Tests.{leb-true, le-leb}
use lib.ListN.{length, get_or}
use Rattle.laws.proofs.Tests.{apart, together, each, every}
use Rattle.parts.specs.Parts.{thread_stands, threads_stand, firsts_stand, atomic_stands, atomics_stand, cells_stand, parts_stand}
use Rattle.places.specs.Places.{rank_of, weight_of, place_stands}
use Rattle.rank.specs.Rank.{slot_of}
use Rattle.standing.specs.Stands.{in_shape, shape_stands, sizes_stand, stands}
use Rattle.state.specs.Fields.{with_steps}
use Rattle.state.specs.State.{zero_atomic, cells_of, row, place, atomic_at, first_of}
use Rattle.state.specs.declared.Atomic.{Atomic}
use Rattle.state.specs.declared.Machine.{Machine}
use Rattle.state.specs.declared.Place.{Place}
use Rattle.state.specs.declared.Shape.{Shape}
use Rattle.step.specs.Limit.{most}
use Rattle.view.specs.View.{view_stands}
use Rattle.writes.specs.History.{records_stand}
use Rattle.writes.specs.declared.Write.{Write}

-- what a place may note after n steps
abbrev pub NotesFit : ℕ → Place → Type 0
NotesFit n p = (rank_of p ≤ n) × (weight_of p ≤ most)

-- an atomic cell's value is at most so much, and its view stands
abbrev pub AtomicFits : ℕ → ℕ → Atomic → Type 0
AtomicFits k high a = (a.value ≤ high) × (view_stands k a.view ≡ true)

-- so do the first so many of a list
abbrev pub AllFit : ℕ → ℕ → ℕ → List Atomic → Type 0
AllFit k high count l = (i : ℕ) → i < count → AtomicFits k high (get_or l i zero_atomic)

-- a status is at most 2(steps + C) + 1
abbrev pub high_status : Shape → ℕ → ℕ
high_status s n = 2 * (n + s.slots) + 1

-- A state stands and its list with it, were n the count of its steps.
pub record Fits (n : ℕ) (m : Machine) (ws : List Write) : Type 0 where
  pub shape : shape_stands m.shape ≡ true
  pub counts : (n ≤ 4096) × (m.held ≤ 1024) × (m.held ≤ length ws)
  pub places : (i : ℕ) → i < m.shape.threads → NotesFit n (place m i)
  pub rows : (i : ℕ) → i < m.shape.threads → view_stands (cells_of m) (row m i) ≡ true
  pub firsts : firsts_stand m ≡ true
  pub flags : AllFit (cells_of m) most m.shape.flags m.flags
  pub head : AtomicFits (cells_of m) n m.head
  pub tail : AtomicFits (cells_of m) n m.tail
  pub statuses : AllFit (cells_of m) (high_status m.shape n) m.shape.slots m.statuses
  pub records : records_stand (cells_of m) ws m.held ≡ true

-- the test of a place as facts, and back
fit_notes : (n : ℕ) (p : Place) → place_stands n p ≡ true → NotesFit n p
unfolding place_stands
fit_notes n p e = let h = apart _ _ e in (leb-true _ _ h.0, leb-true _ _ h.1)

stand_notes : (n : ℕ) (p : Place) → NotesFit n p → place_stands n p ≡ true
unfolding place_stands
stand_notes n p f = together _ _ (le-leb _ _ f.0) (le-leb _ _ f.1)

-- the test of an atomic cell as facts, and back
fit_atomic : (k high : ℕ) (a : Atomic) → atomic_stands k high a ≡ true → AtomicFits k high a
unfolding atomic_stands
fit_atomic k high a e = let h = apart _ _ e in (leb-true _ _ h.0, h.1)

stand_atomic : (k high : ℕ) (a : Atomic) → AtomicFits k high a → atomic_stands k high a ≡ true
unfolding atomic_stands
stand_atomic k high a f = together _ _ (le-leb _ _ f.0) f.1

-- a state that stands fits at its own count of steps
pub standing : (m : Machine) (ws : List Write) → stands m ws ≡ true → Fits m.steps m ws
unfolding stands sizes_stand parts_stand threads_stand thread_stands cells_stand atomics_stand atomic_at
standing m ws e =
    let sizes = apart _ _ (apart _ _ e).0 in
    let counts = apart _ _ sizes.1 in
    let held = apart _ _ counts.1 in
    let rest = apart _ _ (apart _ _ e).1 in
    let parts = apart _ _ rest.0 in
    let more = apart _ _ parts.1 in
    let flags = apart _ _ more.1 in
    let head = apart _ _ flags.1 in
    let tail = apart _ _ head.1 in
    record {
      shape = sizes.0;
      counts = (leb-true _ _ counts.0, leb-true _ _ held.0, leb-true _ _ held.1);
      places = λ i l. fit_notes _ _ (apart _ _ (each _ _ parts.0 i l)).0;
      rows = λ i l. (apart _ _ (each _ _ parts.0 i l)).1;
      firsts = more.0;
      flags = λ i l. fit_atomic _ _ _ (each _ _ flags.0 i l);
      head = fit_atomic _ _ _ head.0;
      tail = fit_atomic _ _ _ tail.0;
      statuses = λ i l. fit_atomic _ _ _ (each _ _ tail.1 i l);
      records = rest.1;
    }

-- a state that fits stands, so many steps counted
pub stand : (n : ℕ) (m : Machine) (ws : List Write) → Fits n m ws → stands (with_steps m n) ws ≡ true
unfolding stands sizes_stand parts_stand threads_stand thread_stands cells_stand atomics_stand atomic_at place row cells_of firsts_stand first_of
stand n m ws f =
    together _ _
    (together _ _ f.shape (together _ _ (le-leb _ _ f.counts.0) (together _ _ (le-leb _ _ f.counts.1) (le-leb _ _ f.counts.2))))
    (together _ _
    (together _ _ (every _ _ (λ i l. together _ _ (stand_notes _ _ (f.places i l)) (f.rows i l)))
    (together _ _ f.firsts
    (together _ _ (every _ _ (λ i l. stand_atomic _ _ _ (f.flags i l)))
    (together _ _ (stand_atomic _ _ _ f.head)
    (together _ _ (stand_atomic _ _ _ f.tail) (every _ _ (λ i l. stand_atomic _ _ _ (f.statuses i l))))))))
    f.records)

-- rank k's slot is one of the machine's
pub slot_in : (n : ℕ) (m : Machine) (ws : List Write) → Fits n m ws → (k : ℕ) → slot_of m.shape.slots k < m.shape.slots
unfolding shape_stands in_shape slot_of
slot_in n m ws f k = mod-lt k (leb-true _ _ (apart _ _ (apart _ _ (apart _ _ f.shape).0).1).0)
