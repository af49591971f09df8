-- A state that fits, with one part of it changed. Assumes nothing.
use mathlib.Core.Path.{◌≡◌}
use mathlib.Core.Bool.{true}
use mathlib.Core.List.{List}
use Prim.Native.Nat.{ℕ, ◌+◌, ◌<◌}
use native.Mathlib.Numerals.{add-one}
use native.Mathlib.Omega.{arith}
use lib.ListN.{length, set}
use Rattle.parts.specs.Parts.{firsts_stand}
use Rattle.rules.proofs.Standing.{NotesFit, AtomicFits, AllFit, high_status, Fits}
use Rattle.laws.proofs.Lists.{set_length, set_either}
use Rattle.state.specs.Fields.{with_held, with_flags, with_head, with_tail, with_statuses}
use Rattle.state.specs.State.{zero_atomic, at, cells_of, row, with_row, place, with_place, atomic_at, with_atomic, first_of}
use Rattle.state.specs.declared.Atomic.{Atomic}
use Rattle.state.specs.declared.Machine.{Machine}
use Rattle.state.specs.declared.Name.{Name}
use Rattle.state.specs.declared.Name.TheVariants.{Head, Tail, Flag, Status}
use Rattle.state.specs.declared.Place.{Place}
use Rattle.state.specs.declared.Place.TheVariants.{Idle}
use Rattle.state.specs.declared.Shape.{Shape}
use Rattle.state.specs.declared.Thread.{Thread}
use Rattle.step.specs.Limit.{most}
use Rattle.view.specs.View.{zero_view, view_stands}
use Rattle.view.specs.declared.View.{View}
use Rattle.writes.proofs.History.{records_stand_more}
use Rattle.writes.specs.History.{record_stands}
use Rattle.writes.specs.declared.Write.{Write}

-- the names of a machine's own atomic cells
abbrev pub Known : Shape → Name → Type 0
Known s Head = Unit {0}
Known s Tail = Unit {0}
Known s (Flag f) = f < s.flags
Known s (Status i) = i < s.slots

-- the greatest value of an atomic cell after n steps
abbrev pub highest : Shape → ℕ → Name → ℕ
highest s n Head = n
highest s n Tail = n
highest s n (Flag f) = most
highest s n (Status i) = high_status s n

-- an atomic cell by its name
pub atomic_at_lem : (n : ℕ) (m : Machine) (ws : List Write) → Fits n m ws → (a : Name) → Known m.shape a
    → AtomicFits (cells_of m) (highest m.shape n a) (atomic_at m a)
unfolding atomic_at
atomic_at_lem n m ws f Head h = f.head
atomic_at_lem n m ws f Tail h = f.tail
atomic_at_lem n m ws f (Flag i) h = f.flags i h
atomic_at_lem n m ws f (Status i) h = f.statuses i h

-- one step more
pub raised : (n : ℕ) (m : Machine) (ws : List Write) → n < 4096 → Fits n m ws → Fits (n + 1) m ws
raised n m ws h f =
    record {
      shape = f.shape;
      counts = (omega arith, f.counts.1, f.counts.2);
      places = λ i l. let p = f.places i l in (omega (arith, p.0), p.1);
      rows = f.rows;
      firsts = f.firsts;
      flags = f.flags;
      head = (omega (arith, f.head.0), f.head.1);
      tail = (omega (arith, f.tail.0), f.tail.1);
      statuses = λ i l. let p = f.statuses i l in (omega (arith, p.0), p.1);
      records = f.records;
    }

-- a row replaced
pub row_fits : (n : ℕ) (m : Machine) (ws : List Write) (i : ℕ) (v : View) → Fits n m ws → view_stands (cells_of m) v ≡ true
    → Fits n (with_row m i v) ws
unfolding with_row row place cells_of firsts_stand first_of
row_fits n m ws i v f h =
    record {
      shape = f.shape;
      counts = f.counts;
      places = f.places;
      rows = λ j l. set_either (λ (x : View). view_stands (cells_of m) x ≡ true) m.views i j v zero_view h (f.rows j l);
      firsts = f.firsts;
      flags = f.flags;
      head = f.head;
      tail = f.tail;
      statuses = f.statuses;
      records = f.records;
    }

-- a place replaced
pub place_fits : (n : ℕ) (m : Machine) (ws : List Write) (i : ℕ) (p : Place) → Fits n m ws → NotesFit n p → Fits n (with_place m i p) ws
unfolding with_place row place cells_of firsts_stand first_of
place_fits n m ws i p f h =
    record {
      shape = f.shape;
      counts = f.counts;
      places = λ j l. set_either (λ (x : Thread). NotesFit n x.place) m.threads i j (at p) (at Idle) h (f.places j l);
      rows = f.rows;
      firsts = f.firsts;
      flags = f.flags;
      head = f.head;
      tail = f.tail;
      statuses = f.statuses;
      records = f.records;
    }

-- the machine with its atomic cells replaced
abbrev with_atomics : Machine → List Atomic → Atomic → Atomic → List Atomic → Machine
with_atomics m fs h t ss = with_statuses (with_tail (with_head (with_flags m fs) h) t) ss

-- the atomic cells replaced by some that fit
atomics_fit : (n : ℕ) (m : Machine) (ws : List Write) (fs : List Atomic) (h t : Atomic) (ss : List Atomic) → Fits n m ws
    → AllFit (cells_of m) most m.shape.flags fs → AtomicFits (cells_of m) n h → AtomicFits (cells_of m) n t
    → AllFit (cells_of m) (high_status m.shape n) m.shape.slots ss
    → Fits n (with_atomics m fs h t ss) ws
unfolding row place cells_of firsts_stand first_of
atomics_fit n m ws fs h t ss f flags head tail statuses =
    record {
      shape = f.shape;
      counts = f.counts;
      places = f.places;
      rows = f.rows;
      firsts = f.firsts;
      flags = flags;
      head = head;
      tail = tail;
      statuses = statuses;
      records = f.records;
    }

-- one atomic cell of a list replaced
set_fit : (k high count : ℕ) (l : List Atomic) (i : ℕ) (a : Atomic) → AllFit k high count l → AtomicFits k high a → AllFit k high count (set l i a)
set_fit k high count l i a f h j b = set_either (AtomicFits k high) l i j a zero_atomic h (f j b)

-- an atomic cell replaced
pub atomic_fits : (n : ℕ) (m : Machine) (ws : List Write) (a : Name) (x : Atomic) → Fits n m ws
    → AtomicFits (cells_of m) (highest m.shape n a) x → Fits n (with_atomic m a x) ws
unfolding with_atomic
atomic_fits n m ws Head x f h = atomics_fit n m ws _ _ _ _ f f.flags h f.tail f.statuses
atomic_fits n m ws Tail x f h = atomics_fit n m ws _ _ _ _ f f.flags f.head h f.statuses
atomic_fits n m ws (Flag i) x f h = atomics_fit n m ws _ _ _ _ f (set_fit _ _ _ m.flags i x f.flags h) f.head f.tail f.statuses
atomic_fits n m ws (Status i) x f h = atomics_fit n m ws _ _ _ _ f f.flags f.head f.tail (set_fit _ _ _ m.statuses i x f.statuses h)

-- one write more is held
pub held_fits : (n : ℕ) (m : Machine) (ws : List Write) (w : Write) → Fits n m ws → m.held < 1024 → m.held < length ws
    → record_stands (cells_of m) w ≡ true → Fits n (with_held m (m.held + 1)) (set ws m.held w)
unfolding row place cells_of firsts_stand first_of
held_fits n m ws w f h l r =
    record {
      shape = f.shape;
      counts = (f.counts.0, omega arith, omega (arith, set_length ws m.held w));
      places = f.places;
      rows = f.rows;
      firsts = f.firsts;
      flags = f.flags;
      head = f.head;
      tail = f.tail;
      statuses = f.statuses;
      records = rw add-one (records_stand_more (cells_of m) ws w m.held l f.records r);
    }
