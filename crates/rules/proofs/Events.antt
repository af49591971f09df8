-- What a taken step leaves, by the kind of its memory step: every change to the machine as a change of functions. Assumes nothing.
use mathlib.Core.Path.{◌≡◌, refl, ap, ◌∙◌}
use mathlib.Core.List.{List}
use mathlib.Core.Logic.{◌≢◌}
use Prim.Native.Nat.{ℕ, suc, ◌-◌, ◌<◌, ◌≤◌}
use native.Mathlib.Numerals.{add-one}
use native.Mathlib.Omega.{arith}
use lib.ListN.{length, get_or, set}
use Rattle.std.specs.Prelude.{Some, None}
use Rattle.atomic.specs.Atomic.{met, told, read_atomic, write_atomic}
use Rattle.laws.proofs.Lists.{set_here, set_else}
use Rattle.rules.specs.Access.{accessed}
use Rattle.rules.proofs.Updated.{Updated}
use Rattle.state.proofs.Changed.{Room, atomic_here, atomic_else, atomics_same, atomic_leaves}
use Rattle.state.specs.Fields.{with_steps}
use Rattle.state.specs.State.{atomic, at, row, with_row, place, with_place, atomic_at, with_atomic, first_of, Whole}
use Rattle.state.specs.declared.Machine.{Machine}
use Rattle.state.specs.declared.Name.{Name}
use Rattle.state.specs.declared.Place.{Place}
use Rattle.state.specs.declared.Place.TheVariants.{Idle}
use Rattle.state.specs.declared.Thread.{Thread}
use Rattle.view.specs.View.{zero_view, stamp_of, with_stamp}
use Rattle.view.specs.declared.View.{View}
use Rattle.writes.specs.History.{found}
use Rattle.writes.specs.Records.{write, recorded}
use Rattle.writes.specs.declared.Access.TheVariants.{Writes}
use Rattle.writes.specs.declared.Write.{Write}

-- thread i is at place q with view v, every other thread as it was
pub record Goes (m n : Machine) (i : ℕ) (q : Place) (v : View) : Type 0 where
  pub places : Updated (place m) i q (place n)
  pub rows : Updated (row m) i v (row n)

-- a plain read of v at stamp t of cell c
pub record Reading (m : Machine) (ws : List Write) (i c t v : ℕ) (q : Place) (n : Machine) : Type 0 where
  pub goes : Goes m n i q (row m i)
  pub cells : (a : Name) → atomic_at n a ≡ atomic_at m a
  pub held : n.held ≡ m.held
  pub low : stamp_of (row m i) (c - 1) ≤ t
  pub shown : found (first_of m (c - 1)) ws c t m.held ≡ Some v

-- a plain write of v at stamp t of cell c
pub record Writing (m : Machine) (ws : List Write) (i c t v : ℕ) (q : Place) (n : Machine) (us : List Write) : Type 0 where
  pub goes : Goes m n i q (with_stamp (row m i) (c - 1) t)
  pub cells : (a : Name) → atomic_at n a ≡ atomic_at m a
  pub held : n.held ≡ suc m.held
  pub filed : us ≡ set ws m.held (write c t v)
  pub room : m.held < length ws
  pub above : stamp_of (row m i) (c - 1) < t
  pub fresh : found (first_of m (c - 1)) ws c t m.held ≡ None

-- an atomic read of cell a
pub record Looking (m : Machine) (i : ℕ) (a : Name) (q : Place) (n : Machine) : Type 0 where
  pub goes : Goes m n i q (met m i a)
  pub cells : (b : Name) → atomic_at n b ≡ atomic_at m b
  pub held : n.held ≡ m.held

-- an atomic write of x to cell a
pub record Storing (m : Machine) (i : ℕ) (a : Name) (x : ℕ) (q : Place) (n : Machine) : Type 0 where
  pub goes : Goes m n i q (met m i a)
  pub here : atomic_at n a ≡ atomic x (told m i a)
  pub else : (b : Name) → b ≢ a → atomic_at n b ≡ atomic_at m b
  pub held : n.held ≡ m.held

module _ (m : Machine) (i : ℕ) (W : Whole m) (l : i < 8) where
  placed : (n : Machine) (q : Place) → n.threads ≡ set m.threads i (at q) → Updated (place m) i q (place n)
  unfolding place
  placed n q e =
      let now = ap (λ (ts : List Thread). (get_or ts i (at Idle)).place) e in
      record {
        here = now ∙ ap (λ (t : Thread). t.place) (set_here m.threads i (at q) (at Idle) (omega (arith, W.threads)));
        else = λ j h.
            ap (λ (ts : List Thread). (get_or ts j (at Idle)).place) e
            ∙ ap (λ (t : Thread). t.place) (set_else m.threads i j (at q) (at Idle) h);
      }

  rowed : (n : Machine) (v : View) → n.views ≡ set m.views i v → Updated (row m) i v (row n)
  unfolding row
  rowed n v e =
      record {
        here = ap (λ (vs : List View). get_or vs i zero_view) e ∙ set_here m.views i v zero_view (omega (arith, W.views));
        else = λ j h. ap (λ (vs : List View). get_or vs j zero_view) e ∙ set_else m.views i j v zero_view h;
      }

  module _ (q : Place) (k : ℕ) where
    pub is_reading : (ws : List Write) (c t v : ℕ) → stamp_of (row m i) (c - 1) ≤ t → found (first_of m (c - 1)) ws c t m.held ≡ Some v
        → Reading m ws i c t v q (with_steps (with_place m i q) k)
    unfolding with_place row
    is_reading ws c t v h e =
        let n = with_steps (with_place m i q) k in
        record {
          goes = record { places = placed n q refl; rows = record { here = refl; else = λ j _. refl } };
          cells = atomics_same m n refl refl refl refl;
          held = refl;
          low = h;
          shown = e;
        }

    pub is_writing : (ws : List Write) (c t v : ℕ) → m.held < length ws → stamp_of (row m i) (c - 1) < t
        → found (first_of m (c - 1)) ws c t m.held ≡ None
        → Writing m ws i c t v q (with_steps (with_place (accessed m i (Writes c t v)) i q) k) (recorded (Writes c t v) m.held ws)
    unfolding with_place accessed with_row recorded
    is_writing ws c t v r h e =
        let n = with_steps (with_place (accessed m i (Writes c t v)) i q) k in
        record {
          goes = record { places = placed n q refl; rows = rowed n _ refl };
          cells = atomics_same m n refl refl refl refl;
          held = add-one _;
          filed = refl;
          room = r;
          above = h;
          fresh = e;
        }

    pub is_looking : (a : Name) → Looking m i a q (with_steps (with_place (read_atomic m i a) i q) k)
    unfolding with_place read_atomic with_row
    is_looking a =
        let n = with_steps (with_place (read_atomic m i a) i q) k in
        record { goes = record { places = placed n q refl; rows = rowed n _ refl }; cells = atomics_same m n refl refl refl refl; held = refl }

    pub is_storing : (a : Name) (x : ℕ) → Room a → Storing m i a x q (with_steps (with_place (write_atomic m i a x) i q) k)
    unfolding with_place write_atomic with_row
    is_storing a x h =
        let w = with_row m i (met m i a) in
        let y = atomic x (told m i a) in
        let u = with_atomic w a y in
        let n = with_steps (with_place u i q) k in
        let same = atomics_same u n refl refl refl refl in
        record {
          goes = record {
            places = placed n q (atomic_leaves (λ s h f v t. set t i (at q)) w a y);
            rows = rowed n _ (atomic_leaves (λ s h f v t. v) w a y);
          };
          here = same a ∙ atomic_here w a y W.flags W.statuses h;
          else = λ b d. same b ∙ atomic_else w a b y d ∙ atomics_same m w refl refl refl refl b;
          held = atomic_leaves (λ s h f v t. h) w a y;
        }
