-- A fresh machine stands, and what a refused opening gives does not. Assumes nothing.
use mathlib.Core.Path.{◌≡◌, refl}
use mathlib.Core.Bool.{Bool, true, false}
use mathlib.Core.List.{List}
use Prim.Native.Nat.{ℕ, ◌<◌, ◌≤◌}
use native.Mathlib.Omega.{arith}
use borrow.Author.Tests.{leb-true, le-leb}
use lib.Dec.{ltb}
use lib.ListN.{length, get_or, replicate, length-replicate}
use Rattle.parts.specs.Parts.{firsts_stand}
use Rattle.rules.proofs.Standing.{AllFit, Fits, stand}
use Rattle.rules.proofs.Views.{stamps}
use Rattle.rules.specs.Kept.{FreshStands, RefusedFalls}
use Rattle.laws.proofs.Lists.{replicated, filled_here}
use Rattle.laws.proofs.Tests.{apart, each, every}
use Rattle.laws.specs.Lists.{filled}
use Rattle.laws.specs.Tests.{◌and◌, all_below}
use Rattle.opening.specs.Opening.{weights_stand, given_room, flags_room, statuses_room, unmoved, fresh, refused_opening, opened_if, opened_of}
use Rattle.rank.specs.Rank.{free_status}
use Rattle.standing.specs.Stands.{in_shape, shape_stands, sizes_stand, stands}
use Rattle.state.specs.State.{atomic, zero_atomic, at, row, place, given_if, first_of}
use Rattle.state.specs.declared.Machine.{Machine}
use Rattle.state.specs.declared.Place.TheVariants.{Idle}
use Rattle.step.specs.Answer.{number_of}
use Rattle.step.specs.Limit.{most}
use Rattle.view.specs.View.{zero_view, stamp_of, view_stands}
use Rattle.writes.specs.History.{records_stand}
use Rattle.writes.specs.declared.Write.{Write}

-- every stamp of the zero view is 0
zero_stands : (k : ℕ) → view_stands k zero_view ≡ true
unfolding stamp_of
zero_stands k = stamps k zero_view (λ i l. rw (replicated {A = ℕ} 32 0 i) (omega arith))

-- a list of atomic cells filled with values and zero views
filled_fit : (k high : ℕ) (f : ℕ → ℕ) (n room : ℕ) → n ≤ room → ((i : ℕ) → i < n → f i ≤ high)
    → AllFit k high n (filled (λ i. atomic (f i) zero_view) n (replicate room zero_atomic))
filled_fit k high f n room h p i l =
    rw (filled_here (λ j. atomic (f j) zero_view) n (replicate room zero_atomic) i zero_atomic l (rw (length-replicate room zero_atomic) h))
    (p i l, zero_stands k)

-- a weight of a list whose weights are in range
weight : (vs : List ℕ) → weights_stand vs ≡ true → (i : ℕ) → i < length vs → get_or vs i 0 ≤ most
unfolding weights_stand
weight vs e i l = leb-true _ _ (each _ _ e i l)

-- the room of the plain cells' first values
room_fits : (vs : List ℕ) → length vs ≤ 16 → weights_stand vs ≡ true → (i : ℕ) → i < length vs → get_or (given_room vs) i 0 ≤ most
unfolding given_room
room_fits vs h e i l = rw (filled_here (λ j. get_or vs j 0) (length vs) (replicate 16 0) i 0 l h) (weight vs e i l)

-- a value given or 0
given_fits : (b : Bool) (v : ℕ) → v ≤ most → given_if b v ≤ most
given_fits true v h = h
given_fits false v h = omega arith

-- a fresh machine as plain facts
fresh_fits : (t c : ℕ) (plain flags : List ℕ) (ws : List Write) → in_shape t c (length plain) (length flags) ≡ true
    → weights_stand plain ≡ true → weights_stand flags ≡ true → Fits 0 (fresh t c plain flags) ws
unfolding fresh unmoved shape_stands in_shape place row firsts_stand first_of flags_room statuses_room free_status records_stand all_below
fresh_fits t c plain flags ws e p q =
    let small = apart _ _ e in
    let slots : c ≤ 16 = leb-true _ _ (apart _ _ (apart _ _ small.0).1).1 in
    let cells : length plain ≤ 16 = leb-true _ _ (apart _ _ small.1).0 in
    let names : length flags ≤ 8 = leb-true _ _ (apart _ _ small.1).1 in
    record {
      shape = e;
      counts = (omega arith, omega arith, omega arith);
      places = λ i l. rw (replicated 8 (at Idle) i) (omega arith, omega arith);
      rows = λ i l. rw (replicated 8 zero_view i) (zero_stands _);
      firsts = every _ _ (λ i l. le-leb _ _ (given_fits (ltb i (length plain)) _ (room_fits plain cells p i l)));
      flags = filled_fit _ most (λ i. get_or flags i 0) (length flags) 8 names (weight flags q);
      head = (omega arith, zero_stands _);
      tail = (omega arith, zero_stands _);
      statuses = filled_fit _ _ free_status c 16 slots (λ i l. omega arith);
      records = refl;
    }

-- where an opening answers no number, both its tests hold
opened_stands : (b d : Bool) (m : Machine) (ws : List Write) → (b ≡ true → d ≡ true → stands m ws ≡ true)
    → number_of (opened_if b d m).answer ≡ 0 → stands (opened_if b d m).machine ws ≡ true
unfolding refused_opening
opened_stands false d m ws f e = absurd (omega arith)
opened_stands true false m ws f e = absurd (omega arith)
opened_stands true true m ws f e = f refl refl

-- A fresh machine stands, whatever list is lent.
pub fresh_stands : FreshStands
unfolding opened_of fresh unmoved
fresh_stands t c plain flags ws e =
    opened_stands (in_shape t c (length plain) (length flags)) (weights_stand plain and weights_stand flags) (fresh t c plain flags) ws
    (λ b d. let w = apart _ _ d in stand 0 (fresh t c plain flags) ws (fresh_fits t c plain flags ws b w.0 w.1)) e

-- a machine with no threads does not stand
opened_falls : (b d : Bool) (m : Machine) (ws : List Write) → 0 < number_of (opened_if b d m).answer
    → stands (opened_if b d m).machine ws ≡ false
unfolding refused_opening unmoved stands sizes_stand shape_stands in_shape ◌and◌
opened_falls false d m ws h = refl
opened_falls true false m ws h = refl
opened_falls true true m ws h = absurd (omega arith)

-- What a refused opening gives does not stand.
pub refused_falls : RefusedFalls
unfolding opened_of
refused_falls t c plain flags ws h =
    opened_falls (in_shape t c (length plain) (length flags)) (weights_stand plain and weights_stand flags) (fresh t c plain flags) ws h
