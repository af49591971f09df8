-- A take past its swap: its view covers the putter's, and while it waits to read its slot one stamp is accepted, its own view's. Assumes nothing.
use mathlib.Core.Path.{◌≡◌, refl, sym, ap, subst, ◌∙◌}
use mathlib.Core.Bool.{true, false, not}
use Prim.Native.Nat.{ℕ, ◌+◌, ◌-◌, ◌<◌, ◌≤◌}
use native.Mathlib.Decide.{dec_lt}
use native.Mathlib.Omega.{arith}
use borrow.Author.Tests.{ltb-false, le-ltb}
use Rattle.std.specs.Prelude.{is_some}
use Rattle.accesses.specs.Accesses.{outdated, amiss}
use Rattle.rules.specs.Access.{slot_cell, stamped_at, found_by}
use Rattle.rules.specs.Kept.{number_given}
use Rattle.rules.specs.Step.{asked, refusal_of}
use Rattle.rules.proofs.Learnt.{Picture, Knows}
use Rattle.rules.proofs.Listed.{Marked}
use Rattle.rules.proofs.Access.{shown}
use Rattle.rules.proofs.Ranks.{slot_in}
use Rattle.rules.proofs.Refused.{numbered, no_refusal}
use Rattle.rules.proofs.Remembered.{picture, knew_at, one_stamp}
use Rattle.rules.proofs.Ring.{Stage, aside, saw_free, filling, filled, saw_full, emptying, emptied, empties}
use Rattle.rules.proofs.Ringed.{stages}
use Rattle.rules.proofs.Sound.{Sound}
use Rattle.rules.proofs.Standing.{standing}
use Rattle.rules.proofs.Views.{stamp}
use Rattle.rules.specs.Log.{Point, Call, Seen, taking, seen}
use Rattle.rules.specs.Queue.{CoversNoted, go_at}
use Rattle.rules.proofs.Waiting.{past, waits, spot, cell}
use Rattle.refusal.proofs.Passed.{passed, unrefused}
use Rattle.standing.proofs.Bounds.{Bounds, bounds}
use Rattle.state.specs.State.{cells_of, row, place, first_of}
use Rattle.state.specs.declared.Machine.{Machine}
use Rattle.state.specs.declared.Place.{Place}
use Rattle.state.specs.declared.Place.TheVariants.{TakeRead}
use Rattle.step.specs.Reason.{number_by}
use Rattle.view.specs.View.{stamp_of}
use Rattle.view.specs.declared.View.{View}
use Rattle.writes.specs.History.{found}
use Rattle.writes.specs.declared.Access.{Access}
use Rattle.writes.specs.declared.Access.TheVariants.{Reads}

-- what it knows then
brings : (c n : ℕ) (p : Picture) (v : View) (g : Stage) (r : ℕ) → empties g r → Knows c n p v g → CoversNoted (n + c) (p.published r) v
brings c n p v aside r o f = absurd o
brings c n p v (saw_free h) r o f = absurd o
brings c n p v (filling h w) r o f = absurd o
brings c n p v (filled h) r o f = absurd o
brings c n p v (saw_full t) r o f = absurd o
brings c n p v (emptying t) r o f = subst (λ (y : ℕ). CoversNoted (n + c) (p.published y) v) o f.0.1
brings c n p v (emptied t w) r o f = subst (λ (y : ℕ). CoversNoted (n + c) (p.published y) v) o f.0.1

module _ (p : Point) (S : Sound p) where
  abbrev m : Machine
  m = p.machine

  abbrev n : Seen
  n = seen p.log

  marked : (i : ℕ) (k : Call) → n.calls i ≡ k → Marked k (place m i)
  marked i k e = subst (λ (y : Call). Marked y (place m i)) e (S.list.marks i)

  pub covered : (i k r : ℕ) → n.calls i ≡ taking k r → 3 ≤ k → CoversNoted (cells_of m) (n.published r) (row m i)
  unfolding cells_of
  covered i k r e l =
      brings m.shape.slots m.shape.plain (picture m.shape.plain (first_of m) m p.writes n) (row m i) (stages m i) r
      (past k r (place m i) (marked i (taking k r) e) l) (S.memory.knows i)

  module _ (i r : ℕ) where
    B : Bounds m.shape
    B = bounds m p.writes S.stand

    -- that thread's own stamp of the slot of rank r
    abbrev mine : ℕ
    mine = stamp_of (row m (i - 1)) (spot m r)

    module _ (k : n.calls (i - 1) ≡ taking 3 r) where
      here : place m (i - 1) ≡ TakeRead r
      here = waits r (place m (i - 1)) (marked (i - 1) (taking 3 r) k)

      reads : (a : ℕ) → asked m (go_at i a) ≡ Reads (slot_cell m.shape r) a
      reads a = ap (λ (y : Place). stamped_at m.shape y a) here

    -- a stamp that is accepted is the newest of the slot, which the thread has seen
    pub accepted : (a : ℕ) → n.calls (i - 1) ≡ taking 3 r → number_given m p.writes (go_at i a) ≡ 0 → a ≡ mine
    unfolding refusal_of found_by
    accepted a k h =
        let q = passed _ _ _ _ _ _ (no_refusal m p.writes (go_at i a) h) in
        let low = ltb-false _ _ (subst (λ (y : Access). outdated y (row m (i - 1)) ≡ false) (reads k a) q.1.0) in
        let fits = subst (λ (y : Access). amiss y (found_by m p.writes y) ≡ false) (reads k a) q.1.1 in
        let new = (one_stamp m p.writes n (i - 1) S.whole B S.ring S.memory r a _ (here k) low (shown _ fits)).0 in
        omega (arith, rw (cell m r B) at low, new, (knew_at m p.writes n (i - 1) S.whole B S.ring S.memory (TakeRead r) (here k)).0.0)

    -- and the thread's own is
    pub own : n.calls (i - 1) ≡ taking 3 r → 0 < i → m.steps < 4096 → number_given m p.writes (go_at i mine) ≡ 0
    unfolding refusal_of found_by cells_of slot_cell
    own k l h =
        numbered m p.writes (go_at i mine)
        ∙ ap number_by (unrefused _ m _ (go_at i mine) _ _
        (record {
          stands = S.stand;
          steps = h;
          thread = (l, omega (arith, known (dec_lt (i - 1) m.shape.threads)));
          due = rw (here k);
          names = refl;
          range = stamp (cells_of m) (row m (i - 1)) ((standing m p.writes S.stand).rows (i - 1) (known (dec_lt (i - 1) m.shape.threads))) (spot m r)
              (omega (arith, slot_in m.shape.slots r B.some_slot));
          room = rw (reads k mine);
        })
        (rw (reads k mine, cell m r B) (le-ltb mine mine (omega arith)), rw (reads k mine) (ap not there)))
      where
        known : Dec (i - 1 < m.shape.threads) → i - 1 < m.shape.threads
        known (yes d) = d
        known (no d) = absurd (let e = sym (here k) ∙ S.spare (i - 1) (omega arith) in let z : ◌≡◌ {A = ℕ} 0 1 = cc in omega arith)

        there : is_some (found (first_of m (slot_cell m.shape r - 1)) p.writes (slot_cell m.shape r) mine m.held) ≡ true
        there =
            let d : spot m r + 1 ≡ slot_cell m.shape r = omega arith in
            rw d at (S.recall.rows (i - 1) (spot m r) (omega (arith, slot_in m.shape.slots r B.some_slot)))
