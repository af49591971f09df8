-- Demand 3 holds at every point of every run from a fresh machine. Assumes nothing.
use mathlib.Core.Path.{◌≡◌, refl, sym, ap, subst, ◌∙◌}
use mathlib.Core.Bool.{not}
use mathlib.Core.List.{List, [], ◌∷◌}
use Prim.Native.Nat.{ℕ, ◌+◌, ◌-◌}
use native.Mathlib.Omega.{arith}
use Rattle.rules.proofs.Awaited.{covered, accepted, own}
use Rattle.opening.specs.Opening.{opened_of}
use Rattle.rules.proofs.Begun.{fresh_shape, fresh_sound}
use Rattle.rules.proofs.Histories.{found_under}
use Rattle.rules.proofs.Listed.{reaches}
use Rattle.rules.proofs.Access.{shown}
use Rattle.rules.proofs.Room.{room_kept}
use Rattle.rules.proofs.Shown.{contents}
use Rattle.rules.proofs.Sound.{Sound, run}
use Rattle.rules.proofs.Unstuck.{never}
use Rattle.rules.specs.Log.{Point, next, through, start, Throughout}
use Rattle.rules.specs.Queue.{Queue, QueueHolds}
use Rattle.rules.specs.Reached.{AllInHistory, NonePast, Reached, ReachedHolds}
use Rattle.laws.specs.Tests.{◌and◌}
use Rattle.refusal.proofs.Passed.{others}
use Rattle.standing.proofs.Bounds.{bounds}
use Rattle.state.specs.State.{cells_of, first_of}
use Rattle.state.specs.declared.Shape.{Shape}
use Rattle.step.specs.declared.Step.{Step}
use Rattle.view.specs.View.{stamp_of}
use Rattle.view.specs.declared.View.{View}

-- no step changes the shape
same_shape : (p : Point) (ss : List Step) → (through p ss).machine.shape ≡ p.machine.shape
unfolding through next
same_shape p [] = refl
same_shape p (s ∷ ss) = same_shape (next p s) ss ∙ (room_kept p.machine p.writes s).shape

-- what is sound at each point reached holds there, of the shape that was opened
throughout : (P : ℕ → ℕ → Point → Type 0) → ((p : Point) → Sound p → P p.machine.shape.plain p.machine.shape.slots p) → Throughout P
unfolding start
throughout P f t c plain flags ws ss e =
    let p = start (opened_of t c plain flags).machine ws in
    subst (λ (s : Shape). P s.plain s.slots (through p ss)) (same_shape p ss ∙ fresh_shape t c plain flags e)
    (f (through p ss) (run p (fresh_sound t c plain flags ws e) ss))

module _ (p : Point) (S : Sound p) where
  queue : Queue p.machine.shape.plain p.machine.shape.slots p
  unfolding cells_of
  queue =
      record {
        line = S.list.line;
        plain_list = S.list.is;
        right = S.right;
        low = S.ring.low;
        high = S.ring.high;
        puts = sym S.list.put;
        takes = sym S.list.out;
        reaches = reaches S.list;
        contents = contents p S;
        covering = covered p S;
        one_stamp = accepted p S;
        own_stamp = own p S;
      }

  -- a stamp that a history has is not above its newest
  under : (k : ℕ) (v : View) → AllInHistory k p.machine p.writes v → NonePast k p.machine p.writes v
  under k v f j l =
      let m = p.machine in
      found_under (first_of m (j + 1 - 1)) p.writes (j + 1) (stamp_of v j) _ m.held (shown _ (ap not (f j l)))

  reached : Reached (p.machine.shape.plain + p.machine.shape.slots) p
  unfolding others ◌and◌ cells_of
  reached =
      record {
        views_known = (S.recall.rows, S.recall.cells);
        views_under = (λ i. under _ _ (S.recall.rows i), λ a. under _ _ (S.recall.cells a));
        distinct = (S.recall.distinct, S.recall.positive);
        unstuck = λ s c e.
            let r = never p.machine (bounds p.machine p.writes S.stand) p.writes S.recall s c e in
            (r 12 (omega arith) refl, r 13 (omega arith) refl);
      }

-- Demand 3.
pub queue_holds : QueueHolds
queue_holds = throughout Queue queue

-- What holds of every state that is reached.
pub reached_holds : ReachedHolds
reached_holds = throughout (λ b c p. Reached (b + c) p) reached
