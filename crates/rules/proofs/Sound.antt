-- What holds at every point of a run, and that every step keeps it. Assumes nothing.
use mathlib.Core.Path.{◌≡◌, sym, ap, subst, fun_ext, ◌∙◌}
use mathlib.Core.Bool.{true}
use mathlib.Core.List.{List, [], ◌∷◌}
use Prim.Native.Nat.{ℕ, ◌+◌, ◌≤◌}
use native.Mathlib.Omega.{arith}
use Rattle.rules.proofs.Kept.{standing_kept}
use Rattle.rules.proofs.Refused.{taken_thread}
use Rattle.rules.proofs.Room.{room_kept}
use Rattle.rules.proofs.Whole.{whole_kept}
use Rattle.rules.specs.Step.{step_of}
use Rattle.rules.proofs.Moves.{by_moves}
use Rattle.rules.proofs.Listed.{ListedAt}
use Rattle.rules.proofs.Owed.{Owed, list_moves}
use Rattle.rules.proofs.Recalled.{Recalled}
use Rattle.rules.proofs.Recalls.{recall_moves}
use Rattle.rules.proofs.Remembered.{Remembered, memory_moves}
use Rattle.rules.proofs.Ringed.{Ringed, ring_moves}
use Rattle.rules.specs.Log.{Entry, Point, Seen, thread_of, entry_of, next, through, under, heard, seen}
use Rattle.rules.specs.Queue.{refused, Right, Each}
use Rattle.standing.proofs.Bounds.{Bounds, bounds}
use Rattle.standing.specs.Stands.{stands}
use Rattle.state.specs.State.{cells_of, row, place, first_of, Whole}
use Rattle.state.specs.declared.Machine.{Machine}
use Rattle.state.specs.declared.Place.TheVariants.{Idle}
use Rattle.state.specs.declared.Shape.{Shape}
use Rattle.step.specs.declared.Answer.{Answer}
use Rattle.step.proofs.Numbered.{above_zero}
use Rattle.step.specs.declared.Step.{Step}
use Rattle.step.specs.declared.Verb.{Verb}
use Rattle.view.specs.declared.View.{View}
use Rattle.writes.specs.declared.Write.{Write}

-- the memory and the histories of a machine of a shape, with the given first values
abbrev MemoryBy : Shape → (ℕ → ℕ) → Machine → List Write → Seen → Type 0
MemoryBy s first m ws n = Remembered s.slots s.plain first m ws n

-- each entry of a log is right, on a machine of a shape
abbrev pub RightBy : Shape → List Entry → Type 0
RightBy s = Each (Right s.slots (s.plain + s.slots))

pub record Sound (p : Point) : Type 0 where
  pub whole : Whole p.machine
  pub stand : stands p.machine p.writes ≡ true
  pub ring : Ringed p.machine.shape.slots p.machine
  pub memory : Remembered p.machine.shape.slots p.machine.shape.plain (first_of p.machine) p.machine p.writes (seen p.log)
  pub list : ListedAt p.machine.shape.slots p.machine (seen p.log)
  pub recall : Recalled (cells_of p.machine) (first_of p.machine) p.machine p.writes
  pub right : RightBy p.machine.shape p.log
  -- threads that this machine lacks are in no call
  pub spare : (i : ℕ) → p.machine.shape.threads ≤ i → place p.machine i ≡ Idle

-- first values are of the shape and the list of firsts
same_firsts : (m n : Machine) → n.shape ≡ m.shape → n.firsts ≡ m.firsts → first_of n ≡ first_of m
unfolding first_of
same_firsts m n e f = fun_ext (λ i. rw (e, f))

module _ (p : Point) (S : Sound p) (s : Step) where
  abbrev m : Machine
  m = p.machine

  abbrev ws : List Write
  ws = p.writes

  abbrev i : ℕ
  i = thread_of s

  abbrev o : Machine
  o = (step_of m ws s).done.machine

  -- what is read off the log before the step, and after one that is so answered and leaves that view
  abbrev n : Seen
  n = seen p.log

  abbrev after : Verb → Answer → View → Seen
  after v a x = heard i x (under (n.calls i) v) a n

  B : Bounds m.shape
  B = bounds m ws S.stand

  -- what the log says of the step, and the log beside the machine after it
  listed : Owed m.shape.slots (cells_of m) n (row o i) (n.calls i) s.verb (step_of m ws s).done.answer
      × ListedAt m.shape.slots o (after s.verb (step_of m ws s).done.answer (row o i))
  listed =
      by_moves m ws s
      (λ v a k us. Owed m.shape.slots (cells_of m) n (row k i) (n.calls i) v a × ListedAt m.shape.slots k (after v a (row k i)))
      S.whole (λ r. ((refused r (above_zero r), λ e. absurd (omega (arith, above_zero r))), S.list))
      (λ _. list_moves m ws n i S.whole B S.ring S.memory S.list)

  pub kept : Sound (next p s)
  unfolding next entry_of seen cells_of Each
  kept =
      let us = (step_of m ws s).writes in
      let r = room_kept m ws s in
      let f : first_of o ≡ first_of m = same_firsts m o r.shape r.firsts in
      let now = after s.verb (step_of m ws s).done.answer (row o i) in
      record {
        whole = whole_kept m ws s S.whole;
        stand = standing_kept m ws s S.stand;
        ring = subst (λ (x : Shape). Ringed x.slots o) (sym r.shape)
            (by_moves m ws s (λ v a n xs. Ringed m.shape.slots n) S.whole (λ k. S.ring) (λ _. ring_moves m ws i S.ring));
        memory = subst (λ (x : Shape). MemoryBy x (first_of o) o us now) (sym r.shape)
            (subst (λ (x : ℕ → ℕ). MemoryBy m.shape x o us now) (sym f)
            (by_moves m ws s (λ v a k xs. MemoryBy m.shape (first_of m) k xs (after v a (row k i))) S.whole (λ k. S.memory)
            (λ _. memory_moves m ws n i S.whole B S.ring S.memory S.list)));
        list = subst (λ (x : Shape). ListedAt x.slots o now) (sym r.shape) listed.1;
        recall = subst (λ (x : ℕ). Recalled x (first_of o) o us) (sym (cells r.shape))
            (subst (λ (x : ℕ → ℕ). Recalled (cells_of m) x o us) (sym f)
            (by_moves m ws s (λ v a n xs. Recalled (cells_of m) (first_of m) n xs) S.whole (λ k. S.recall) (λ _. recall_moves m ws i S.whole B S.recall)));
        right = subst (λ (x : Shape). RightBy x (entry_of s (step_of m ws s) ∷ p.log)) (sym r.shape)
            (record { says = listed.0.0; by_thread = taken_thread m ws s; in_turn = listed.0.1 }, S.right);
        spare = λ j l. let h : m.shape.threads ≤ j = subst (λ (x : Shape). x.threads ≤ j) r.shape l in (r.threads j h).1 ∙ S.spare j h;
      }
    where
      cells : o.shape ≡ m.shape → cells_of o ≡ cells_of m
      cells e = ap (λ (x : Shape). x.plain + x.slots) e

-- after any steps, refused ones included
pub run : (p : Point) → Sound p → (ss : List Step) → Sound (through p ss)
unfolding through
run p S [] = S
run p S (s ∷ ss) = run (next p s) (kept p S s) ss
