-- A step does not look at room. Assumes nothing.
use mathlib.Core.Path.{◌≡◌, refl, sym, ap, ◌∙◌}
use mathlib.Core.List.{List}
use mathlib.Core.Logic.{⊎_elim}
use Prim.Native.Nat.{ℕ, ◌+◌, ◌-◌, ◌<◌}
use native.Mathlib.Omega.{arith}
use native.Mathlib.Decide.{ℕ_discrete}
use Rattle.std.specs.Prelude.{Option, Some, None}
use Rattle.published.proofs.OneRule.{Agree, has_or_lacks}
use Rattle.published.proofs.OneStep.{Same, same}
use Rattle.published.proofs.Follows.{taken_follows}
use Rattle.published.proofs.OneEvent.{Shared}
use Rattle.published.specs.Follows.{store_of, stamps_of, after, Performed, StepsAlike}
use Rattle.published.specs.Memory.{Has}
use Rattle.rules.proofs.Alike.{first_same, reason_same}
use Rattle.rules.proofs.Refused.{numbered, refused_keeps}
use Rattle.rules.proofs.RoomSteps.{lacks_none}
use Rattle.rules.specs.Kept.{Lacks, SameRoom, Alike}
use Rattle.rules.specs.Step.{Outcome, refusal_of, decided_of, step_of}
use Rattle.state.specs.State.{cells_of, row, place, atomic_at, first_of}
use Rattle.state.specs.declared.Machine.{Machine}
use Rattle.state.specs.declared.Name.{Name}
use Rattle.step.proofs.Numbered.{above_zero}
use Rattle.step.specs.Reason.{number, number_by}
use Rattle.step.specs.declared.Answer.TheVariants.{Refused}
use Rattle.step.specs.declared.Reason.{Reason}
use Rattle.step.specs.declared.Step.{Step}
use Rattle.view.specs.View.{stamp_of}
use Rattle.view.specs.declared.View.{View}
use Rattle.writes.specs.declared.Write.{Write}

-- a step for which there is a reason is answered with it
refusing : (m : Machine) (ws : List Write) (s : Step) (r : Reason) → refusal_of m ws s ≡ Some r → (step_of m ws s).done.answer ≡ Refused (number r)
unfolding step_of decided_of
refusing m ws s r e = rw e

-- the first values of machines with the same room
first_kept : (m n : Machine) → SameRoom m n → (e : ℕ) → first_of n e ≡ first_of m e
unfolding first_of
first_kept m n r e = rw (r.shape, r.firsts)

module _ (m n : Machine) (ws : List Write) (s : Step) (A : Alike m n) (l : s.thread - 1 < m.shape.threads) (o p : Outcome)
    (P : Performed m ws s o) (Q : Performed n ws s p) where
  abbrev i : ℕ
  i = s.thread - 1

  here : (B : Name) → (Lacks m.shape B → ⊥) → Has m.shape B
  here B k = ⊎_elim (λ (h : Has m.shape B). h) (λ (h : Lacks m.shape B). absurd (k h)) (has_or_lacks m.shape B)

  shared : Shared m.shape (store_of m ws) (store_of n ws)
  shared = record { history = λ a t h. rw (first_same m n A (a - 1), A.held); value = λ B h. sym (A.values B (lacks_none m.shape B h)) }

  agreed : Agree m.shape (store_of m ws) (store_of n ws) (stamps_of m i) (stamps_of n i)
  unfolding cells_of
  agreed = record {
    value = λ B h. sym (A.values B (lacks_none m.shape B h));
    seen = λ B h a q. sym (A.seen B (a - 1) (lacks_none m.shape B h) (omega arith));
    view = λ a q. sym (A.rows i (a - 1) l (omega arith));
  }

  shares : Same m.shape i o p
  shares = same m n ws s o p P Q A.shape (A.places i l) A.held shared agreed

  alike_after : Alike (after o) (after p)
  unfolding cells_of
  alike_after = record {
    shape = Q.room.shape ∙ A.shape ∙ sym P.room.shape;
    steps = Q.steps ∙ ap (λ (k : ℕ). k + 1) A.steps ∙ sym P.steps;
    held = shares.held;
    firsts = λ e h. first_kept n (after p) Q.room e ∙ first_same m n A e ∙ sym (first_kept m (after o) P.room e);
    places = λ j h. places j (rw P.room.shape at h) (ℕ_discrete j i);
    rows = λ j e h k. rows j e (rw P.room.shape at h) (rw P.room.shape at k) (ℕ_discrete j i);
    values = λ B k. sym (shares.store.value B (here B (rw P.room.shape at k)));
    seen = λ B e k h. sights B e (here B (rw P.room.shape at k)) (rw P.room.shape at h);
  }
    where
      places : (j : ℕ) → j < m.shape.threads → Dec (j ≡ i) → place (after p) j ≡ place (after o) j
      places j h (yes e) = rw e shares.stands_at
      places j h (no d) = (Q.others j d).1 ∙ A.places j h ∙ sym (P.others j d).1

      rows : (j e : ℕ) → j < m.shape.threads → e < m.shape.plain + m.shape.slots → Dec (j ≡ i) → stamp_of (row (after p) j) e ≡ stamp_of (row (after o) j) e
      rows j e h k (yes q) =
          let d : e + 1 - 1 ≡ e = omega arith in
          rw q (sym (rw d at (shares.store.view (e + 1) (omega arith))))
      rows j e h k (no d) =
          ap (λ (v : View). stamp_of v e) (Q.others j d).0 ∙ A.rows j e h k ∙ sym (ap (λ (v : View). stamp_of v e) (P.others j d).0)

      sights : (B : Name) (e : ℕ) → Has m.shape B → e < m.shape.plain + m.shape.slots
          → stamp_of (atomic_at (after p) B).view e ≡ stamp_of (atomic_at (after o) B).view e
      sights B e h k =
          let d : e + 1 - 1 ≡ e = omega arith in
          sym (rw d at (shares.store.seen B h (e + 1) (omega arith)))

pub steps_alike : StepsAlike
steps_alike m n ws s W X A = go (refusal_of m ws s) refl
  where
    reason : refusal_of n ws s ≡ refusal_of m ws s
    reason = reason_same m n A ws s

    go : (o : Option Reason) → refusal_of m ws s ≡ o
        → ((step_of n ws s).done.answer ≡ (step_of m ws s).done.answer) × ((step_of n ws s).writes ≡ (step_of m ws s).writes) × Alike (after (step_of m ws s)) (after (step_of n ws s))
    go None e =
        let P = taken_follows m ws s W (numbered m ws s ∙ ap number_by e) in
        let Q = taken_follows n ws s X (numbered n ws s ∙ ap number_by (reason ∙ e)) in
        let l : s.thread - 1 < m.shape.threads = omega (arith, P.0.thread) in
        let S = shares m n ws s A l (step_of m ws s) (step_of n ws s) P.1 Q.1 in
        (S.answer, S.writes, alike_after m n ws s A l (step_of m ws s) (step_of n ws s) P.1 Q.1)
    go (Some r) e =
        let P = refused_keeps m ws s (rw (numbered m ws s, e) (above_zero r)) in
        let Q = refused_keeps n ws s (rw (numbered n ws s, reason, e) (above_zero r)) in
        (refusing n ws s r (reason ∙ e) ∙ sym (refusing m ws s r e), Q.1 ∙ sym P.1, rw (P.0, Q.0) A)
