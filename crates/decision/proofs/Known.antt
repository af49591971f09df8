-- A state that stands need not be judged anew: its step is the same. Assumes nothing.
use mathlib.Core.Path.{◌≡◌, refl, ap, subst, sym, ◌∙◌}
use mathlib.Core.Bool.{Bool, true, false}
use mathlib.Core.List.{List}
use mathlib.Core.Logic.{⊎_elim}
use Prim.Native.Nat.{ℕ, ◌-◌, ◌<◌, ◌≤◌}
use native.Mathlib.Omega.{arith}
use borrow.Author.Tests.{leb-true, le-leb, le-ltb, ltb-false}
use lib.Dec.{leb, ltb}
use lib.ListN.{length}
use Rattle.decision.proofs.Sizes.{sized}
use Rattle.decision.specs.Bounds.{Sized}
use Rattle.decision.specs.Decision.{rank_fits, stands_if}
use Rattle.decision.specs.Known.{judged_by, decided_with, left_by, step_by, KnownNumbered, KnownKeeps}
use Rattle.laws.proofs.Choice.{either}
use Rattle.laws.proofs.Tests.{apart}
use Rattle.laws.specs.Tests.{◌and◌, ◌or◌}
use Rattle.parts.specs.Parts.{parts_stand}
use Rattle.places.specs.Places.{rank_of}
use Rattle.rules.proofs.Refused.{decided_numbered, decided_keeps}
use Rattle.rules.specs.Step.{refusal_of, decided_of, step_of}
use Rattle.standing.proofs.Bounds.{noted, sizes}
use Rattle.standing.specs.Stands.{stands}
use Rattle.state.specs.State.{place}
use Rattle.state.specs.declared.Machine.{Machine}
use Rattle.step.specs.declared.Step.{Step}
use Rattle.writes.specs.declared.Query.{Query}
use Rattle.writes.specs.declared.Write.{Write}

-- a rank that fits is small, of a thread that there is
pub fits_rank : (m : Machine) (s : Step) → s.thread ≤ m.shape.threads → rank_fits m s ≡ true → rank_of (place m (s.thread - 1)) ≤ 4096
unfolding rank_fits ◌or◌
fits_rank m s l e =
    leb-true _ _ (subst (λ (b : Bool). b or leb (rank_of (place m (s.thread - 1))) 4096 ≡ true) (le-ltb m.shape.threads s.thread l) e)

-- a rank that a thread notes fits where the parts of the state stand
rank_fits_lem : (m : Machine) (s : Step) → m.steps ≤ 4096 → 1 ≤ m.shape.threads → parts_stand m ≡ true → rank_fits m s ≡ true
unfolding rank_fits ◌or◌
rank_fits_lem m s few some e =
    ⊎_elim
    (λ (l : ltb m.shape.threads s.thread ≡ true). rw l)
    (λ (l : ltb m.shape.threads s.thread ≡ false).
    let n = noted m (s.thread - 1) e (omega (arith, ltb-false m.shape.threads s.thread l, some)) in
    rw l (le-leb (rank_of (place m (s.thread - 1))) 4096 (omega (arith, few, n))))
    (either (ltb m.shape.threads s.thread))

-- what the step leans on, however it was judged
pub judged : (known : Bool) (m : Machine) (lent : ℕ) (s : Step) (q : Query) → stands_if known m lent s q ≡ true → Sized m × (rank_fits m s ≡ true)
judged true m lent s q e =
    let p = apart _ _ e in
    (sized m lent p.0, p.1)
judged false m lent s q e =
    let p = apart _ _ e in
    let z = sizes m lent p.0 in
    (sized m lent p.0, rank_fits_lem m s z.steps z.shape.some_thread (apart _ _ p.1).0)

module _ (m : Machine) (ws : List Write) (s : Step) where
  -- where nothing is known, the step is judged whole
  pub unknown_step : step_by false m ws s ≡ step_of m ws s
  unfolding step_by step_of decided_of refusal_of
  unknown_step = refl

  judged_true : stands m ws ≡ true → judged_by true m ws s ≡ true
  unfolding stands ◌and◌
  judged_true e =
      let p = apart _ _ e in
      let z = sizes m (length ws) p.0 in
      rw p.0 (rank_fits_lem m s z.steps z.shape.some_thread (apart _ _ p.1).0)

  -- where the state and the list stand, it is the same
  pub known_step : stands m ws ≡ true → step_by true m ws s ≡ step_of m ws s
  unfolding step_by
  known_step e = ap (λ (b : Bool). left_by (decided_with b m ws s) m ws) (judged_true e ∙ sym e) ∙ unknown_step

  -- so it is where what is known is true
  pub as_known : (known : Bool) → (known ≡ true → stands m ws ≡ true) → step_by known m ws s ≡ step_of m ws s
  as_known true h = known_step (h refl)
  as_known false h = unknown_step

pub known_numbered : KnownNumbered
unfolding step_by
known_numbered known m ws s = decided_numbered _ m s _ _

pub known_keeps : KnownKeeps
unfolding step_by
known_keeps known m ws s h = decided_keeps _ m ws s _ _ (subst (λ (r : ℕ). 0 < r) (known_numbered known m ws s) h)
