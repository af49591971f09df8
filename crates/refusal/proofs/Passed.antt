-- The chain of a step's refusals as a list, and all that is said of it: past the tests before 12 the number is what the last two give, and
-- every number is 0 or one of 6 to 14. Assumes nothing.
use mathlib.Core.Path.{◌≡◌, refl, sym, ap, ◌∙◌}
use mathlib.Core.Bool.{Bool, true, false, not, false≢true}
use mathlib.Core.List.{List, [], ◌∷◌, ◌++◌}
use mathlib.Core.Logic.{◌⊎◌, inl, inr}
use Prim.Native.Nat.{ℕ, zero, suc, ◌-◌, ◌<◌, ◌≤◌}
use native.Mathlib.Omega.{arith}
use borrow.Author.Tests.{leb-true, leb-false, ltb-false, eq-eqb, le-leb, lt-leb, le-ltb, not-false}
use lib.Dec.{leb, ltb, eqb}
use Rattle.std.specs.Prelude.{Option, None}
use Rattle.accesses.specs.Accesses.{full, outdated, amiss}
use Rattle.laws.proofs.Tests.{apart}
use Rattle.laws.specs.Tests.{◌and◌}
use Rattle.places.specs.Places.{due_at}
use Rattle.refusal.specs.Refusal.{same_kind, refuse, refusal_by}
use Rattle.state.specs.State.{row, place}
use Rattle.state.specs.declared.Machine.{Machine}
use Rattle.step.specs.Limit.{most}
use Rattle.step.specs.declared.LineKind.{LineKind}
use Rattle.step.specs.declared.LineKind.TheVariants.{Begins, Goes, GoesAt}
use Rattle.step.specs.Reason.{number, number_by}
use Rattle.step.specs.declared.Reason.{Reason}
use Rattle.step.specs.declared.Reason.TheVariants.{StepsTaken, NoSuchThread, NotDue, NoSuchCell, TooGreat, NoRecordFree, Outdated, Amiss, CannotStand}
use Rattle.step.specs.declared.Step.{Step}
use Rattle.verbs.specs.Verbs.{among, asks, named, greatest}
use Rattle.writes.specs.declared.Access.{Access}

-- 1 to n, as a test and as two bounds
pub among_some : (k n : ℕ) → among k n ≡ true → (1 ≤ k) × (k ≤ n)
unfolding among
among_some zero n e = absurd (false≢true e)
among_some (suc k) n e = (omega arith, leb-true _ _ e)

pub some_among : (k n : ℕ) → (1 ≤ k) × (k ≤ n) → among k n ≡ true
unfolding among
some_among zero n h = absurd (omega arith)
some_among (suc k) n h = le-leb _ _ h.1

-- a kind is the one due, as a test and as an equation
pub kind_is : (j k : LineKind) → same_kind j k ≡ true → j ≡ k
kind_is Begins Begins e = refl
kind_is Goes Goes e = refl
kind_is GoesAt GoesAt e = refl
kind_is j k e = absurd (false≢true e)

is_itself : (k : LineKind) → same_kind k k ≡ true
is_itself Begins = refl
is_itself Goes = refl
is_itself GoesAt = refl

pub is_kind : (j k : LineKind) → j ≡ k → same_kind j k ≡ true
is_kind j k e = rw e (is_itself k)

-- a test and the reason that it gives
abbrev Test : Type 0
Test = Bool × Reason

-- the reason of the first test that holds, none where none does
abbrev pub first : List Test → Option Reason
first [] = None
first (t ∷ ts) = refuse t.0 t.1 (first ts)

-- none of the tests gives a reason of number r
unfoldable pub others : ℕ → List Test → Bool
others r [] = true
others r (t ∷ ts) = not (eqb (number t.1) r) and others r ts

-- every number given is one of 6 to 14
unfoldable stepping : List Test → Bool
stepping [] = true
stepping (t ∷ ts) = (leb 6 (number t.1) and leb (number t.1) 14) and stepping ts

abbrev Fails : List Test → Type 0
Fails [] = Unit {0}
Fails (t ∷ ts) = (t.0 ≡ false) × Fails ts

-- a number that none of the first tests gives: they failed, and what comes after them gives it
beyond : (ts us : List Test) (r : ℕ) → others r ts ≡ true → number_by (first (ts ++ us)) ≡ r → Fails ts × (number_by (first us) ≡ r)
unfolding others
beyond [] us r n e = (tt, e)
beyond ((true, k) ∷ ts) us r n e = absurd (false≢true (rw (eq-eqb (number k) r e) at (apart _ _ n).0))
beyond ((false, k) ∷ ts) us r n e =
    let x = beyond ts us r (apart _ _ n).1 e in
    ((refl, x.0), x.1)

first_stepping : (ts : List Test) → stepping ts ≡ true → (number_by (first ts) ≡ 0) ⊎ ((6 ≤ number_by (first ts)) × (number_by (first ts) ≤ 14))
unfolding stepping
first_stepping [] e = inl refl
first_stepping ((true, k) ∷ ts) e =
    let x = apart _ _ (apart _ _ e).0 in
    inr (leb-true 6 (number k) x.0, leb-true (number k) 14 x.1)
first_stepping ((false, k) ∷ ts) e = first_stepping ts (apart _ _ e).1

module _ (stand : Bool) (m : Machine) (lent : ℕ) (s : Step) (a : Access) (f : Option ℕ) where
  -- the tests before 12, in their order
  abbrev pub early : List Test
  early =
      (not stand, CannotStand)
      ∷ (leb 4096 m.steps, StepsTaken)
      ∷ (not (among s.thread m.shape.threads), NoSuchThread)
      ∷ (not (same_kind (asks s.verb) (due_at (place m (s.thread - 1)))), NotDue)
      ∷ (not (named m.shape s.verb), NoSuchCell)
      ∷ (ltb most (greatest s.verb), TooGreat)
      ∷ (full a m.held lent, NoRecordFree)
      ∷ []

  -- those that look at the thread's view and the history
  abbrev pub late : List Test
  late = (outdated a (row m (s.thread - 1)), Outdated) ∷ (amiss a f, Amiss) ∷ []

  in_order : refusal_by stand m lent s a f ≡ first (early ++ late)
  unfolding refusal_by
  in_order = refl

  -- every test before 12 passed, in the order of the numbers
  pub record Passed : Type 0 where
    pub stands : stand ≡ true
    pub steps : m.steps < 4096
    pub thread : (1 ≤ s.thread) × (s.thread ≤ m.shape.threads)
    pub due : asks s.verb ≡ due_at (place m (s.thread - 1))
    pub names : named m.shape s.verb ≡ true
    pub range : greatest s.verb ≤ most
    pub room : full a m.held lent ≡ false

  -- where the number is none of the early ones, the late tests say it
  pub past_early : (r : ℕ) → others r early ≡ true → number_by (refusal_by stand m lent s a f) ≡ r → Passed × (number_by (first late) ≡ r)
  past_early r n e =
      let x = beyond early late r n (sym (ap number_by in_order) ∙ e) in
      let t14 = x.0 in
      let t6 = t14.1 in
      let t7 = t6.1 in
      let t8 = t7.1 in
      let t9 = t8.1 in
      let t10 = t9.1 in
      let t11 = t10.1 in (
        record {
          stands = not-false _ t14.0;
          steps = leb-false _ _ t6.0;
          thread = among_some _ _ (not-false _ t7.0);
          due = kind_is _ _ (not-false _ t8.0);
          names = not-false _ t9.0;
          range = ltb-false _ _ t10.0;
          room = t11.0;
        },
        x.1,
      )

  -- and back
  pub by_late : Passed → refusal_by stand m lent s a f ≡ first late
  unfolding refusal_by
  by_late p =
      rw (p.stands, lt-leb 4096 m.steps p.steps, some_among s.thread m.shape.threads p.thread, is_kind _ _ p.due, p.names, le-ltb most _ p.range, p.room)

  -- the late tests passed too
  abbrev pub Current : Type 0
  Current = (outdated a (row m (s.thread - 1)) ≡ false) × (amiss a f ≡ false)

  pub passed : refusal_by stand m lent s a f ≡ None → Passed × Current
  unfolding others ◌and◌
  passed e =
      let x = past_early 0 refl (ap number_by e) in
      let t = (beyond late [] 0 refl x.1).0 in
      (x.0, (t.0, t.1.0))

  pub unrefused : Passed → Current → refusal_by stand m lent s a f ≡ None
  unrefused p c = by_late p ∙ none
    where
      none : first late ≡ None
      none = rw (c.0, c.1)

  abbrev pub given : ℕ
  given = number_by (refusal_by stand m lent s a f)

  -- 0, or one of 6 to 14
  pub number_in : (given ≡ 0) ⊎ ((6 ≤ given) × (given ≤ 14))
  unfolding stepping ◌and◌
  number_in = rw in_order (first_stepping (early ++ late) refl)
