-- When each number of a refused step is given; 12 and 13 are the premises of a rule, on the thread's view and on the history. Assumes nothing.
use mathlib.Core.Path.{◌≡◌, refl, sym, ap, ◌∙◌}
use mathlib.Core.Bool.{Bool, true, false, not, false≢true}
use mathlib.Core.List.{List}
use mathlib.Core.Logic.{◌≢◌, ◌↔◌, inl, inr}
use Prim.Native.Nat.{ℕ, ◌-◌}
use native.Mathlib.Omega.{arith}
use borrow.Author.Tests.{leb-false, ltb-false, lt-leb, le-ltb, not-false, eqb-true, eq-eqb}
use Rattle.std.specs.Prelude.{Option, Some, None, is_some}
use Rattle.accesses.specs.Accesses.{outdated, amiss}
use Rattle.places.specs.Places.{due_at}
use Rattle.rules.proofs.Refused.{numbered}
use Rattle.rules.specs.Access.{slot_cell, access_of, found_by}
use Rattle.rules.specs.Step.{asked, refusal_of}
use Rattle.published.specs.Calls.{write, Code, Makes, item, code_of, stamp_in, reads, writes, read, read_at, write_at, swap_won, swap_lost}
use Rattle.published.specs.Follows.{store_of, stamps_of, running}
use Rattle.published.specs.Memory.{Stamps, Memory, Event, Rule, mem_na_read, mem_na_write}
use Rattle.published.specs.Premises.{ViewPremise, HistoryPremise, Unless, FirstFailed, FirstGiven}
use Rattle.rank.specs.Rank.{slot_of}
use Rattle.refusal.proofs.Passed.{among_some, some_among, kind_is, is_kind}
use Rattle.refusal.specs.Refusal.{refuse, refusal_by}
use Rattle.state.specs.State.{row, place}
use Rattle.state.specs.declared.Machine.{Machine}
use Rattle.state.specs.declared.Place.{Place}
use Rattle.state.specs.declared.Place.TheVariants.{PutStatus, PutSwap, PutWrite, PutPublish, TakeStatus, TakeSwap, TakeRead, TakeFree}
use Rattle.state.specs.declared.Shape.{Shape}
use Rattle.step.specs.Reason.{number, number_by}
use Rattle.step.specs.declared.Reason.{Reason}
use Rattle.step.specs.declared.Reason.TheVariants.{StepsTaken, NoSuchThread, NotDue, NoSuchCell, TooGreat, NoRecordFree, Outdated, Amiss, CannotStand}
use Rattle.step.specs.declared.Step.{Step}
use Rattle.step.specs.declared.Verb.{Verb}
use Rattle.step.specs.declared.Verb.TheVariants.{Get, Set, Load, Store, Swap, Put, Take, Go, GoAt}
use Rattle.verbs.specs.Verbs.{asks}
use Rattle.writes.specs.declared.Access.{Access}
use Rattle.writes.specs.declared.Access.TheVariants.{Reads, Writes}
use Rattle.writes.specs.declared.Write.{Write}

-- what a rule lets a code do meets its premises
pub meets : (D : Shape) (σ σ' : Memory) (W W' : Stamps) (c d : Code) (t : ℕ) (e : Event) → Makes c t e d → Rule D σ W e σ' W' → ViewPremise W c t × HistoryPremise σ c t
meets D σ _ W _ _ _ _ _ (read a f t v) (mem_na_read _ _ _ _ _ _ h b _ _) = (b, λ n. cc)
meets D σ _ W _ _ _ _ _ (write a v c t) (mem_na_write _ _ _ _ _ _ h b _ _) = (omega arith, h)
meets D σ _ W _ _ _ _ _ (read_at A f t v) r = (tt, tt)
meets D σ _ W _ _ _ _ _ (write_at A v c t) r = (tt, tt)
meets D σ _ W _ _ _ _ _ (swap_won A u v c d t) r = (tt, tt)
meets D σ _ W _ _ _ _ _ (swap_lost A u v c d t x n) r = (tt, tt)

shows : (f : Option ℕ) → (not (is_some f) ≡ false) ↔ (f ≢ None)
shows None = ((λ e. absurd (false≢true (sym e))), (λ n. absurd (n refl)))
shows (Some v) = ((λ e n. cc), (λ n. refl))

hides : (f : Option ℕ) → (is_some f ≡ false) ↔ (f ≡ None)
hides None = ((λ e. refl), (λ e. refl))
hides (Some v) = ((λ e. absurd (false≢true (sym e))), (λ e. cc))

-- the test of an access and the premise on its code's event, where there is none of either
none : {b : Bool} → (b ≡ b) ↔ Unit {0}
none = ((λ e. tt), (λ u. refl))

module _ (m : Machine) (ws : List Write) (i : ℕ) where
  -- the tests of an access are the premises on the event that a code makes at a time stamp
  pub record Tests (a : Access) (c : Code) (t : ℕ) : Type 0 where
    pub view : (outdated a (row m i) ≡ false) ↔ ViewPremise (stamps_of m i) c t
    pub history : (amiss a (found_by m ws a) ≡ false) ↔ HistoryPremise (store_of m ws) c t

  read_tests : (c t : ℕ) (f : ℕ → Code) → Tests (Reads c t) (reads c f) t
  unfolding found_by
  read_tests c t f = record { view = (ltb-false _ _, le-ltb _ _); history = shows _ }

  write_tests : (c t v : ℕ) (d : Code) → Tests (Writes c t v) (writes c v d) t
  unfolding found_by
  write_tests c t v d = record { view = (leb-false _ _, lt-leb _ _); history = hides _ }

  pub tests : (v : Verb) (p : Place) → asks v ≡ due_at p → Tests (access_of m.shape v p) (code_of m.shape v p) (stamp_in v)
  unfolding slot_cell slot_of
  tests (Get c t) p d = read_tests c t _
  tests (Set c v t) p d = write_tests c t v _
  tests (Load f) p d = record { view = none; history = none }
  tests (Store f v) p d = record { view = none; history = none }
  tests (Swap f u v) p d = record { view = none; history = none }
  tests (Put w) p d = record { view = none; history = none }
  tests Take p d = record { view = none; history = none }
  tests Go (PutStatus h w) d = record { view = none; history = none }
  tests Go (PutSwap h w) d = record { view = none; history = none }
  tests Go (PutPublish h) d = record { view = none; history = none }
  tests Go (TakeStatus r) d = record { view = none; history = none }
  tests Go (TakeSwap r) d = record { view = none; history = none }
  tests Go (TakeFree r w) d = record { view = none; history = none }
  tests Go p d = absurd cc
  tests (GoAt t) (PutWrite h w) d = write_tests (item m.shape h) t w _
  tests (GoAt t) (TakeRead r) d = read_tests (item m.shape r) t _
  tests (GoAt t) p d = absurd cc

pub tested : (m : Machine) (ws : List Write) (s : Step) → asks s.verb ≡ due_at (place m (s.thread - 1))
    → Tests m ws (s.thread - 1) (asked m s) (running m s) (stamp_in s.verb)
tested m ws s d = tests m ws (s.thread - 1) s.verb (place m (s.thread - 1)) d

-- a test that does not hold exactly where P holds gives its reason exactly where P fails; what comes after it may lean on P
unless : (b : Bool) (r : Reason) (rest : Option Reason) (P : Type 0) (later : ℕ → Type 0) → (b ≡ false) ↔ P
    → (P → (k : ℕ) → (number_by rest ≡ k) ↔ later k) → (k : ℕ) → (number_by (refuse b r rest) ≡ k) ↔ Unless P (number r) later k
unless b r rest P later t f k = (to b t, back b t)
  where
    to : (b : Bool) → (b ≡ false) ↔ P → number_by (refuse b r rest) ≡ k → Unless P (number r) later k
    to true t e = inl ((λ x. false≢true (sym (t.1 x))), sym e)
    to false t e = inr (t.0 refl, (f (t.0 refl) k).0 e)

    back : (b : Bool) → (b ≡ false) ↔ P → Unless P (number r) later k → number_by (refuse b r rest) ≡ k
    back true t (inl (x, e)) = sym e
    back true t (inr (x, y)) = absurd (false≢true (sym (t.1 x)))
    back false t (inl (x, e)) = absurd (x (t.0 refl))
    back false t (inr (x, y)) = (f x k).1 y

unnot : (b : Bool) → (not b ≡ false) ↔ (b ≡ true)
unnot b = (not-false b, ap not)

-- the chain of tests
in_turn : (m : Machine) (ws : List Write) (s : Step) (k : ℕ) → (number_by (refusal_of m ws s) ≡ k) ↔ FirstFailed m ws s k
unfolding refusal_of refusal_by
in_turn m ws s =
    unless _ CannotStand _ _ _ (unnot _) (λ _. unless _ StepsTaken _ _ _ (leb-false _ _, lt-leb _ _) (λ _.
    unless _ NoSuchThread _ _ _ ((λ e. among_some _ _ (not-false _ e)), (λ h. ap not (some_among _ _ h))) (λ _.
    unless _ NotDue _ _ _ ((λ e. kind_is _ _ (not-false _ e)), (λ e. ap not (is_kind _ _ e))) (λ d.
    unless _ NoSuchCell _ _ _ (unnot _) (λ _. unless _ TooGreat _ _ _ (ltb-false _ _, le-ltb _ _) (λ _. unless _ NoRecordFree _ _ _ ((λ e. e), (λ e. e)) (λ _.
    unless _ Outdated _ _ _ (tested m ws s d).view (λ _. unless _ Amiss _ _ _ (tested m ws s d).history (λ _ k. (sym, sym))))))))))

pub first_given : FirstGiven
first_given m ws s k =
    let x = in_turn m ws s k in
    ((λ e. x.0 (sym (numbered m ws s) ∙ e)), (λ u. numbered m ws s ∙ x.1 u))
