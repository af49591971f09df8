-- What a taken step answers and what a rank holds is in range. Assumes nothing.
use Prim.Native.Nat.{◌-◌, ◌<◌, ◌≤◌, suc, zero, ℕ}
use lib.Dec.{eqb, ltb}
use lib.ListN.{length}
use mathlib.Core.Bool.{Bool, false, true}
use mathlib.Core.List.{List}
use mathlib.Core.Path.{◌≡◌}
use native.Mathlib.Omega.{arith}
use borrow.Author.Tests.{leb-true}
use Rattle.std.specs.Prelude.{Option}
use Rattle.std.specs.Prelude as std
use Rattle.atomic.specs.Atomic.{swapped_of}
use Rattle.places.specs.Places.{weight_of}
use Rattle.rules.proofs.Access.{access_fits, accessed_fits, first_fits, value_fits}
use Rattle.rules.proofs.Calls.{flag_in}
use Rattle.rules.proofs.Refused.{no_refusal}
use Rattle.rules.proofs.Standing.{Fits, standing}
use Rattle.rules.specs.Kept.{number_given}
use Rattle.laws.proofs.Tests.{apart}
use Rattle.laws.specs.Tests.{◌and◌, all_below}
use Rattle.rules.proofs.Accessed.{accessed_shape}
use Rattle.rules.specs.Access.{accessed, found_by, slot_cell}
use Rattle.rules.specs.Calls.{acted, closes, goes_on, looks, resumed, status_name, swaps, yes_if}
use Rattle.rules.specs.Step.{asked, content_if, content_of, decided_by, decided_of, refusal_of, step_of, taken_by}
use Rattle.printed.proofs.Fits.{InRange}
use Rattle.rank.specs.Rank.{full_status}
use Rattle.refusal.proofs.Passed.{Passed, passed}
use Rattle.standing.specs.Stands.{stands}
use Rattle.state.specs.State.{atomic_at, cells_of, first_of, place}
use Rattle.state.specs.declared.Machine.{Machine}
use Rattle.state.specs.declared.Name.TheVariants.{Flag}
use Rattle.state.specs.declared.Place.{Place}
use Rattle.state.specs.declared.Place.TheVariants.{Idle, PutPublish, PutStatus, PutSwap, PutWrite, TakeFree, TakeRead, TakeStatus, TakeSwap}
use Rattle.step.specs.Limit.{most}
use Rattle.step.specs.declared.Answer.{Answer}
use Rattle.step.specs.declared.Answer.TheVariants.{No, None}
use Rattle.step.specs.declared.Reason.{Reason}
use Rattle.step.specs.declared.Step.{Step}
use Rattle.step.specs.declared.Verb.{Verb}
use Rattle.step.specs.declared.Verb.TheVariants.{Get, Go, GoAt, Load, Put, Set, Store, Swap, Take}
use Rattle.verbs.specs.Verbs.{named}
use Rattle.writes.specs.History.{newer, newest, newest_if, record_stands, records_stand}
use Rattle.writes.specs.Records.{recorded}
use Rattle.writes.specs.declared.Access.{Access}
use Rattle.writes.specs.declared.Newest.{Newest}
use Rattle.writes.specs.declared.Write.{Write}

goes_on_in : (b : Bool) (m : Machine) (i : ℕ) (p : Place) (lost : Answer) → InRange lost → InRange (goes_on b m i p lost).answer
unfolding goes_on
goes_on_in true m i p lost h = tt
goes_on_in false m i p lost h = h

resumed_in : (m : Machine) (i : ℕ) (p : Place) (v : ℕ) → weight_of p ≤ most → InRange (resumed m i p v).answer
unfolding resumed looks swaps closes
resumed_in m i Idle v h = tt
resumed_in m i (PutStatus k w) v h = goes_on_in _ _ _ _ No tt
resumed_in m i (PutSwap k w) v h = goes_on_in _ _ _ _ No tt
resumed_in m i (PutWrite k w) v h = tt
resumed_in m i (PutPublish k) v h = tt
resumed_in m i (TakeStatus t) v h = goes_on_in _ _ _ _ None tt
resumed_in m i (TakeSwap t) v h = goes_on_in _ _ _ _ None tt
resumed_in m i (TakeRead t) v h = tt
resumed_in m i (TakeFree t w) v h = h

yes_in : (b : Bool) → InRange (yes_if b)
yes_in true = tt
yes_in false = tt

acted_in : (n : ℕ) (m : Machine) (ws : List Write) → Fits n m ws → (i : ℕ) → i < m.shape.threads → (x : Verb) (v : ℕ)
    → named m.shape x ≡ true → v ≤ most → InRange (acted m i x v).answer
unfolding acted atomic_at
acted_in n m ws fits i l (Get c t) v e h = h
acted_in n m ws fits i l (Set c x t) v e h = tt
acted_in n m ws fits i l (Load f) v e h = (fits.flags (f - 1) (flag_in m f e)).0
acted_in n m ws fits i l (Store f x) v e h = tt
acted_in n m ws fits i l (Swap f old new) v e h = yes_in (swapped_of m i (Flag (f - 1)) old new).won
acted_in n m ws fits i l (Put w) v e h = tt
acted_in n m ws fits i l Take v e h = tt
acted_in n m ws fits i l Go v e h = resumed_in m i (place m i) v (fits.places i l).1
acted_in n m ws fits i l (GoAt t) v e h = resumed_in m i (place m i) v (fits.places i l).1

-- a step that is given no number
abbrev pub PassedAll : Machine → List Write → Step → Type 0
PassedAll m ws s = Passed (stands m ws) m (length ws) s (asked m s) (found_by m ws (asked m s))

pub passed_all : (m : Machine) (ws : List Write) (s : Step) → number_given m ws s ≡ 0 → PassedAll m ws s
unfolding refusal_of
passed_all m ws s e = (passed _ _ _ _ _ _ (no_refusal m ws s e)).0

taken_by_lem : (m : Machine) (ws : List Write) (s : Step) → PassedAll m ws s → InRange (taken_by m s (asked m s) (found_by m ws (asked m s))).answer
unfolding taken_by
taken_by_lem m ws s t =
    let n = m.steps in
    let i = s.thread - 1 in
    let a = asked m s in
    let fits = standing m ws t.stands in
    let l : i < m.shape.threads = omega (arith, t.thread) in
    let fit = access_fits n m ws fits s.verb (place m i) (fits.places i l) t.names t.range in
    let here : i < (accessed m i a).shape.threads = rw (accessed_shape m i a) l in
    let known : named (accessed m i a).shape s.verb ≡ true = rw (accessed_shape m i a) t.names in
    acted_in n _ (recorded a m.held ws) (accessed_fits n m ws fits i a l t.room fit) i here s.verb _ known (value_fits n m ws fits a)

decided_in : (o : Option Reason) (m : Machine) (s : Step) (a : Access) (f : Option ℕ) → o ≡ std.None → InRange (taken_by m s a f).answer
    → InRange (decided_by o m s a f).done.answer
decided_in o m s a f e h = rw e h

-- what a taken step answers
pub taken_in : (m : Machine) (ws : List Write) (s : Step) → number_given m ws s ≡ 0 → InRange (step_of m ws s).done.answer
unfolding step_of decided_of
taken_in m ws s e = decided_in (refusal_of m ws s) m s _ _ (no_refusal m ws s e) (taken_by_lem m ws s (passed_all m ws s e))

newer_if : (b : Bool) (w : Write) (s : Newest) → w.value ≤ most → s.value ≤ most → (newest_if b w s).value ≤ most
newer_if true w s p q = p
newer_if false w s p q = q

newer_in : (k : ℕ) (s : Newest) (w : Write) (c : ℕ) → s.value ≤ most → record_stands k w ≡ true → (newer s w c).value ≤ most
unfolding newer record_stands
newer_in k s w c h e =
    newer_if (eqb w.cell c and ltb s.stamp w.stamp) w s (leb-true _ _ (apart _ _ (apart _ _ (apart _ _ e).1).1).1) h

newest_in : (k first : ℕ) (ws : List Write) (c n : ℕ) → first ≤ most → records_stand k ws n ≡ true → (newest first ws c n).value ≤ most
unfolding newest records_stand all_below
newest_in k first ws c zero h e = h
newest_in k first ws c (suc n) h e = let a = apart _ _ e in newer_in k _ _ c (newest_in k first ws c n h a.0) a.1

content_if_lem : (b : Bool) (v : ℕ) → v ≤ most → InRange (content_if true b v)
content_if_lem true v h = h
content_if_lem false v h = tt

-- what a rank holds in a state that stands
pub content_in : (m : Machine) (ws : List Write) (k : ℕ) → stands m ws ≡ true → InRange (content_of m ws k)
unfolding content_of
content_in m ws k e =
    let fits = standing m ws e in
    let c = slot_cell m.shape k in
    rw e
    (content_if_lem (eqb (atomic_at m (status_name m k)).value (full_status k)) _
    (newest_in (cells_of m) (first_of m (c - 1)) ws c m.held (first_fits _ m ws fits (c - 1)) fits.records))
