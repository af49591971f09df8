-- What each verb does keeps a state fitting, one step more counted. Assumes nothing.
use mathlib.Core.Path.{◌≡◌}
use mathlib.Core.Bool.{Bool, true, false}
use mathlib.Core.List.{List}
use Prim.Native.Nat.{ℕ, ◌-◌, ◌<◌, ◌≤◌}
use native.Mathlib.Omega.{arith}
use Rattle.places.specs.Places.{rank_of, weight_of}
use Rattle.rules.proofs.Memory.{read_fits, write_fits, swap_fits}
use Rattle.rules.proofs.Parts.{Known, highest, place_fits}
use Rattle.rules.proofs.Standing.{NotesFit, high_status, Fits, slot_in}
use Rattle.refusal.proofs.Passed.{among_some}
use Rattle.rules.specs.Calls.{goes_on, status_name, looks, swaps, closes, resumed, acted}
use Rattle.rank.specs.Rank.{next_rank, free_status, full_status, lapped}
use Rattle.state.specs.State.{place, with_place}
use Rattle.state.specs.declared.Machine.{Machine}
use Rattle.state.specs.declared.Name.{Name}
use Rattle.state.specs.declared.Name.TheVariants.{Head, Tail, Flag}
use Rattle.state.specs.declared.Place.{Place}
use Rattle.state.specs.declared.Place.TheVariants.{Idle, PutStatus, PutSwap, PutWrite, PutPublish, TakeStatus, TakeSwap, TakeRead, TakeFree}
use Rattle.step.specs.Limit.{most}
use Rattle.step.specs.declared.Answer.{Answer}
use Rattle.step.specs.declared.Answer.TheVariants.{Yes, No, None, Got}
use Rattle.step.specs.declared.Verb.{Verb}
use Rattle.step.specs.declared.Verb.TheVariants.{Get, Set, Load, Store, Swap, Put, Take, Go, GoAt}
use Rattle.verbs.specs.Verbs.{among, named, greatest}
use Rattle.writes.specs.declared.Write.{Write}

-- a thread goes idle
idle_fits : (n : ℕ) (m : Machine) (ws : List Write) (i : ℕ) → Fits n m ws → Fits n (with_place m i Idle) ws
idle_fits n m ws i fits = place_fits n m ws i Idle fits (omega arith, omega arith)

-- a call goes on or ends
goes_on_fits : (n : ℕ) (b : Bool) (m : Machine) (ws : List Write) (i : ℕ) (p : Place) (lost : Answer) → Fits n m ws → NotesFit n p
    → Fits n (goes_on b m i p lost).machine ws
unfolding goes_on
goes_on_fits n true m ws i p lost fits h = place_fits n m ws i p fits h
goes_on_fits n false m ws i p lost fits h = idle_fits n m ws i fits

-- a flag that a line names is one of the machine's
pub flag_in : (m : Machine) (f : ℕ) → among f m.shape.flags ≡ true → f - 1 < m.shape.flags
flag_in m f e = omega (arith, among_some f m.shape.flags e)

module _ (n : ℕ) (m : Machine) (ws : List Write) (fits : Fits n m ws) (i : ℕ) (l : i < m.shape.threads) where
  -- second: a status is read
  looks_fits : (k due : ℕ) (p : Place) (lost : Answer) → NotesFit n p → Fits n (looks m i k due p lost).machine ws
  unfolding looks
  looks_fits k due p lost h = goes_on_fits n _ _ ws i p lost (read_fits n m ws fits i l (status_name m k) (slot_in n m ws fits k)) h

  -- third: head or tail is swapped to the next rank
  swaps_fits : (a : Name) (k : ℕ) (p : Place) (lost : Answer) → Known m.shape a → next_rank k ≤ highest m.shape n a → NotesFit n p
      → Fits n (swaps m i a k p lost).machine ws
  unfolding swaps
  swaps_fits a k p lost h r q = goes_on_fits n _ _ ws i p lost (swap_fits n m ws fits i l a k (next_rank k) h r) q

  -- fifth: a status is written
  closes_fits : (k status : ℕ) (a : Answer) → status ≤ high_status m.shape n → Fits n (closes m i k status a).machine ws
  unfolding closes
  closes_fits k status a h = idle_fits n _ ws i (write_fits n m ws fits i l (status_name m k) status (slot_in n m ws fits k) h)

  -- the table of the two calls: a rank that was noted is at most the steps taken before this one
  resumed_fits : (p : Place) (v : ℕ) → rank_of p < n → weight_of p ≤ most → v ≤ most → Fits n (resumed m i p v).machine ws
  unfolding resumed next_rank free_status full_status lapped
  resumed_fits Idle v r w h = idle_fits n m ws i fits
  resumed_fits (PutStatus k x) v r w h = looks_fits k _ (PutSwap k x) No (omega arith, w)
  resumed_fits (PutSwap k x) v r w h = swaps_fits Head k (PutWrite k x) No tt (omega arith) (omega arith, w)
  resumed_fits (PutWrite k x) v r w h = place_fits n m ws i (PutPublish k) fits (omega arith, omega arith)
  resumed_fits (PutPublish k) v r w h = closes_fits k _ Yes (omega arith)
  resumed_fits (TakeStatus k) v r w h = looks_fits k _ (TakeSwap k) None (omega arith, omega arith)
  resumed_fits (TakeSwap k) v r w h = swaps_fits Tail k (TakeRead k) None tt (omega arith) (omega arith, omega arith)
  resumed_fits (TakeRead k) v r w h = place_fits n m ws i (TakeFree k v) fits (omega arith, h)
  resumed_fits (TakeFree k x) v r w h = closes_fits k _ (Got x) (omega arith)

  -- what each verb does
  pub acted_fits : (x : Verb) (v : ℕ) → named m.shape x ≡ true → greatest x ≤ most → rank_of (place m i) < n → v ≤ most
      → Fits n (acted m i x v).machine ws
  unfolding acted
  acted_fits (Get c t) v e g r h = idle_fits n m ws i fits
  acted_fits (Set c x t) v e g r h = idle_fits n m ws i fits
  acted_fits (Load f) v e g r h = idle_fits n _ ws i (read_fits n m ws fits i l (Flag (f - 1)) (flag_in m f e))
  acted_fits (Store f x) v e g r h = idle_fits n _ ws i (write_fits n m ws fits i l (Flag (f - 1)) x (flag_in m f e) g)
  acted_fits (Swap f old new) v e g r h = idle_fits n _ ws i (swap_fits n m ws fits i l (Flag (f - 1)) old new (flag_in m f e) (omega arith))
  acted_fits (Put w) v e g r h = place_fits n _ ws i (PutStatus m.head.value w) (read_fits n m ws fits i l Head tt) (fits.head.0, g)
  acted_fits Take v e g r h = place_fits n _ ws i (TakeStatus m.tail.value) (read_fits n m ws fits i l Tail tt) (fits.tail.0, omega arith)
  acted_fits Go v e g r h = resumed_fits (place m i) v r (fits.places i l).1 h
  acted_fits (GoAt t) v e g r h = resumed_fits (place m i) v r (fits.places i l).1 h
