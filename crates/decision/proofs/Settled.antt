-- What a step asks, what the search finds and what is decided come to the step, and so for what the queue holds. Assumes nothing.
use mathlib.Core.Path.{◌≡◌, refl, sym, ap, ◌∙◌}
use mathlib.Core.Bool.{Bool, true, false}
use mathlib.Core.List.{List}
use Prim.Native.Nat.{ℕ, ◌-◌}
use lib.Dec.{eqb}
use lib.ListN.{length, set, take}
use Rattle.std.specs.Prelude.{Option}
use Rattle.asking.specs.Ask.{records_asked, judged_unless, sought_for, ask_by, asked_if, ask_of, rank_ask_of}
use Rattle.asking.specs.declared.Ask.{Ask}
use Rattle.decision.specs.Decision.{stands_by, stands_if, verdict_of, content_by}
use Rattle.decision.specs.Known.{judged_by, decided_with, left_by, step_by}
use Rattle.decision.specs.declared.Verdict.{Verdict}
use Rattle.laws.specs.Tests.{◌and◌}
use Rattle.rank.specs.Rank.{full_status}
use Rattle.refusal.specs.Refusal.{refusal_by}
use Rattle.rules.specs.Access.{slot_cell, cell_asked, stamp_asked, found_by, looked_by}
use Rattle.rules.specs.Calls.{status_name}
use Rattle.rules.specs.Step.{outcome, decided_by, asked, content_if, content_of}
use Rattle.rules.specs.declared.Decided.{Decided}
use Rattle.standing.proofs.Bounds.{sizes}
use Rattle.standing.proofs.Found.{stands_found}
use Rattle.standing.specs.Stands.{sizes_stand, stands}
use Rattle.state.specs.State.{cells_of, atomic_at, first_of}
use Rattle.state.specs.declared.Machine.{Machine}
use Rattle.step.specs.declared.Answer.{Answer}
use Rattle.step.specs.declared.Step.{Step}
use Rattle.writes.proofs.Searched.{found_alike, found_stays, searched_is, fill_is}
use Rattle.writes.specs.History.{search_of}
use Rattle.writes.specs.Searched.{sought_of, searched}
use Rattle.writes.specs.declared.Access.{Access}
use Rattle.writes.specs.declared.Access.TheVariants.{NoAccess, Reads, Writes}
use Rattle.writes.specs.declared.Looked.{Looked}
use Rattle.writes.specs.declared.Query.{Query}
use Rattle.writes.specs.declared.Write.{Write}

-- what the search of all held records finds for an access
abbrev found_for : Machine → List Write → Access → Query
found_for m ws a = searched (sought_for m a) (take m.held ws)

module _ (m : Machine) (ws : List Write) where
  stands_for : (a : Access) → stands_by m (length ws) (found_for m ws a) ≡ stands m ws
  stands_for a = stands_found m ws (first_of m (cell_asked a - 1)) (cell_asked a) (stamp_asked a)

  looked_for : (a : Access) → sizes_stand m (length ws) ≡ true → (found_for m ws a).looked ≡ looked_by m ws a
  unfolding looked_by
  looked_for a e =
      searched_is (cells_of m) (first_of m (cell_asked a - 1)) ws (cell_asked a) (stamp_asked a) m.held (sizes m (length ws) e).room

  module _ (known : Bool) (s : Step) where
    abbrev by : Access → Bool → Option ℕ → Decided
    by a b f = decided_by (refusal_by b m (length ws) s a f) m s a f

    -- what the records that are searched show
    abbrev shown_for : Bool → Access → Query
    shown_for z a = searched (judged_unless z (sought_for m a)) (take (records_asked z a m.held) ws)

    -- where no access is made, nothing of the list matters
    shown_found : (z : Bool) (a : Access) → (shown_for z a).looked.found ≡ (found_for m ws a).looked.found
    unfolding sought_of
    shown_found false a = refl
    shown_found true NoAccess =
        found_stays (judged_unless true (sought_for m NoAccess)) (take 0 ws) (first_of m 0) refl
        ∙ sym (found_stays (sought_for m NoAccess) (take m.held ws) (first_of m 0) refl)
    shown_found true (Reads c t) = found_alike _ _ (take m.held ws) refl refl refl
    shown_found true (Writes c t v) = found_alike _ _ (take m.held ws) refl refl refl

    abbrev decided : Access → Decided
    decided a = by a (stands_if known m (length ws) s (shown_for known a)) (shown_for known a).looked.found

    judged_for : (z : Bool) (a : Access) → stands_if z m (length ws) s (shown_for z a) ≡ judged_by z m ws s
    judged_for true a = refl
    judged_for false a = stands_for a

    -- a state whose sizes do not stand is refused, whatever is known
    unsized : (z : Bool) → sizes_stand m (length ws) ≡ false → judged_by z m ws s ≡ false
    unfolding stands ◌and◌
    unsized true e = rw e
    unsized false e = rw e

    decided_is : (z : Bool) → sizes_stand m (length ws) ≡ z → decided (asked_if z (asked m s)) ≡ decided_with (judged_by known m ws s) m ws s
    unfolding found_by looked_by search_of refusal_by
    decided_is true e =
        ap (λ (b : Bool). by (asked m s) b (shown_for known (asked m s)).looked.found) (judged_for known (asked m s))
        ∙ ap (λ (f : Option ℕ). by (asked m s) (judged_by known m ws s) f) (shown_found known (asked m s))
        ∙ ap (λ (l : Looked). by (asked m s) (judged_by known m ws s) l.found) (looked_for (asked m s) e)
    decided_is false e = rw (judged_for known NoAccess, unsized known e)

    abbrev ask : Ask
    ask = ask_of known m (length ws) s

    abbrev verdict : Verdict
    verdict = verdict_of known m (length ws) s ask.access (searched ask.query (take ask.held ws))

    -- the record stored and the answer given are those of the step
    pub settled : outcome verdict.done (set ws verdict.fill.at verdict.fill.write) ≡ step_by known m ws s
    unfolding ask_of ask_by verdict_of step_by
    settled =
        let d = decided (asked_if (sizes_stand m (length ws)) (asked m s)) in
        ap (outcome d.done) (fill_is d.wrote m.held ws)
        ∙ ap (λ (u : Decided). left_by u m ws) (decided_is (sizes_stand m (length ws)) refl)

  module _ (k : ℕ) where
    abbrev shown_by : Bool → ℕ → Answer
    shown_by b v = content_if b (eqb (atomic_at m (status_name m k)).value (full_status k)) v

    abbrev shown : Access → Answer
    shown a = shown_by (stands_by m (length ws) (found_for m ws a)) (found_for m ws a).looked.newest.value

    shown_is : (z : Bool) → sizes_stand m (length ws) ≡ z → shown (asked_if z (Reads (slot_cell m.shape k) 0)) ≡ content_of m ws k
    unfolding content_of looked_by search_of stands ◌and◌
    shown_is true e =
        let a = Reads (slot_cell m.shape k) 0 in
        ap (λ (b : Bool). shown_by b (found_for m ws a).looked.newest.value) (stands_for a)
        ∙ ap (λ (l : Looked). shown_by (stands m ws) l.newest.value) (looked_for a e)
    shown_is false e = rw e

    abbrev rank_ask : Ask
    rank_ask = rank_ask_of m (length ws) k

    -- what the queue holds at a rank
    pub content_settled : content_by m (length ws) k (searched rank_ask.query (take rank_ask.held ws)) ≡ content_of m ws k
    unfolding rank_ask_of ask_by content_by
    content_settled = shown_is (sizes_stand m (length ws)) refl
