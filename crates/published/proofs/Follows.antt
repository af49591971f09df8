-- A step is taken exactly when it is admitted and the published rules allow it, and then does what the rule says. Assumes nothing.
use mathlib.Core.Path.{◌≡◌, refl, ap, subst, ◌∙◌}
use mathlib.Core.List.{List}
use Prim.Native.Nat.{◌+◌, ◌-◌}
use native.Mathlib.Omega.{arith}
use Rattle.std.specs.Prelude.{None}
use Rattle.rules.proofs.Refused.{numbered, no_refusal, taken_counts}
use Rattle.rules.proofs.Room.{room_kept}
use Rattle.rules.specs.Access.{found_by}
use Rattle.rules.specs.Step.{taken_by, asked, refusal_of, decided_of, Outcome, outcome, step_of}
use Rattle.published.proofs.Admission.{taken_if, Fits, admitted}
use Rattle.standing.proofs.Bounds.{bounds}
use Rattle.published.proofs.Lines.{by_verb}
use Rattle.published.proofs.Made.{Made}
use Rattle.published.proofs.Premises.{meets, tested}
use Rattle.published.specs.Calls.{stamp_in}
use Rattle.published.specs.Follows.{Admitted, running, TakenFollows, AllowedTaken}
use Rattle.state.specs.State.{place, Whole}
use Rattle.state.specs.declared.Machine.{Machine}
use Rattle.step.specs.Reason.{number_by}
use Rattle.step.specs.declared.Step.{Step}
use Rattle.writes.specs.Records.{recorded}
use Rattle.writes.specs.declared.Write.{Write}

-- what a step leaves that is taken
taken : (m : Machine) (ws : List Write) (s : Step) → refusal_of m ws s ≡ None
    → outcome (taken_by m s (asked m s) (found_by m ws (asked m s))) (recorded (asked m s) m.held ws) ≡ step_of m ws s
unfolding step_of decided_of
taken m ws s e = rw e

-- the step's code has made its event
made : (m : Machine) (ws : List Write) (s : Step) → Whole m → refusal_of m ws s ≡ None → Admitted m ws s → Fits m ws (s.thread - 1) (asked m s)
    → Made m ws (s.thread - 1) (running m s) (stamp_in s.verb) (step_of m ws s).done (step_of m ws s).writes
unfolding taken_by
made m ws s W e A F =
    let B = bounds m ws A.stand in
    subst (λ (o : Outcome). Made m ws (s.thread - 1) (running m s) (stamp_in s.verb) o.done o.writes) (taken m ws s e)
    (by_verb m ws (s.thread - 1) W B (omega (arith, A.thread, B.threads)) (m.steps + 1) s.verb (place m (s.thread - 1)) refl A.due A.cell A.room F)

pub taken_follows : TakenFollows
taken_follows m ws s W n =
    let e = no_refusal m ws s n in
    let A = admitted m ws s e in
    let M = made m ws s W e A.0 A.1 in
    (A.0, record { event = M.event; left = M.left; makes = M.makes; rule = M.rule; rest = M.rest; others = M.others; list = M.list; steps = taken_counts m ws s n; room = room_kept m ws s })

pub allowed_taken : AllowedTaken
allowed_taken m ws s A P =
    let x = meets _ _ _ _ _ _ _ _ _ P.makes P.rule in
    let t = tested m ws s A.due in
    numbered m ws s ∙ ap number_by (taken_if m ws s A (t.view.1 x.0, t.history.1 x.1))
