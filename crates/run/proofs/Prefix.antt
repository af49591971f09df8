-- A schedule's run is the run over any steps, up to the first that is refused. Assumes nothing.
use Prim.Native.Nat.{ℕ}
use lib.ListN.{length, take, drop}
use mathlib.Core.List.{List, [], ◌∷◌, append_assoc, append-nil}
use mathlib.Core.Path.{◌≡◌, refl, sym, ap, ◌∙◌}
use native.Mathlib.Omega.{arith}
use Rattle.std.specs.Prelude.{Option, Some, None}
use Rattle.rules.specs.Log.{Point, entry_of, next, through}
use Rattle.rules.specs.Step.{step_of}
use Rattle.run.specs.Prefix.{told_in, AllTaken, UpTo, RanThrough}
use Rattle.run.specs.Run.{Run, goes_on_after, ran, stops, tells}
use Rattle.step.proofs.Answered.{by_refusal, refusal_above}
use Rattle.step.specs.Refused.{refused_in, number_in}
use Rattle.step.specs.declared.Step.{Step}

-- a run of some steps from a point
abbrev Through : Point → List Step → Run → Type 0
Through p ss r = UpTo p (through p (take (length r.answers) ss)) (drop (length r.answers) ss) r

-- a first step that is taken or refused, and the rest
further : (p : Point) (s : Step) (ss : List Step) (rest : Run) → Through (next p s) ss rest → (o : Option ℕ)
    → refused_in (step_of p.machine p.writes s).done.answer ≡ o
    → Through p (s ∷ ss)
    (goes_on_after o (stops p.machine p.writes (refused_in (step_of p.machine p.writes s).done.answer))
    (tells (record { thread = s.thread; answer = (step_of p.machine p.writes s).done.answer }) rest))
unfolding through next entry_of told_in AllTaken
further p s ss rest u None e =
    record {
      machine = u.machine;
      writes = u.writes;
      answers = u.answers ∙ append_assoc (told_in p.log) (_ ∷ []) rest.answers;
      taken = (by_refusal (step_of p.machine p.writes s).done.answer ∙ ap number_in e, u.taken);
      refused = u.refused;
      stops = u.stops;
    }
further p s ss rest u (Some n) e =
    record { machine = refl; writes = refl; answers = sym (append-nil _); taken = tt; refused = refl; stops = λ h. rw e (refusal_above (step_of p.machine p.writes s).done.answer n e) }

pub ran_through : RanThrough
unfolding ran through next told_in AllTaken
ran_through p [] =
    record { machine = refl; writes = refl; answers = sym (append-nil _); taken = tt; refused = refl; stops = λ h. absurd (omega arith) }
ran_through p (s ∷ ss) = further p s ss _ (ran_through (next p s) ss) (refused_in (step_of p.machine p.writes s).done.answer) refl
