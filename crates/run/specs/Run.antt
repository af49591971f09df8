-- A schedule's steps, run "until the first refused step". Assumes nothing.
use Rattle.std.specs.Prelude.{ℕ, List, [], ◌∷◌, Option, Some, None}
use Rattle.rules.specs.Step.{step_of}
use Rattle.state.specs.declared.Machine.{Machine}
use Rattle.step.specs.Refused.{refused_in}
use Rattle.step.specs.declared.Answer.{Answer}
use Rattle.step.specs.declared.Step.{Step}
use Rattle.writes.specs.declared.Write.{Write}

-- "thread and answer of each taken step"
pub record Told : Type 0 where
  pub thread : ℕ
  pub answer : Answer

-- what a run comes to: its answers, the state and the list after the last taken step, the number that a step was refused by, if one was
pub record Run : Type 0 where
  pub answers : List Told
  pub machine : Machine
  pub writes : List Write
  pub refused : Option ℕ

abbrev pub stops : Machine → List Write → Option ℕ → Run
stops m ws o = record { answers = []; machine = m; writes = ws; refused = o }

abbrev pub tells : Told → Run → Run
tells x r = record { answers = x ∷ r.answers; machine = r.machine; writes = r.writes; refused = r.refused }

-- a step that is taken or refused by a number: the run goes on after it, or stops before it
abbrev pub goes_on_after : Option ℕ → Run → Run → Run
goes_on_after None stop on = on
goes_on_after (Some n) stop on = stop

unfoldable pub ran : Machine → List Write → List Step → Run
ran m ws [] = stops m ws None
ran m ws (s ∷ ss) =
    let o = step_of m ws s in
    goes_on_after (refused_in o.done.answer)
    (stops m ws (refused_in o.done.answer))
    (tells (record { thread = s.thread; answer = o.done.answer }) (ran o.done.machine o.writes ss))
