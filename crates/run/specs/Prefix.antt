-- A schedule's run is the run over any steps, up to the first that is refused. Assumes nothing.
use Rattle.std.specs.Prelude.{ℕ, ◌<◌, length, take, drop, List, [], ◌∷◌, ◌++◌, ◌≡◌, Option, None}
use Rattle.rules.specs.Log.{Entry, Point, through}
use Rattle.rules.specs.Step.{step_of}
use Rattle.run.specs.Run.{Run, Told, ran}
use Rattle.step.specs.Answer.{number_of}
use Rattle.step.specs.Refused.{refused_in, number_in}
use Rattle.step.specs.declared.Step.{Step}

-- thread and answer of each entry of a log, the oldest first
unfoldable pub told_in : List Entry → List Told
told_in [] = []
told_in (e ∷ es) = told_in es ++ (record { thread = e.step.thread; answer = e.answer } ∷ [])

unfoldable pub AllTaken : List Told → Type 0
AllTaken [] = Unit {0}
AllTaken (x ∷ xs) = (number_of x.answer ≡ 0) × AllTaken xs

-- the number that the next step is refused by, if there is one that is
abbrev pub refused_next : Point → List Step → Option ℕ
refused_next p [] = None
refused_next p (s ∷ ss) = refused_in (step_of p.machine p.writes s).done.answer

-- run r goes from point p to point q, and what is left of the steps is empty or begins with a refused one
pub record UpTo (p q : Point) (left : List Step) (r : Run) : Type 0 where
  pub machine : r.machine ≡ q.machine
  pub writes : r.writes ≡ q.writes
  pub answers : told_in q.log ≡ told_in p.log ++ r.answers
  pub taken : AllTaken r.answers
  pub refused : r.refused ≡ refused_next q left
  pub stops : 0 < length left → 0 < number_in r.refused

abbrev pub RanThrough : Type 0
RanThrough =
    (p : Point) (ss : List Step)
    → let r = ran p.machine p.writes ss in
    let k = length r.answers in
    UpTo p (through p (take k ss)) (drop k ss) r
