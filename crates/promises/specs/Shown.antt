-- The report of a text that is taken, told by the log of its run: the answers, the plain list, the step that is refused. Assumes nothing.
use Rattle.std.specs.Prelude.{ℕ, suc, ◌<◌, ◌≡◌, List, [], ◌∷◌, ◌++◌, map, length, replicate, take, drop}
use Rattle.std.proofs.Math.Option.{Option, some}
use Rattle.opening.specs.Opening.{opened_of}
use Rattle.printed.specs.Printed.{answer_line}
use Rattle.printed.specs.declared.Printed.{Printed}
use Rattle.printed.specs.declared.Word.TheVariants.{Answers, Queue}
use Rattle.reported.specs.Report.{Lines, heading, refused_lines, reported}
use Rattle.rules.specs.Log.{Point, Seen, start, through, seen, outs}
use Rattle.rules.specs.Queue.{Line, plain, showing}
use Rattle.run.specs.Ends.{told_line}
use Rattle.run.specs.Prefix.{told_in, AllTaken, refused_next}
use Rattle.step.specs.Refused.{number_in}
use Rattle.step.specs.declared.Answer.TheVariants.{Ok}
use Rattle.step.specs.declared.Step.{Step}
use Rattle.texts.specs.Schedule.{Schedule, schedule, reads}
use Rattle.view.specs.declared.View.{View}
use Rattle.writes.specs.Records.{no_write}

-- a schedule's machine, with 1,024 records, after so many of its steps
abbrev pub after_steps : Schedule → ℕ → Point
after_steps x k = through (start (opened_of x.threads x.slots x.plain x.flag).machine (replicate 1024 no_write)) (take k x.steps)

-- a line for each weight, from a rank on: the weight, or `-` while its putter has no `yes`
unfoldable pub weight_lines : (ℕ → Option View) → ℕ → List ℕ → List Printed
weight_lines told k [] = []
weight_lines told k (w ∷ ws) = answer_line k (showing (told k) w) ∷ weight_lines told (suc k) ws

-- the count of the weights inside and the weights in order, their ranks counting on from those that came out
abbrev pub inside_lines : Seen → List ℕ → List Printed
inside_lines n inside = heading Queue (length inside) ∷ weight_lines n.published (outs n.ops) inside

-- What a report's lines are, of a machine with c slots whose run has come to a point with some steps left.
pub record Shows (c : ℕ) (p : Point) (left : List Step) (lines : Lines) : Type 0 where
  -- the steps so far are taken, and the next is refused, if there is one
  pub taken : AllTaken (told_in p.log)
  pub stops : 0 < length left → 0 < number_in (refused_next p left)
  -- the plain list after the won swaps
  pub line : Line
  pub plain_list : plain c (seen p.log).ops ≡ some line
  -- the count of the answers; the answers, that list, and the refusal
  pub first : lines.first ≡ heading Answers (length (told_in p.log))
  pub rest : lines.rest
      ≡ map told_line (told_in p.log) ++ (inside_lines (seen p.log) line.inside ++ refused_lines (length (told_in p.log)) (refused_next p left))

pub record ShowsRun (x : Schedule) (lines : Lines) : Type 0 where
  pub upto : ℕ
  pub shows : Shows x.slots (after_steps x upto) (drop upto x.steps) lines

-- of each text that is read as a schedule whose machine is opened
abbrev pub ReportShows : Type 0
ReportShows =
    (s : List ℕ) (x : Schedule) → reads s ≡ schedule x → (opened_of x.threads x.slots x.plain x.flag).answer ≡ Ok
    → ShowsRun x (reported s)
