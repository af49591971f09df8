-- What a case asks, and how the definitions reply. Assumes nothing.
use Rattle.std.specs.Prelude.{ℕ, zero, suc, ◌-◌, List, [], ◌∷◌, ◌++◌, replicate, Result, Ok, Err}
use Rattle.std.proofs.Math.Option.{Option}
use Rattle.form.specs.declared.Due.TheVariants.{WeightDue}
use Rattle.form.specs.declared.Line as text_line
use Rattle.fault.specs.Refusal.{number_of, place_of, part_of}
use Rattle.line.specs.Row.{read_line}
use Rattle.digits.specs.declared.Read.{Read}
use Rattle.fault.specs.declared.Refusal.{Refusal}
use Rattle.rules.specs.Log.{Entry, Point, start, through, seen}
use Rattle.rules.specs.Queue.{Line, plain}
use Rattle.rules.specs.Step.{content_of}
use Rattle.opening.specs.Opening.{opened_of}
use Rattle.reported.specs.Report.{report_text}
use Rattle.texts.specs.Schedule.{Schedule, Outcome, schedule, refusal, weight_in, reads}
use Rattle.state.specs.declared.Machine.{Machine}
use Rattle.step.specs.declared.Answer.{Answer}
use Rattle.step.specs.declared.Step.{Step}
use Rattle.writes.specs.Records.{no_write}
use Rattle.writes.specs.declared.Write.{Write}

-- what a run comes to
pub record End : Type 0 where
  -- the answer of each step, refused ones with their number
  pub answers : List Answer
  -- tail and head, and what the queue holds at each rank from tail to head less one
  pub tail : ℕ
  pub head : ℕ
  pub queue : List Answer
  -- the plain list after the won swaps of the log, if it is one
  pub line : Option Line

pub data Question : Type 0 where
  -- a line, read where a weight is due
  weight_line : List ℕ → Question
  -- a whole text, read
  whole_text : List ℕ → Question
  -- a machine of so many threads and slots, with first values of its plain cells and no flag, and the steps that it is given
  run : ℕ → ℕ → List ℕ → List Step → Question
  -- a text, for the report on it
  report : List ℕ → Question

pub data Reply : Type 0 where
  -- taken as a weight
  taken : ℕ → Reply
  -- taken as a schedule
  taken_as : Schedule → Reply
  -- refused: number, place, part at fault
  refused : ℕ → ℕ → List ℕ → Reply
  -- a run's end
  ends : End → Reply
  -- a report's bytes
  prints : List ℕ → Reply

abbrev pub refused_in : List ℕ → Refusal → Reply
refused_in s r = refused (number_of r) (place_of r) (part_of s r)

abbrev pub of_line : List ℕ → Result (Read text_line.Line) Refusal → Reply
of_line s (Ok x) = taken (weight_in x.value)
of_line s (Err r) = refused_in s r

abbrev pub of_text : List ℕ → Outcome → Reply
of_text s (schedule x) = taken_as x
of_text s (refusal r) = refused_in s r

-- what the queue holds at so many ranks from one on
unfoldable pub held : Machine → List Write → ℕ → ℕ → List Answer
held m ws k zero = []
held m ws k (suc n) = content_of m ws k ∷ held m ws (suc k) n

-- the answers of a log, the oldest first
unfoldable pub answers_in : List Entry → List Answer
answers_in [] = []
answers_in (e ∷ es) = answers_in es ++ (e.answer ∷ [])

-- what a run has come to at a point
unfoldable pub end_at : Point → End
end_at p =
    let m = p.machine in
    record {
      answers = answers_in p.log;
      tail = m.tail.value;
      head = m.head.value;
      queue = held m p.writes m.tail.value (m.head.value - m.tail.value);
      line = plain m.shape.slots (seen p.log).ops;
    }

-- what the definitions reply; a run has 16 records lent
unfoldable pub reply : Question → Reply
reply (weight_line s) = of_line s (read_line WeightDue s 0)
reply (whole_text s) = of_text s (reads s)
reply (run t c firsts steps) = ends (end_at (through (start (opened_of t c firsts []).machine (replicate 16 no_write)) steps))
reply (report s) = prints (report_text s)
