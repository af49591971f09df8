-- What the report program prints, for any input. "The report program reads a schedule on standard input, checks the whole text, runs with
-- 1,024 records until the first refused step, and prints." Assumes nothing.
use Rattle.std.specs.Prelude.{ℕ, zero, suc, ◌+◌, ◌-◌, List, [], ◌∷◌, ◌++◌, map, length, replicate, Option, Some, None}
use Rattle.fault.specs.Refusal.{number_of, place_of}
use Rattle.fault.specs.declared.Refusal.{Refusal}
use Rattle.rules.specs.Step.{content_of}
use Rattle.opening.specs.Opening.{opened_of}
use Rattle.printed.specs.Printed.{answer_line, lines_text}
use Rattle.printed.specs.declared.Field.TheVariants.{Says, Counts}
use Rattle.printed.specs.declared.Printed.{Printed}
use Rattle.printed.specs.declared.Printed.TheVariants.{Two, Three}
use Rattle.printed.specs.declared.Word.{Word}
use Rattle.printed.specs.declared.Word.TheVariants.{Answers, Queue, Refused, Text}
use Rattle.run.specs.Ends.{told_line}
use Rattle.run.specs.Run.{Run, ran}
use Rattle.texts.specs.Schedule.{Schedule, Outcome, schedule, refusal, reads}
use Rattle.state.specs.declared.Machine.{Machine}
use Rattle.writes.specs.Records.{no_write}
use Rattle.writes.specs.declared.Write.{Write}

-- a word and a count
abbrev pub heading : Word → ℕ → Printed
heading w n = Two (Says w) (Counts n)

-- "for each rank from tail up to head less one, rank and the weight at the greatest stamp of its slot if its status is 2 times rank plus
-- 1, else rank and `-`": so many ranks from one on
unfoldable pub rank_lines : Machine → List Write → ℕ → ℕ → List Printed
rank_lines m ws zero k = []
rank_lines m ws (suc n) k = answer_line k (content_of m ws k) ∷ rank_lines m ws n (suc k)

-- "`queue`: a count of ranks, then" a line for each
unfoldable pub queue_lines : Machine → List Write → List Printed
queue_lines m ws =
    let count = m.head.value - m.tail.value in
    heading Queue count ∷ rank_lines m ws count m.tail.value

-- "`refused`: 0 and no line, or 1 and a line of step number (from 1) and refusal number"
unfoldable pub refused_lines : ℕ → Option ℕ → List Printed
refused_lines taken None = heading Refused 0 ∷ []
refused_lines taken (Some n) = heading Refused 1 ∷ Two (Counts (taken + 1)) (Counts n) ∷ []

-- a report is its first line and the rest
pub record Lines : Type 0 where
  pub first : Printed
  pub rest : List Printed

unfoldable pub run_lines : Run → Lines
run_lines r =
    record {
      first = heading Answers (length r.answers);
      rest = map told_line r.answers ++ (queue_lines r.machine r.writes ++ refused_lines (length r.answers) r.refused);
    }

-- "A text refusal, here and in every later program, prints only one line: `text`, number, place."
abbrev pub text_line : Refusal → Printed
text_line r = Three (Says Text) (Counts (number_of r)) (Counts (place_of r))

-- a machine opened as the schedule says, and 1,024 records lent
unfoldable pub run_of : Schedule → Run
run_of x = ran (opened_of x.threads x.slots x.plain x.flag).machine (replicate 1024 no_write) x.steps

abbrev pub report_on : Outcome → Lines
report_on (schedule x) = run_lines (run_of x)
report_on (refusal r) = record { first = text_line r; rest = [] }

unfoldable pub reported : List ℕ → Lines
reported s = report_on (reads s)

-- the bytes that are printed
unfoldable pub report_text : List ℕ → List ℕ
report_text s = lines_text ((reported s).first ∷ (reported s).rest)
