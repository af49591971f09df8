-- A schedule, its one text, and what the reader makes of a text. Assumes nothing.
use Rattle.std.specs.Prelude.{ℕ, zero, suc, ◌≤◌, ◌≡◌, List, [], ◌∷◌, ◌++◌, map, Bool, true, ◌&&◌, length, Result, Ok, Err}
use Rattle.step.specs.declared.Step.{Step}
use Rattle.step.specs.declared.Verb.TheVariants.{Go}
use Rattle.form.specs.Line.{line_in_range}
use Rattle.form.specs.Text.{line_text}
use Rattle.form.specs.declared.Header.{Header}
use Rattle.form.specs.declared.Header.TheVariants.{Shape, Threads, Slots, Plain, Flag, Steps}
use Rattle.form.specs.declared.Due.{Due}
use Rattle.form.specs.declared.Due.TheVariants.{WeightDue, StepDue}
use Rattle.form.specs.declared.Line.{Line}
use Rattle.form.specs.declared.Line.TheVariants.{HeaderLine, WeightLine, StepLine}
use Rattle.line.specs.Row.{read_line}
use Rattle.fault.specs.Refusal.{number_of}
use Rattle.fault.specs.declared.Refusal.{Refusal}
use Rattle.digits.specs.declared.Read.{Read}
use Rattle.schedule.specs.Sections.{headers, judged}
use Rattle.schedule.specs.declared.Section.{Section}
use Rattle.schedule.specs.declared.Sections.{Sections}

-- threads, slots, the first values of plain cells and flags, the steps
pub record Schedule : Type 0 where
  pub threads : ℕ
  pub slots : ℕ
  pub plain : List ℕ
  pub flag : List ℕ
  pub steps : List Step

-- the count that a header line of a schedule gives, and the lines under it
abbrev pub count_for : Header → Schedule → ℕ
count_for Shape x = 2
count_for Threads x = x.threads
count_for Slots x = x.slots
count_for Plain x = length x.plain
count_for Flag x = length x.flag
count_for Steps x = length x.steps

abbrev pub lines_in : Header → Schedule → List Line
lines_in Shape x = []
lines_in Threads x = []
lines_in Slots x = []
lines_in Plain x = map WeightLine x.plain
lines_in Flag x = map WeightLine x.flag
lines_in Steps x = map StepLine x.steps

-- the lines of a schedule, in their order
unfoldable pub lines_for : List Header → Schedule → List Line
lines_for [] x = []
lines_for (h ∷ hs) x = HeaderLine h (count_for h x) ∷ (lines_in h x ++ lines_for hs x)

unfoldable pub lines_of : Schedule → List Line
lines_of x = lines_for headers x

-- the text of lines: one after the other
unfoldable pub text_of : List Line → List ℕ
text_of [] = []
text_of (x ∷ xs) = line_text x ++ text_of xs

unfoldable pub schedule_text : Schedule → List ℕ
schedule_text x = text_of (lines_of x)

-- every number of every line is in its range
unfoldable pub all_in_range : List Line → Bool
all_in_range [] = true
all_in_range (x ∷ xs) = line_in_range x && all_in_range xs

-- "A schedule whose text would pass 65,536 bytes has none."
pub record HasText (x : Schedule) : Type 0 where
  pub ranged : all_in_range (lines_of x) ≡ true
  pub short : length (schedule_text x) ≤ 65536

-- the lines of a section, read one at a time from its first on
abbrev pub also : Result (Read Line) Refusal → (ℕ → List Line) → List Line
also (Ok x) go = x.value ∷ go x.next
also (Err r) go = []

unfoldable pub lines_from : ℕ → Due → List ℕ → ℕ → List Line
lines_from zero due s at = []
lines_from (suc n) due s at = also (read_line due s at) (λ p. lines_from n due s p)

abbrev pub weight_in : Line → ℕ
weight_in (HeaderLine h n) = 0
weight_in (WeightLine w) = w
weight_in (StepLine s) = 0

abbrev pub step_in : Line → Step
step_in (HeaderLine h n) = record { thread = 0; verb = Go }
step_in (WeightLine w) = record { thread = 0; verb = Go }
step_in (StepLine s) = s

-- the weights of a section, and the steps of one
abbrev pub weights_at : List ℕ → Section → List ℕ
weights_at s x = map weight_in (lines_from x.count WeightDue s x.at)

abbrev pub steps_at : List ℕ → Section → List Step
steps_at s x = map step_in (lines_from x.count StepDue s x.at)

unfoldable pub schedule_of : List ℕ → Sections → Schedule
schedule_of s x =
    record {
      threads = x.threads;
      slots = x.slots;
      plain = weights_at s x.plain;
      flag = weights_at s x.flag;
      steps = steps_at s x.steps;
    }

-- the paper's number: 1 to 4, or none for a text that is taken
abbrev pub judged_number : Result Sections Refusal → ℕ
judged_number (Ok x) = 0
judged_number (Err r) = number_of r

-- what the reader makes of a text: a schedule, or a refusal
pub data Outcome : Type 0 where
  schedule : Schedule → Outcome
  refusal : Refusal → Outcome

abbrev pub outcome : List ℕ → Result Sections Refusal → Outcome
outcome s (Ok x) = schedule (schedule_of s x)
outcome s (Err r) = refusal r

unfoldable pub reads : List ℕ → Outcome
reads s = outcome s (judged s)
