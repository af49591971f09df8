-- A text judged: "1, then from the front the first bad line, .. 4 last". "Sections in a fixed order, each after its count".
-- Assumes nothing.
use Rattle.digits.specs.Reading.{◌>>=◌}
use Rattle.std.specs.Prelude.{ℕ, zero, suc, List, [], ◌∷◌, cond, length, ltb, Result, Ok, Err}
use Rattle.form.specs.declared.Header.{Header}
use Rattle.form.specs.declared.Header.TheVariants.{Shape, Threads, Slots, Plain, Flag, Steps}
use Rattle.form.specs.declared.Due.{Due}
use Rattle.form.specs.declared.Due.TheVariants.{HeaderDue, WeightDue, StepDue}
use Rattle.form.specs.declared.Line.{Line}
use Rattle.form.specs.declared.Line.TheVariants.{HeaderLine, WeightLine, StepLine}
use Rattle.line.specs.Row.{read_line}
use Rattle.fault.specs.declared.Refusal.{Refusal}
use Rattle.fault.specs.declared.Refusal.TheVariants.{TooLong, Extra}
use Rattle.schedule.specs.declared.Section.{Section}
use Rattle.schedule.specs.declared.Sections.{Sections}

-- the count that a header line gives
abbrev pub count_in : Line → ℕ
count_in (HeaderLine h n) = n
count_in (WeightLine w) = 0
count_in (StepLine s) = 0

-- so many lines from a place on, one after the other: the place after them
unfoldable pub lines_past : ℕ → Due → List ℕ → ℕ → Result ℕ Refusal
lines_past zero due s at = Ok at
lines_past (suc n) due s at = do
  x ← read_line due s at
  lines_past n due s x.next

-- how many lines a header line with a count has under it, and what each of them is
abbrev pub lines_under : Header → ℕ → ℕ
lines_under Shape n = 0
lines_under Threads n = 0
lines_under Slots n = 0
lines_under Plain n = n
lines_under Flag n = n
lines_under Steps n = n

abbrev pub line_due : Header → Due
line_due Shape = WeightDue
line_due Threads = WeightDue
line_due Slots = WeightDue
line_due Plain = WeightDue
line_due Flag = WeightDue
line_due Steps = StepDue

-- what is found, and what a header line adds to it: its count, and where the lines under it begin
abbrev pub section : ℕ → ℕ → Section
section n at = record { count = n; at = at }

abbrev pub nothing_found : Sections
nothing_found = record { threads = 0; slots = 0; plain = section 0 0; flag = section 0 0; steps = section 0 0 }

abbrev pub noted : Header → ℕ → ℕ → Sections → Sections
noted Shape n at f = f
noted Threads n at f = record { threads = n; slots = f.slots; plain = f.plain; flag = f.flag; steps = f.steps }
noted Slots n at f = record { threads = f.threads; slots = n; plain = f.plain; flag = f.flag; steps = f.steps }
noted Plain n at f = record { threads = f.threads; slots = f.slots; plain = section n at; flag = f.flag; steps = f.steps }
noted Flag n at f = record { threads = f.threads; slots = f.slots; plain = f.plain; flag = section n at; steps = f.steps }
noted Steps n at f = record { threads = f.threads; slots = f.slots; plain = f.plain; flag = f.flag; steps = section n at }

-- header lines from a place on, in a fixed order, and under each its lines, "each after its count"; 4: "bytes after the last section"
unfoldable pub through : List Header → List ℕ → ℕ → Sections → Result Sections Refusal
through [] s at found = cond (ltb at (length s)) (Err (Extra at)) (Ok found)
through (h ∷ hs) s at found = do
  x ← read_line (HeaderDue h) s at
  let n = count_in x.value
  p ← lines_past (lines_under h n) (line_due h) s x.next
  through hs s p (noted h n x.next found)

-- "`shape 2`, then `threads T` and `slots C`"; "`plain N`, then N lines, each a weight"; "`flag N`, then N lines, each a weight";
-- "`steps N`, then N lines: thread, verb, operands"
abbrev pub headers : List Header
headers = Shape ∷ Threads ∷ Slots ∷ Plain ∷ Flag ∷ Steps ∷ []

unfoldable pub sections : List ℕ → Result Sections Refusal
sections s = through headers s 0 nothing_found

-- 1: "text longer than 65,536 bytes"
unfoldable pub judged : List ℕ → Result Sections Refusal
judged s = cond (ltb 65536 (length s)) (Err TooLong) (sections s)
