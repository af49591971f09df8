-- What is promised of lines and schedules: each has one text, no two share one, the reader takes those texts only, and what it refuses
-- it refuses by a number. Assumes nothing.
use Rattle.std.specs.Prelude.{ℕ, ◌+◌, ◌≤◌, ◌<◌, ◌≡◌, true, List, length, Ok}
use Rattle.number.specs.Bytes.{Stands, Here}
use Rattle.form.specs.Line.{due_of, line_in_range}
use Rattle.form.specs.Text.{line_text}
use Rattle.form.specs.declared.Due.{Due}
use Rattle.form.specs.declared.Line.{Line}
use Rattle.line.specs.Row.{read_line, read_number}
use Rattle.schedule.specs.Sections.{judged}
use Rattle.texts.specs.Schedule.{Schedule, HasText, schedule_text, judged_number, reads, schedule}

-- where a line's text stands, it is read as that line
abbrev pub LineReadBack : Type 0
LineReadBack =
    (x : Line) (s : List ℕ) (at : ℕ) → line_in_range x ≡ true → Stands s at (line_text x)
    → read_line (due_of x) s at ≡ Ok (record { value = x; next = at + length (line_text x) })

-- what is taken as a line is exactly that line's text, and the line was due
pub record TakenLine (due : Due) (s : List ℕ) (at : ℕ) (x : Line) (next : ℕ) : Type 0 where
  pub here : Here s at (line_text x) next
  pub ranged : line_in_range x ≡ true
  pub is_due : due_of x ≡ due

abbrev pub LineOnlyText : Type 0
LineOnlyText =
    (due : Due) (s : List ℕ) (at : ℕ) (x : Line) (next : ℕ) → read_line due s at ≡ Ok (record { value = x; next = next })
    → TakenLine due s at x next

-- no two forms share a text
abbrev pub LineOneText : Type 0
LineOneText = (x y : Line) → line_in_range x ≡ true → line_in_range y ≡ true → line_text x ≡ line_text y → x ≡ y

-- the text of a schedule that has one is read as that schedule
abbrev pub ScheduleReadBack : Type 0
ScheduleReadBack = (x : Schedule) → HasText x → reads (schedule_text x) ≡ schedule x

-- whatever is taken is exactly the text of the schedule that it is read as, and that schedule has a text
abbrev pub ScheduleOnlyText : Type 0
ScheduleOnlyText = (s : List ℕ) (x : Schedule) → reads s ≡ schedule x → (s ≡ schedule_text x) × HasText x

-- a line is read, or refused by 2 or 3
abbrev pub LineNumbered : Type 0
LineNumbered =
    (due : Due) (s : List ℕ) (at : ℕ) → 0 < read_number (read_line due s at)
    → (2 ≤ read_number (read_line due s at)) × (read_number (read_line due s at) ≤ 3)

-- "Every schedule text .. gets an answer or a numbered refusal": it is taken, or refused by 1, 2, 3 or 4, and by 1 exactly where it is
-- longer than 65,536 bytes
abbrev pub JudgedNumbered : Type 0
JudgedNumbered =
    (s : List ℕ)
    → (judged_number (judged s) ≤ 4)
    × (judged_number (judged s) ≡ 1 → 65536 < length s)
    × (65536 < length s → judged_number (judged s) ≡ 1)
