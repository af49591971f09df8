-- What is promised of lines that are written into a lent buffer, a schedule's and a report's. Assumes nothing.
use Rattle.std.specs.Prelude.{ℕ, ◌+◌, ◌≤◌, ◌<◌, ◌≡◌, List, [], ◌∷◌, ◌++◌, map, ◌⊎◌, length, get_or, Option, Ok}
use Rattle.form.specs.Line.{due_of}
use Rattle.form.specs.Text.{line_text}
use Rattle.form.specs.declared.Line.{Line}
use Rattle.line.specs.Row.{read_line}
use Rattle.number.specs.Buffer.{put_number}
use Rattle.printed.specs.Printed.{answer_line, put_next, placed_next}
use Rattle.printed.specs.declared.Field.{Field}
use Rattle.printed.specs.declared.Field.TheVariants.{Says, Counts, Weighs}
use Rattle.printed.specs.declared.Printed.{Printed}
use Rattle.printed.specs.declared.Printed.TheVariants.{Two, Three}
use Rattle.printed.specs.declared.Word.TheVariants as word
use Rattle.step.specs.Answer.{said}
use Rattle.step.specs.declared.Answer.{Answer}
use Rattle.step.specs.declared.Answer.TheVariants as answer
use Rattle.writer.specs.Writer.{line_written, line_placed, written_number}

-- reading what was written gives back the line that was written, up to the place after it
abbrev pub WrittenBack : Type 0
WrittenBack =
    (l : List ℕ) (at : ℕ) (x : Line) (p : ℕ) → line_written l at x ≡ Ok p
    → read_line (due_of x) (line_placed l at x) at ≡ Ok (record { value = x; next = p })

-- "a written one changes only its own bytes"
abbrev pub OnlyItsBytes : Type 0
OnlyItsBytes =
    (l : List ℕ) (at : ℕ) (x : Line)
    → (length (line_placed l at x) ≡ length l)
    × ((k : ℕ) → (k < at) ⊎ (at + length (line_text x) ≤ k) → get_or (line_placed l at x) k 0 ≡ get_or l k 0)

-- "A refused line leaves the buffer untouched"
abbrev pub RefusedUntouched : Type 0
RefusedUntouched = (l : List ℕ) (at : ℕ) (x : Line) → 0 < written_number (line_written l at x) → line_placed l at x ≡ l

-- the same of a printed line: refused by 15, it changes no byte
abbrev pub PrintedUntouched : Type 0
PrintedUntouched = (l : List ℕ) (w : Option ℕ) (x : Printed) → put_number (put_next l w x) ≡ 15 → placed_next l w x ≡ l

abbrev pub fields_of : Printed → List Field
fields_of (Two a b) = a ∷ b ∷ []
fields_of (Three a b c) = a ∷ b ∷ c ∷ []

-- the word of an answer, none where it is a value alone; of a refusal its number
abbrev pub word_of : Answer → List Field
word_of answer.Dash = Says word.Dash ∷ []
word_of answer.Ok = Says word.Ok ∷ []
word_of (answer.Value v) = []
word_of answer.Yes = Says word.Yes ∷ []
word_of answer.No = Says word.No ∷ []
word_of answer.None = Says word.None ∷ []
word_of (answer.Got w) = Says word.Got ∷ []
word_of (answer.Refused k) = Counts (said (answer.Refused k)).number ∷ []

-- an answer is printed as its word and the values that it is said to have, and nothing else, after the thread or rank
abbrev pub SaidPrinted : Type 0
SaidPrinted = (n : ℕ) (a : Answer) → fields_of (answer_line n a) ≡ Counts n ∷ (word_of a ++ map Weighs (said a).values)
