-- Writing a line at a place of a lent buffer. "Writing a line: 3, then 15." Assumes nothing.
use Rattle.std.specs.Prelude.{ℕ, ◌+◌, List, cond, length, Result, Ok, Err}
use Rattle.number.specs.Buffer.{room, placed}
use Rattle.form.specs.Line.{line_in_range}
use Rattle.form.specs.Text.{line_text}
use Rattle.form.specs.declared.Line.{Line}
use Rattle.writer.specs.declared.Unwritten.{Unwritten}
use Rattle.writer.specs.declared.Unwritten.TheVariants.{NotInRange, NoRoom}

-- the answer: its ranges first, then its room
unfoldable pub line_written : List ℕ → ℕ → Line → Result ℕ Unwritten
line_written l at x =
    cond (line_in_range x) (cond (room l at (length (line_text x))) (Ok (at + length (line_text x))) (Err NoRoom)) (Err NotInRange)

-- "A refused line leaves the buffer untouched; a written one changes only its own bytes."
unfoldable pub line_placed : List ℕ → ℕ → Line → List ℕ
line_placed l at x = cond (line_in_range x) (placed l at (line_text x)) l

-- the paper's number: 3 and 15, or none for a line that is written
abbrev pub written_number : Result ℕ Unwritten → ℕ
written_number (Ok p) = 0
written_number (Err NotInRange) = 3
written_number (Err NoRoom) = 15
