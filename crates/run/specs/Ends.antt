-- A run in a lent buffer. Assumes nothing.
use Rattle.std.specs.Prelude.{ℕ, ◌≡◌, List, map, Some}
use Rattle.printed.specs.Printed.{answer_line, page, put_lines}
use Rattle.printed.specs.declared.Printed.{Printed}
use Rattle.run.specs.Run.{Run, Told}
use Rattle.turn.specs.declared.Ended.{Ended}

abbrev pub told_line : Told → Printed
told_line x = answer_line x.thread x.answer

-- the state, the list and the refusal are handed back; the lines of the answers are put into the buffer from its first byte on
pub record Ends (x : Run) (before : List ℕ) (e : Ended) (after : List ℕ) : Type 0 where
  pub machine : e.machine ≡ x.machine
  pub refused : e.refused ≡ x.refused
  pub answers : page e.upto after ≡ put_lines (page (Some 0) before) (map told_line x.answers)
  pub writes : e.writes ≡ x.writes
