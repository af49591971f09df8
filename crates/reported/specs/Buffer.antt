-- A report in a lent buffer. Assumes nothing.
use Rattle.std.specs.Prelude.{ℕ, ◌≡◌, List, Some}
use Rattle.printed.specs.Printed.{page, put_lines}
use Rattle.reported.specs.Report.{Lines}
use Rattle.reported.specs.declared.Reported.{Reported}

-- the first line is handed back; the others are put into the buffer from its first byte on
pub record Reports (x : Lines) (before : List ℕ) (r : Reported) (after : List ℕ) : Type 0 where
  pub first : r.first ≡ x.first
  pub rest : page r.upto after ≡ put_lines (page (Some 0) before) x.rest
