-- What is promised of a call: in buffers of 64 and 131,072 bytes nothing of a report is lost. Assumes nothing.
use Rattle.std.specs.Prelude.{ℕ, ◌≤◌, ◌≡◌, List, ◌++◌, length, take}
use Rattle.reported.specs.Report.{report_text}
use Rattle.outside_report.specs.Call.{Lent, called}

-- all that the program prints stands in both
pub record Prints (s : List ℕ) (l : Lent) : Type 0 where
  pub number : l.number ≡ 0
  pub bytes : take l.stop l.first ++ take l.upto l.rest ≡ report_text s

abbrev pub CallWhole : Type 0
CallWhole = (s a b : List ℕ) → 64 ≤ length a → 131072 ≤ length b → Prints s (called s a b)
