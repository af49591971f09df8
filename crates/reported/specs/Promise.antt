-- What is promised of reports: in a buffer of 131,072 bytes nothing of one is lost. Assumes nothing.
use Rattle.std.specs.Prelude.{ℕ, ◌≤◌, ◌≡◌, List, ◌++◌, length, take, Some}
use Rattle.std.proofs.lemmas.List.Edits.{sets}
use Rattle.printed.specs.Printed.{lines_text, printed_text}
use Rattle.reported.specs.Buffer.{Reports}
use Rattle.reported.specs.Report.{reported, report_text}
use Rattle.reported.specs.declared.Reported.{Reported}

-- the text of the lines after the first
abbrev pub rest_text : List ℕ → List ℕ
rest_text s = lines_text (reported s).rest

-- the report of any text: its first line has at most 64 bytes, the others together at most 131,072
abbrev pub ReportShort : Type 0
ReportShort = (s : List ℕ) → (length (printed_text (reported s).first) ≤ 64) × (length (rest_text s) ≤ 131072)

-- so in a buffer of 131,072 bytes or more the other lines are put whole: the place after them, the buffer, and that the first line and
-- the buffer up to that place are all that is to be printed
abbrev pub ReportWhole : Type 0
ReportWhole =
    (s before after : List ℕ) (r : Reported) → Reports (reported s) before r after → 131072 ≤ length before
    → (r.upto ≡ Some (length (rest_text s)))
    × (after ≡ sets before 0 (rest_text s))
    × (printed_text r.first ++ take (length (rest_text s)) after ≡ report_text s)
