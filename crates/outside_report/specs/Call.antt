-- What one call leaves in what it is lent, and what it returns. Assumes nothing.
use Rattle.std.specs.Prelude.{List, ℕ, Option, Some, None, unwrap_or}
use Rattle.number.specs.Buffer.{placed, put_at}
use Rattle.printed.specs.Printed.{Page, page, printed_text, put_lines}
use Rattle.reported.specs.Report.{reported}

-- the paper's number: 15 where the room was too short, else the one given
abbrev pub number_or : Option ℕ → ℕ → ℕ
number_or (Some p) n = n
number_or None n = 15

pub record Lent : Type 0 where
  pub number : ℕ
  pub first : List ℕ
  pub stop : ℕ
  pub rest : List ℕ
  pub upto : ℕ

abbrev pub lent : ℕ → List ℕ → ℕ → List ℕ → ℕ → Lent
lent n a i b j = record { number = n; first = a; stop = i; rest = b; upto = j }

-- The first line is put into one buffer and the others into another, line by line up to one that has no room; of each buffer, how many
-- bytes were put, 0 where it was too short.
abbrev pub left_by : Option ℕ → List ℕ → Page → Lent
left_by w a p = lent (number_or w (number_or p.upto 0)) a (unwrap_or w 0) p.buffer (unwrap_or p.upto 0)

unfoldable pub called : List ℕ → List ℕ → List ℕ → Lent
called s a b =
    let x = reported s in
    left_by (put_at a 0 (printed_text x.first)) (placed a 0 (printed_text x.first)) (put_lines (page (Some 0) b) x.rest)
