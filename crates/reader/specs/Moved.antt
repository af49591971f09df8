-- What a reader gives of a line that was due where it stood, and where it stands afterwards. Assumes nothing.
use Rattle.std.specs.Prelude.{ℕ, Result, Ok, Err}
use Rattle.digits.specs.declared.Read.{Read}
use Rattle.fault.specs.declared.Refusal.{Refusal}
use Rattle.form.specs.declared.Line.{Line}

-- the line, or why the text is refused
abbrev pub said_of : Result (Read Line) Refusal → Result Line Refusal
said_of (Ok x) = Ok x.value
said_of (Err r) = Err r

-- behind a line that was read; else where it stood
abbrev pub place_after : ℕ → Result (Read Line) Refusal → ℕ
place_after at (Ok x) = x.next
place_after at (Err r) = at
