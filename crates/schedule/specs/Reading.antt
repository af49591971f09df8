-- Lines that were read one after the other, by a reader that stands behind the last. Assumes nothing.
use Rattle.std.specs.Prelude.{ℕ, Result, Ok, Err, ⊤}
use Rattle.fault.specs.declared.Refusal.{Refusal}

-- the place after them, or why the text is refused
abbrev pub passed_to : Result ⊤ Refusal → ℕ → Result ℕ Refusal
passed_to (Ok x) at = Ok at
passed_to (Err r) at = Err r
