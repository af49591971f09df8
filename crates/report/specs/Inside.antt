-- What was put into a buffer had room there. Assumes nothing.
use Rattle.std.specs.Prelude.{ℕ, ◌≤◌, Option, Some, None}

-- the place after it is inside the buffer's length
abbrev pub Inside : Option ℕ → ℕ → Type 0
Inside (Some p) n = p ≤ n
Inside None n = ⊥
