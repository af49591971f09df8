-- The number that a step was refused by, by its answer. Assumes nothing.
use Rattle.std.specs.Prelude.{ℕ, zero, suc, Option, Some, None}
use Rattle.step.specs.Answer.{number_of}
use Rattle.step.specs.declared.Answer.{Answer}

-- 0 is no refusal's
abbrev pub if_any : ℕ → Option ℕ
if_any zero = None
if_any (suc n) = Some (suc n)

abbrev pub refused_in : Answer → Option ℕ
refused_in a = if_any (number_of a)

-- and of a refusal, if there is one: 0 where nothing is refused
abbrev pub number_in : Option ℕ → ℕ
number_in None = 0
number_in (Some n) = n
