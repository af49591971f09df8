-- What is asked of a step and what it is answered, as numbers. Assumes nothing.
use Rattle.std.specs.Prelude.{Bool, List, [], ◌∷◌, ℕ, leb, eqb, length, get_or}
use Rattle.form.specs.Line.{fields_of, verb_of}
use Rattle.form.specs.declared.Line.TheVariants.{StepLine}
use Rattle.laws.specs.Tests.{◌and◌}
use Rattle.step.specs.declared.Answer.{Answer}
use Rattle.step.specs.declared.Answer.TheVariants.{Dash, Ok, Value, Yes, No, None, Got, Refused}
use Rattle.step.specs.declared.Step.{Step}
use Rattle.step.specs.declared.Verb.TheVariants.{Go}

-- A step is asked as thread, row of the table of line forms and three operands.
unfoldable pub step_asked : List ℕ → Step
step_asked s = record { thread = get_or s 0 0; verb = verb_of (get_or s 1 0) (get_or s 2 0) (get_or s 3 0) (get_or s 4 0) }

-- Numbers that ask a step: five or more, the row and the operands as the table has them for that step, 0 for one that its row lacks.
unfoldable pub is_asked : List ℕ → Bool
is_asked s =
    let f = fields_of (StepLine (step_asked s)) in
    leb 5 (length s) and ((eqb (get_or s 1 0) f.form and eqb (get_or s 2 0) f.a) and (eqb (get_or s 3 0) f.b and eqb (get_or s 4 0) f.c))

-- A step of thread 0, which no state takes: what a refused call asks of the machine.
abbrev pub no_step : Step
no_step = record { thread = 0; verb = Go }

-- An answer is its kind and its number: the value, the weight or the refusal's number, else 0. A refusal's words are never written, since
-- a refused call writes nothing.
abbrev pub answer_words : Answer → List ℕ
answer_words Dash = 0 ∷ 0 ∷ []
answer_words Ok = 1 ∷ 0 ∷ []
answer_words (Value v) = 2 ∷ v ∷ []
answer_words Yes = 3 ∷ 0 ∷ []
answer_words No = 4 ∷ 0 ∷ []
answer_words None = 5 ∷ 0 ∷ []
answer_words (Got w) = 6 ∷ w ∷ []
answer_words (Refused n) = 7 ∷ n ∷ []
