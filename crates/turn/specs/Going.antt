-- A run on its way through the text of its steps: what is asked next, and what is put into the buffer. Assumes nothing.
use Rattle.std.specs.Prelude.{ℕ, zero, suc, ◌-◌, Bool, true, false, List, [], ◌∷◌, Some, Result, Ok, Err, Option, None}
use Rattle.asking.specs.declared.Asked.{Asked}
use Rattle.form.specs.declared.Due.TheVariants.{StepDue}
use Rattle.form.specs.declared.Line.{Line}
use Rattle.line.specs.Row.{read_line}
use Rattle.digits.specs.declared.Read.{Read}
use Rattle.fault.specs.declared.Refusal.{Refusal}
use Rattle.printed.specs.Printed.{answer_line, placed_next, put_next}
use Rattle.schedule.specs.declared.Section.{Section}
use Rattle.state.specs.declared.Machine.{Machine}
use Rattle.step.specs.declared.Answer.{Answer}
use Rattle.step.specs.declared.Step.{Step}
use Rattle.texts.specs.Schedule.{step_in, steps_at}
use Rattle.turn.specs.declared.Ahead.{Ahead}
use Rattle.turn.specs.declared.Ended.{Ended}
use Rattle.turn.specs.declared.Going.{Going}
use Rattle.writes.specs.declared.Write.{Write}

-- nothing more is asked
abbrev pub nothing_ahead : Section → Ahead
nothing_ahead rest = record { asked = None; rest = rest }

-- the next step, as its line was read
abbrev pub ahead_by : Result (Read Line) Refusal → Section → Bool → Ahead
ahead_by (Ok y) s known =
    record { asked = Some (record { step = step_in y.value; known = known }); rest = record { count = s.count - 1; at = y.next } }
ahead_by (Err r) s known = nothing_ahead s

-- where so many lines are left
abbrev pub ahead_if : ℕ → Result (Read Line) Refusal → Section → Bool → Ahead
ahead_if zero r s known = nothing_ahead s
ahead_if (suc n) r s known = ahead_by r s known

unfoldable pub ahead_of : List ℕ → Section → Bool → Ahead
ahead_of text s known = ahead_if s.count (read_line StepDue text s.at) s known

-- before the first step
abbrev pub begun : List ℕ → Section → Going
begun text s = record { ahead = ahead_of text s false; refused = None; upto = Some 0 }

-- after a step that was asked and was taken or refused by a number: the line of a taken one is put, and the next is asked; a refused one
-- is the last
abbrev pub going_after : Option ℕ → List ℕ → Going → Step → Answer → List ℕ → Going
going_after None text g s a out =
    record { ahead = ahead_of text g.ahead.rest true; refused = None; upto = put_next out g.upto (answer_line s.thread a) }
going_after (Some n) text g s a out = record { ahead = nothing_ahead g.ahead.rest; refused = Some n; upto = g.upto }

-- and the buffer
abbrev pub left_after : Option ℕ → Going → Step → Answer → List ℕ → List ℕ
left_after None g s a out = placed_next out g.upto (answer_line s.thread a)
left_after (Some n) g s a out = out

abbrev pub ended_of : Machine → Going → List Write → Ended
ended_of m g ws = record { machine = m; refused = g.refused; upto = g.upto; writes = ws }

-- the steps that are asked from here on: the next, and those of the lines after it
abbrev pub then_rest : Option Asked → List Step → List Step
then_rest (Some a) ss = a.step ∷ ss
then_rest None ss = []

abbrev pub asks : List ℕ → Ahead → List Step
asks text a = then_rest a.asked (steps_at text a.rest)
