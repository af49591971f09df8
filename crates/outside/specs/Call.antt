-- One call: the number that it returns, and what it leaves in what it is lent. Assumes nothing.
use Rattle.std.specs.Prelude.{not, List, ℕ, zero, suc, ltb, length, Option, Some, None}
use Rattle.image.specs.Image.{words_of, machine_of, is_image}
use Rattle.number.specs.Buffer.{placed}
use Rattle.outside.specs.Asked.{step_asked, is_asked, no_step, answer_words}
use Rattle.outside.specs.declared.CallRefusal.{CallRefusal}
use Rattle.outside.specs.declared.CallRefusal.TheVariants.{NoStep, NoImage, NoRoom}
use Rattle.refusal.specs.Refusal.{refuse}
use Rattle.rules.specs.Step.{Outcome, step_of}
use Rattle.step.specs.Answer.{number_of}
use Rattle.step.specs.declared.Step.{Step}
use Rattle.writes.specs.declared.Write.{Write}

pub record Lent : Type 0 where
  -- 0 where the step is taken, else what the call is refused by
  pub number : ℕ
  pub state : List ℕ
  pub writes : List Write
  pub answer : List ℕ

abbrev pub lent : ℕ → List ℕ → List Write → List ℕ → Lent
lent n s ws a = record { number = n; state = s; writes = ws; answer = a }

-- the paper's number of each reason for which a call is refused before its step
abbrev pub call_number : CallRefusal → ℕ
call_number NoStep = 2
call_number NoImage = 14
call_number NoRoom = 15

-- Before the step: 15 where the answer has no room for two words, 2 where no step is asked, 14 where the state is no image; else none.
unfoldable pub refused_call : List ℕ → List ℕ → ℕ → Option CallRefusal
refused_call s asked room =
    refuse (ltb room 2) NoRoom
    (refuse (not (is_asked asked)) NoStep
    (refuse (not (is_image s)) NoImage None))

-- what is asked of the machine: a refused call asks no step
abbrev pub step_for : Option CallRefusal → List ℕ → Step
step_for None asked = step_asked asked
step_for (Some r) asked = no_step

-- the number of a call: its own refusal's, else that of its step
abbrev pub number_called : Option CallRefusal → ℕ → ℕ
number_called None n = n
number_called (Some r) n = call_number r

-- What is new where the number is 0, else what came.
abbrev pub left : {A : Type 0} → ℕ → A → A → A
left zero new came = new
left (suc n) new came = came

-- A call with the number n, whose step has the outcome o.
abbrev pub left_by : ℕ → Outcome → List ℕ → List Write → List ℕ → Lent
left_by n o s ws a =
    lent n
    (left n (placed s 0 (words_of o.done.machine)) s)
    (left n o.writes ws)
    (left n (placed a 0 (answer_words o.done.answer)) a)

-- One step of the machine that the image says, over the lent list of writes.
abbrev pub step_called : List ℕ → List Write → List ℕ → Outcome
step_called s ws asked = step_of (machine_of s) ws (step_asked asked)

unfoldable pub called : List ℕ → List Write → List ℕ → List ℕ → Lent
called s ws asked a =
    left_by (number_called (refused_call s asked (length a)) (number_of (step_called s ws asked).done.answer)) (step_called s ws asked) s
    ws a
