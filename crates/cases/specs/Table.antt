-- The starred cases, "Both sides of each edge", and the whole listing, as one table under one statement. Assumes nothing.
use Rattle.std.specs.Prelude.{ℕ, ◌≡◌, List, [], ◌∷◌, ◌++◌, map}
use Prim.Native.String.{String}
use Rattle.std.proofs.Math.Option.{some}
use Rattle.cases.specs.Question.{Question, weight_line, whole_text, run, report, Reply, taken, refused, ends, prints, reply}
use Rattle.number.specs.Bytes.{bytes}
use Rattle.step.specs.declared.Answer.{Answer}
use Rattle.step.specs.declared.Answer.TheVariants.{Dash, Ok, Value, Yes, No, Got, Refused}
use Rattle.step.specs.declared.Step.{Step}
use Rattle.step.specs.declared.Verb.{Verb}
use Rattle.step.specs.declared.Verb.TheVariants.{Get, Set, Put, Take, Go, GoAt}

-- a question and its reply
pub record Row : Type 0 where
  pub asked : Question
  pub replied : Reply

infix 70 ◌gives◌
abbrev pub ◌gives◌ : Question → Reply → Row
q gives r = record { asked = q; replied = r }

-- "every line ends with one LF"
abbrev pub line : String → List ℕ
line t = bytes t ++ (10 ∷ [])

abbrev pub lines : List String → List ℕ
lines [] = []
lines (t ∷ ts) = line t ++ lines ts

-- a step of a thread and its answer; weights and stamps are thousandths
pub record Answered : Type 0 where
  pub step : Step
  pub answer : Answer

abbrev pub by : ℕ → Verb → Answer → Answered
by i v a = record { step = record { thread = i; verb = v }; answer = a }

-- a machine that is opened, the steps that it is given with their answers, and what it comes to
pub record Played : Type 0 where
  pub threads : ℕ
  pub slots : ℕ
  pub plain : List ℕ
  pub steps : List Answered
  pub tail : ℕ
  pub head : ℕ
  pub queue : List Answer
  pub inside : List ℕ
  pub handed : List ℕ

abbrev pub played : Played → Row
played p =
    run p.threads p.slots p.plain (map (λ (x : Answered). x.step) p.steps)
    gives ends record {
      answers = map (λ (x : Answered). x.answer) p.steps;
      tail = p.tail;
      head = p.head;
      queue = p.queue;
      line = some (record { inside = p.inside; handed = p.handed });
    }

-- Cell 1: thread 1 sets at 2.000, thread 2 then sets at 1.000: both taken. Thread 1 gets at 1.000: 12. Thread 2 gets at 2.000, then at
-- 1.000: both taken. Thread 2 sets at 2.000: 13; thread 2 sets at 1.000 again: 12. (12 is `Outdated`, 13 is `Amiss`.)
abbrev pub cell_one : Played
cell_one =
    record {
      threads = 2;
      slots = 1;
      plain = 0 ∷ [];
      steps =
          by 1 (Set 1 5 2000) Ok
          ∷ by 2 (Set 1 6 1000) Ok
          ∷ by 1 (Get 1 1000) (Refused 12)
          ∷ by 2 (Get 1 2000) (Value 5)
          ∷ by 2 (Get 1 1000) (Value 6)
          ∷ by 2 (Set 1 7 2000) (Refused 13)
          ∷ by 2 (Set 1 7 1000) (Refused 12)
          ∷ [];
      tail = 0;
      head = 0;
      queue = [];
      inside = [];
      handed = [];
    }

-- the five steps of a put that is answered yes, stamped 1.000
abbrev pub put_by : ℕ → ℕ → List Answered → List Answered
put_by i w rest = by i (Put w) Dash ∷ by i Go Dash ∷ by i Go Dash ∷ by i (GoAt 1000) Dash ∷ by i Go Yes ∷ rest

-- C = 1, rank 0 published: a second put answers no at its second step.
abbrev pub published : Played
published =
    record {
      threads = 2;
      slots = 1;
      plain = [];
      steps = put_by 1 5000 (by 2 (Put 6000) Dash ∷ by 2 Go No ∷ []);
      tail = 0;
      head = 1;
      queue = Value 5000 ∷ [];
      inside = 5000 ∷ [];
      handed = [];
    }

-- With rank 0's take past its tail swap and short of its fifth step, a put still answers no though head equals tail.
abbrev pub take_inside : Played
take_inside =
    record {
      threads = 2;
      slots = 1;
      plain = [];
      steps =
          put_by 1 5000
          (by 2 Take Dash ∷ by 2 Go Dash ∷ by 2 Go Dash ∷ by 1 (Put 6000) Dash ∷ by 1 Go No
          ∷ by 2 (GoAt 1000) Dash ∷ by 1 (Put 6000) Dash ∷ by 1 Go No
          ∷ []);
      tail = 1;
      head = 1;
      queue = [];
      inside = [];
      handed = 5000 ∷ [];
    }

-- "else rank and `-`": a put between its head swap and its last step is in the queue without a weight
abbrev pub unpublished : Played
unpublished =
    record {
      threads = 1;
      slots = 2;
      plain = [];
      steps = put_by 1 5000 (by 1 (Put 6000) Dash ∷ by 1 Go Dash ∷ by 1 Go Dash ∷ []);
      tail = 0;
      head = 2;
      queue = Value 5000 ∷ Dash ∷ [];
      inside = 5000 ∷ 6000 ∷ [];
      handed = [];
    }

-- the steps of "one whole listing"
abbrev pub listing : Played
listing =
    record {
      threads = 2;
      slots = 1;
      plain = 0 ∷ [];
      steps =
          by 1 (Set 1 70000 1000) Ok
          ∷ put_by 1 12500
          (by 2 Take Dash ∷ by 2 Go Dash ∷ by 2 Go Dash ∷ by 2 (GoAt 1000) Dash ∷ by 2 Go (Got 12500)
          ∷ by 2 (Get 1 1000) (Value 70000) ∷ by 2 (Get 1 0) (Refused 12)
          ∷ []);
      tail = 1;
      head = 1;
      queue = [];
      inside = [];
      handed = 12500 ∷ [];
    }

-- "one whole listing": input and output
abbrev pub input : List String
input =
    "shape 2"
    ∷ "threads 2"
    ∷ "slots 1"
    ∷ "plain 1"
    ∷ "0.000"
    ∷ "flag 0"
    ∷ "steps 13"
    ∷ "1 set 1 70.000 1.000"
    ∷ "1 put 12.500"
    ∷ "1 go"
    ∷ "1 go"
    ∷ "1 go 1.000"
    ∷ "1 go"
    ∷ "2 take"
    ∷ "2 go"
    ∷ "2 go"
    ∷ "2 go 1.000"
    ∷ "2 go"
    ∷ "2 get 1 1.000"
    ∷ "2 get 1 0.000"
    ∷ []

abbrev pub output : List String
output =
    "answers 12"
    ∷ "1 ok"
    ∷ "1 -"
    ∷ "1 -"
    ∷ "1 -"
    ∷ "1 -"
    ∷ "1 yes"
    ∷ "2 -"
    ∷ "2 -"
    ∷ "2 -"
    ∷ "2 -"
    ∷ "2 got 12.500"
    ∷ "2 70.000"
    ∷ "queue 0"
    ∷ "refused 1"
    ∷ "13 12"
    ∷ []

-- a put on its way: its rank shows as `-`, and nothing is refused
abbrev pub way_in : List String
way_in =
    "shape 2"
    ∷ "threads 1"
    ∷ "slots 1"
    ∷ "plain 0"
    ∷ "flag 0"
    ∷ "steps 3"
    ∷ "1 put 5.000"
    ∷ "1 go"
    ∷ "1 go"
    ∷ []

abbrev pub way_out : List String
way_out =
    "answers 3"
    ∷ "1 -"
    ∷ "1 -"
    ∷ "1 -"
    ∷ "queue 1"
    ∷ "0 -"
    ∷ "refused 0"
    ∷ []

unfoldable pub table : List Row
table =
    -- `1.500` is 1500
    weight_line (line "1.500") gives taken 1500
    -- `1,500` is 2
    ∷ weight_line (line "1,500") gives refused 2 0 (bytes "1,500")
    -- `1.50` is 2
    ∷ weight_line (line "1.50") gives refused 2 0 (bytes "1.50")
    -- `1000000.000` is taken
    ∷ weight_line (line "1000000.000") gives taken 1000000000
    -- `1000000.001` is 3
    ∷ weight_line (line "1000000.001") gives refused 3 0 (bytes "1000000.001")
    -- Empty text: 2 at place 0, empty part.
    ∷ whole_text (bytes "") gives refused 2 0 (bytes "")
    ∷ played cell_one
    ∷ played published
    ∷ played take_inside
    ∷ played unpublished
    ∷ played listing
    ∷ report (lines input) gives prints (lines output)
    ∷ report (lines way_in) gives prints (lines way_out)
    -- A text refusal prints only one line.
    ∷ report (bytes "") gives prints (line "text 2 0")
    ∷ []

-- each row's reply is the definitions'
abbrev pub StarredHold : Type 0
StarredHold = map (λ (x : Row). x.asked gives reply x.asked) table ≡ table
