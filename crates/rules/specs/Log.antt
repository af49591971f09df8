-- A run from a fresh machine and its log: lines, answers and views, and what is read off them. Assumes nothing.
use Rattle.std.specs.Prelude.{◌≡◌, cond, List, [], ◌∷◌, ◌++◌, ℕ, ◌+◌, ◌-◌, eqb, length}
use Rattle.std.proofs.Math.Option.{Option, none, some}
use Rattle.rules.specs.Step.{Outcome, step_of}
use Rattle.opening.specs.Opening.{opened_of}
use Rattle.state.specs.State.{row}
use Rattle.state.specs.declared.Machine.{Machine}
use Rattle.step.specs.declared.Answer.{Answer}
use Rattle.step.specs.declared.Answer.TheVariants.{Dash, Ok, Value, Yes, No, None, Got, Refused}
use Rattle.step.specs.declared.Step.{Step}
use Rattle.step.specs.declared.Verb.{Verb}
use Rattle.step.specs.declared.Verb.TheVariants.{Get, Set, Load, Store, Swap, Put, Take, Go, GoAt}
use Rattle.view.specs.declared.View.{View}
use Rattle.writes.specs.declared.Write.{Write}

-- What is seen of a step: what was asked, what was answered, the thread's view after it.
pub record Entry : Type 0 where
  pub step : Step
  pub answer : Answer
  pub view : View

-- A point of a run: the state, the list of writes, and the log so far, the newest entry first.
pub record Point : Type 0 where
  pub machine : Machine
  pub writes : List Write
  pub log : List Entry

-- the thread of a step, from 0; a line of thread 0, which is never taken, falls together with those of thread 1
abbrev pub thread_of : Step → ℕ
thread_of s = s.thread - 1

unfoldable pub entry_of : Step → Outcome → Entry
entry_of s o = record { step = s; answer = o.done.answer; view = row o.done.machine (thread_of s) }

-- the point after a step, taken or refused
unfoldable pub next : Point → Step → Point
next p s =
    let o = step_of p.machine p.writes s in
    record { machine = o.done.machine; writes = o.writes; log = entry_of s o ∷ p.log }

unfoldable pub through : Point → List Step → Point
through p [] = p
through p (s ∷ ss) = through (next p s) ss

unfoldable pub start : Machine → List Write → Point
start m ws = record { machine = m; writes = ws; log = [] }

-- "From a fresh machine, over any steps, refused ones included, nobody else touching state or writes": at every point reached, with the
-- numbers of plain cells and slots that were opened.
abbrev pub Throughout : (ℕ → ℕ → Point → Type 0) → Type 0
Throughout P =
    (t c : ℕ) (plain flags : List ℕ) (ws : List Write) (ss : List Step) → (opened_of t c plain flags).answer ≡ Ok
    → P (length plain) c (through (start (opened_of t c plain flags).machine ws) ss)

-- The call that a thread is in, by its own lines: none, a put of a weight, or a take; with the steps it has had and its rank, 0 before its third.
pub data Call : Type 0 where
  no_call : Call
  putting : ℕ → ℕ → ℕ → Call
  taking : ℕ → ℕ → Call

-- A won swap: a weight goes in, or one comes out.
pub data Op : Type 0 where
  goes_in : ℕ → Op
  comes_out : Op

-- the weights that went in, by rank, and how many came out; the newest won swap stands first
unfoldable pub ins : List Op → List ℕ
ins [] = []
ins (goes_in w ∷ os) = ins os ++ (w ∷ [])
ins (comes_out ∷ os) = ins os

unfoldable pub outs : List Op → ℕ
outs [] = 0
outs (goes_in w ∷ os) = outs os
outs (comes_out ∷ os) = outs os + 1

-- What is read off a log: each thread's call, the won swaps, and by rank the putter's view after its `yes`.
pub record Seen : Type 0 where
  pub calls : ℕ → Call
  pub ops : List Op
  pub published : ℕ → Option View

-- f with x at k
unfoldable pub with : {A : Type 0} → (ℕ → A) → ℕ → A → ℕ → A
with f k x j = cond (eqb j k) x (f j)

-- a call begins with its `put w` or `take`
abbrev pub begun : Verb → Call
begun (Put w) = putting w 0 0
begun Take = taking 0 0
begun (Get c t) = no_call
begun (Set c x t) = no_call
begun (Load f) = no_call
begun (Store f x) = no_call
begun (Swap f old new) = no_call
begun Go = no_call
begun (GoAt t) = no_call

-- the call that a line is of: the one that its thread is in, or else the one that it begins
abbrev pub under : Call → Verb → Call
under no_call v = begun v
under (putting w k r) v = putting w k r
under (taking k r) v = taking k r

-- A step that does not end its call answers "-": the call has had one more. Its third, so answered, is the won swap, and has the next rank.
abbrev pub onward : List Op → Call → Call
onward os no_call = no_call
onward os (putting w k r) = putting w (k + 1) (cond (eqb k 2) (length (ins os)) r)
onward os (taking k r) = taking (k + 1) (cond (eqb k 2) (outs os) r)

abbrev pub with_swap : Call → List Op → List Op
with_swap no_call os = os
with_swap (putting w k r) os = cond (eqb k 2) (goes_in w ∷ os) os
with_swap (taking k r) os = cond (eqb k 2) (comes_out ∷ os) os

-- a put is answered yes: its view by its rank
abbrev pub told_by : Call → View → (ℕ → Option View) → ℕ → Option View
told_by no_call v f = f
told_by (putting w k r) v f = with f r (some v)
told_by (taking k r) v f = f

-- thread i is in no call any more
abbrev pub over : ℕ → Seen → Seen
over i n = record { calls = with n.calls i no_call; ops = n.ops; published = n.published }

-- a line of thread i, of call c, by its answer: a refusal is ignored, and any but "-" ends the call
abbrev pub heard : ℕ → View → Call → Answer → Seen → Seen
heard i v c (Refused k) n = n
heard i v c Dash n = record { calls = with n.calls i (onward n.ops c); ops = with_swap c n.ops; published = n.published }
heard i v c Yes n = record { calls = with n.calls i no_call; ops = n.ops; published = told_by c v n.published }
heard i v c Ok n = over i n
heard i v c (Value x) n = over i n
heard i v c No n = over i n
heard i v c None n = over i n
heard i v c (Got w) n = over i n

-- the call of an entry, after what was seen before it
abbrev pub call_in : Seen → Step → Call
call_in n s = under (n.calls (thread_of s)) s.verb

unfoldable pub seen : List Entry → Seen
seen [] = record { calls = λ i. no_call; ops = []; published = λ k. none }
seen (e ∷ es) = heard (thread_of e.step) e.view (call_in (seen es) e.step) e.answer (seen es)
