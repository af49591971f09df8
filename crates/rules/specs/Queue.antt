-- Demand 3, sentence by sentence, over the log of a run: 1 the plain list, 2 head and tail, 3 ranks, 4 views, 5 stamps. Assumes nothing.
use Rattle.std.specs.Prelude.{◌≡◌, cond, List, [], ◌∷◌, ◌++◌, ℕ, ◌+◌, ◌-◌, ◌<◌, ◌≤◌, eqb, ltb, length}
use Rattle.std.proofs.Math.Option.{Option, none, some, bind}
use Rattle.std.proofs.Math.ListN.{get_elem?}
use Rattle.rules.specs.Kept.{number_given}
use Rattle.rules.specs.Log.{Entry, Point, Throughout, Call, Op, Seen, thread_of, no_call, putting, taking, goes_in, comes_out, ins, outs, call_in, seen}
use Rattle.rules.specs.Step.{content_of}
use Rattle.rank.specs.Rank.{slot_of}
use Rattle.state.specs.State.{row}
use Rattle.state.specs.declared.Machine.{Machine}
use Rattle.step.specs.Answer.{number_of}
use Rattle.step.specs.declared.Answer.{Answer}
use Rattle.step.specs.declared.Answer.TheVariants.{Dash, Ok, Value, Yes, No, None, Got, Refused}
use Rattle.step.specs.declared.LineKind.{LineKind}
use Rattle.step.specs.declared.LineKind.TheVariants.{Begins, Goes, GoesAt}
use Rattle.step.specs.Reason.{number}
use Rattle.step.specs.declared.Reason.{Reason}
use Rattle.step.specs.declared.Step.{Step}
use Rattle.step.specs.declared.Verb.TheVariants.{GoAt}
use Rattle.verbs.specs.Verbs.{asks}
use Rattle.view.specs.View.{stamp_of}
use Rattle.view.specs.declared.View.{View}
use Rattle.writes.specs.declared.Write.{Write}

-- 1. "a plain first-in first-out list of at most C weights": what is inside, and what it has handed out.
pub record Line : Type 0 where
  pub inside : List ℕ
  pub handed : List ℕ

-- a weight joins at the end, where there is room; the first is handed out, where there is one
abbrev pub joins : ℕ → ℕ → List ℕ → List ℕ → Option Line
joins c w inside handed = cond (ltb (length inside) c) (some (record { inside = inside ++ (w ∷ []); handed = handed })) none

abbrev pub leaves : List ℕ → List ℕ → Option Line
leaves [] handed = none
leaves (w ∷ ws) handed = some (record { inside = ws; handed = handed ++ (w ∷ []) })

-- the plain list after the won swaps, or nothing where it would overflow or is empty
unfoldable pub plain : ℕ → List Op → Option Line
plain c [] = some (record { inside = []; handed = [] })
plain c (goes_in w ∷ os) = bind (plain c os) (λ l. joins c w l.inside l.handed)
plain c (comes_out ∷ os) = bind (plain c os) (λ l. leaves l.inside l.handed)

-- a view covers another, and one that is noted, of k cells
abbrev pub Covers : ℕ → View → View → Type 0
Covers k v u = (j : ℕ) → j < k → stamp_of u j ≤ stamp_of v j

abbrev pub CoversNoted : ℕ → Option View → View → Type 0
CoversNoted k none v = ⊥
CoversNoted k (some u) v = Covers k v u

-- What is promised of a take that is answered a weight, of C slots and m cells: what was seen before, its view after, its steps before, its rank.
pub record Gets (c m : ℕ) (n : Seen) (v : View) (k r w : ℕ) : Type 0 where
  -- 1. It has won, and the weight is what the plain list handed out at its own out.
  pub won : 3 ≤ k
  pub handed : bind (plain c n.ops) (λ l. get_elem? l.handed r) ≡ some w
  -- 3. "a take that ends answers the weight put at its rank": that of the `put` line.
  pub as_put : get_elem? (ins n.ops) r ≡ some w
  -- 4. "That thread's view then covers, cell by cell, the putter's view when it published": its view after its `yes`.
  pub covers : CoversNoted m (n.published r) v

-- 1. "the won calls' answers are those of" that list, "a call answered no or none leaves that list as it was": what a call that
-- has had k steps may be answered, and nothing else; one that has had three has won. Outside a call, an access.
pub data Says (c m : ℕ) (n : Seen) (v : View) : Call → Answer → Type 0 where
  refused : {q : Call} (r : Reason) → 0 < number r → Says c m n v q (Refused (number r))
  access_ok : Says c m n v no_call Ok
  access_value : {x : ℕ} → Says c m n v no_call (Value x)
  access_yes : Says c m n v no_call Yes
  access_no : Says c m n v no_call No
  put_goes_on : {w k r : ℕ} → k < 4 → Says c m n v (putting w k r) Dash
  put_yes : {w k r : ℕ} → 3 ≤ k → Says c m n v (putting w k r) Yes
  put_no : {w k r : ℕ} → k < 3 → Says c m n v (putting w k r) No
  take_goes_on : {k r : ℕ} → k < 4 → Says c m n v (taking k r) Dash
  take_got : {k r w : ℕ} → Gets c m n v k r w → Says c m n v (taking k r) (Got w)
  take_none : {k r : ℕ} → k < 3 → Says c m n v (taking k r) None

-- the kind of line that is due: inside a call a `go`, with a stamp at its fourth step; outside, one that begins a call or is an access
abbrev pub due : Call → LineKind
due no_call = Begins
due (putting w k r) = cond (eqb k 3) GoesAt Goes
due (taking k r) = cond (eqb k 3) GoesAt Goes

-- 1, 3, 4. What is promised of an entry, by the log before it. A taken line is due: so each call ends once, and after that a `go` is refused.
pub record Right (c m : ℕ) (e : Entry) (es : List Entry) : Type 0 where
  pub says : Says c m (seen es) e.view (call_in (seen es) e.step) e.answer
  pub by_thread : number_of e.answer ≡ 0 → 0 < e.step.thread
  pub in_turn : number_of e.answer ≡ 0 → asks e.step.verb ≡ due ((seen es).calls (thread_of e.step))

-- each entry of a log
unfoldable pub Each : (Entry → List Entry → Type 0) → List Entry → Type 0
Each P [] = Unit {0}
Each P (e ∷ es) = P e es × Each P es

abbrev pub go_at : ℕ → ℕ → Step
go_at i t = record { thread = i; verb = GoAt t }

-- what a report shows of a rank: its weight, once its putter has its `yes`
abbrev pub showing : Option View → ℕ → Answer
showing none w = Dash
showing (some u) w = Value w

-- Demand 3 of a machine that was opened with b plain cells and c slots: its head and tail, its list of writes, the log, and what is read off it.
pub record Ordered (m : Machine) (b c h t : ℕ) (ws : List Write) (es : List Entry) (n : Seen) : Type 0 where
  -- 1. "Let each put count at its head swap, each take at its tail swap": that list never overflows, and nothing is taken from it empty.
  pub line : Line
  pub plain_list : plain c n.ops ≡ some line
  pub right : Each (Right c (b + c)) es
  -- 2. "Tail never passes head, nor head tail plus C."
  pub low : t ≤ h
  pub high : h ≤ t + c
  -- 3. "Each rank is taken at most once": a won swap has the next rank of its kind, and head and tail are their numbers.
  pub puts : h ≡ length (ins n.ops)
  pub takes : t ≡ outs n.ops
  -- So the report's queue is that list: its weights stand at the ranks from tail to head less one, or "-" exactly while a putter has no `yes`.
  pub reaches : h ≡ t + length line.inside
  pub contents : (j w : ℕ) → get_elem? line.inside j ≡ some w → content_of m ws (t + j) ≡ showing (n.published (t + j)) w
  -- 4. A take's view covers the putter's already from its won swap on.
  pub covering : (i k r : ℕ) → n.calls i ≡ taking k r → 3 ≤ k → CoversNoted (b + c) (n.published r) (row m i)
  -- 5. "While a take waits to read its slot, at most one stamp is accepted": its own view's of that slot, and that is, steps allowing.
  pub one_stamp : (i r a : ℕ) → n.calls (i - 1) ≡ taking 3 r → number_given m ws (go_at i a) ≡ 0
      → a ≡ stamp_of (row m (i - 1)) (b + slot_of c r)
  pub own_stamp : (i r : ℕ) → n.calls (i - 1) ≡ taking 3 r → 0 < i → m.steps < 4096
      → number_given m ws (go_at i (stamp_of (row m (i - 1)) (b + slot_of c r))) ≡ 0

abbrev pub Queue : ℕ → ℕ → Point → Type 0
Queue b c p =
    let m = p.machine in
    Ordered m b c m.head.value m.tail.value p.writes p.log (seen p.log)

abbrev pub QueueHolds : Type 0
QueueHolds = Throughout Queue
