-- A run on its way, one step at a time: what is left of it comes to the whole. Assumes nothing.
use Prim.Native.Nat.{◌<◌, ℕ}
use lib.ListN.{length}
use mathlib.Core.Bool.{Bool, true, false, false≢true}
use mathlib.Core.List.{List, map}
use mathlib.Core.Path.{◌∙◌, ◌≡◌, ap, refl, sym}
use native.Mathlib.Omega.{arith}
use Rattle.std.specs.Prelude.{Option, Some, None}
use Rattle.decision.proofs.Known.{as_known}
use Rattle.decision.specs.Known.{step_by}
use Rattle.printed.specs.Printed.{Page, page, placed_next, put_lines, put_next, answer_line}
use Rattle.asking.specs.declared.Asked.{Asked}
use Rattle.refusal.proofs.Passed.{passed}
use Rattle.rules.proofs.Kept.{standing_kept}
use Rattle.rules.proofs.Refused.{no_refusal, refused_keeps}
use Rattle.rules.specs.Step.{Outcome, outcome, step_of, refusal_of}
use Rattle.rules.specs.declared.Done.{Done}
use Rattle.schedule.specs.declared.Section.{Section}
use Rattle.standing.specs.Stands.{stands}
use Rattle.state.specs.declared.Machine.{Machine}
use Rattle.step.proofs.Answered.{by_refusal, refusal_above}
use Rattle.step.specs.Answer.{number_of}
use Rattle.step.specs.Refused.{refused_in, number_in}
use Rattle.step.specs.declared.Answer.{Answer}
use Rattle.step.specs.declared.Step.{Step}
use Rattle.texts.specs.Schedule.{steps_at}
use Rattle.turn.proofs.Steps.{asks_ahead, known_ahead}
use Rattle.turn.specs.Going.{asks, ahead_of, begun, ended_of, going_after, left_after}
use Rattle.turn.specs.declared.Going.{Going}
use Rattle.writes.specs.declared.Write.{Write}
use Rattle.run.specs.Ends.{Ends, told_line}
use Rattle.run.specs.Run.{Run, Told, ran, stops, tells}

-- what is left of a run on its way: the steps ahead, or nothing after the last
abbrev pub left_if : Option Asked → Run → Run → Run
left_if (Some a) x y = x
left_if None x y = y

abbrev pub left_of : List ℕ → Machine → Going → List Write → Run
left_of text m g ws = left_if g.ahead.asked (ran m ws (asks text g.ahead)) (stops m ws g.refused)

-- a run that is left, with a buffer filled so far, comes to a whole run from the buffer's first byte on
pub record Comes (y : Run) (b : Page) (x : Run) (before : List ℕ) : Type 0 where
  machine : y.machine ≡ x.machine
  refused : y.refused ≡ x.refused
  answers : put_lines b (map told_line y.answers) ≡ put_lines (page (Some 0) before) (map told_line x.answers)
  writes : y.writes ≡ x.writes

-- on its way: what is left comes to the whole, and what is said to stand does
pub record Way (text : List ℕ) (m : Machine) (g : Going) (ws : List Write) (out : List ℕ) (x : Run) (before : List ℕ) : Type 0 where
  comes : Comes (left_of text m g ws) (page g.upto out) x before
  stood : (a : Asked) → g.ahead.asked ≡ Some a → a.known ≡ true → stands m ws ≡ true

-- one answer more is told
told : {t : Told} {y x : Run} {u : Option ℕ} {out before : List ℕ} → Comes (tells t y) (page u out) x before
    → Comes y (page (put_next out u (told_line t)) (placed_next out u (told_line t))) x before
unfolding put_lines
told o = record { machine = o.machine; refused = o.refused; answers = o.answers; writes = o.writes }

-- where nothing was refused, what is left are the steps ahead
left_asked : (text : List ℕ) (m : Machine) (g : Going) (ws : List Write) (b : Option Asked) → g.ahead.asked ≡ b → g.refused ≡ None
    → left_of text m g ws ≡ ran m ws (asks text g.ahead)
unfolding ran
left_asked text m g ws (Some a) e f = rw e
left_asked text m g ws None e f = rw (e, f)

-- the steps of a section are left
left_section : (text : List ℕ) (m : Machine) (g : Going) (ws : List Write) (s : Section) (known : Bool) → g.ahead ≡ ahead_of text s known
    → g.refused ≡ None → left_of text m g ws ≡ ran m ws (steps_at text s)
left_section text m g ws s known e f =
    left_asked text m g ws g.ahead.asked refl f ∙ ap (ran m ws) (rw e (asks_ahead text s known))

-- where nothing is ahead, none
left_none : (text : List ℕ) (m : Machine) (g : Going) (ws : List Write) → g.ahead.asked ≡ None → left_of text m g ws ≡ stops m ws g.refused
left_none text m g ws e = rw e

-- a step that is not there
pub none_asked : (o : Option Asked) → ((a : Asked) → o ≡ Some a → ⊥) → o ≡ None
none_asked (Some a) h = absurd (h a refl)
none_asked None h = refl

-- what is left of a turn once its step was answered
abbrev pub WentOn : List ℕ → Going → Step → Answer → List ℕ → Going → List ℕ → Type 0
WentOn text g s a out r out' = (r ≡ going_after (refused_in a) text g s a out) × (out' ≡ left_after (refused_in a) g s a out)

-- on its way still, with fewer steps ahead than before
abbrev pub Nearer : List ℕ → Machine → Going → Going → List Write → List ℕ → Run → List ℕ → Type 0
Nearer text m g r ws out x before = Way text m r ws out x before × (length (asks text r.ahead) < length (asks text g.ahead))

module _ {text : List ℕ} {x : Run} {before : List ℕ} where
  -- before the first step
  pub way_begins : (s : Section) {m : Machine} {ws : List Write} {g : Going} → g ≡ begun text s → x ≡ ran m ws (steps_at text s)
      → Way text m g ws before x before
  way_begins s {m} {ws} {g} b e =
      let all : left_of text m g ws ≡ x
      = left_section text m g ws s false (ap (λ (k : Going). k.ahead) b) (ap (λ (k : Going). k.refused) b) ∙ sym e in
      record {
        comes = rw (all, b) (record { machine = refl; refused = refl; answers = refl; writes = refl });
        stood = λ a q k. absurd (false≢true (sym (known_ahead text s false (sym (ap (λ (j : Going). j.ahead.asked) b) ∙ q)) ∙ k));
      }

  module _ {m : Machine} {g r : Going} {d : Done} {ws ws' : List Write} {out out' : List ℕ} (w : Way text m g ws out x before)
      {a : Asked} (e : g.ahead.asked ≡ Some a) (b : outcome d ws' ≡ step_by a.known m ws a.step)
      (h : WentOn text g a.step d.answer out r out') where
    abbrev s : Step
    s = a.step

    o : outcome d ws' ≡ step_of m ws s
    o = b ∙ as_known m ws s a.known (w.stood a e)

    -- a state from which a step was taken stands, and so does the one after
    stood_after : refused_in d.answer ≡ None → stands d.machine ws' ≡ true
    unfolding refusal_of
    stood_after z =
        let p = (passed _ _ _ _ _ _ (no_refusal m ws s (ap (λ (u : Outcome). number_of u.done.answer) (sym o) ∙ by_refusal d.answer ∙ ap number_in z))).0 in
        ap (λ (u : Outcome). stands u.done.machine u.writes) o ∙ standing_kept m ws s p.stands

    -- before a step that is taken: its answer, and the steps after it
    left_taken : refused_in d.answer ≡ None
        → left_of text m g ws ≡ tells (record { thread = s.thread; answer = d.answer }) (ran d.machine ws' (steps_at text g.ahead.rest))
    unfolding ran
    left_taken z = rw (e, ← o, z)

    -- before a step that is refused: nothing more
    left_refused : (k : ℕ) → refused_in d.answer ≡ Some k → left_of text m g ws ≡ stops m ws (Some k)
    unfolding ran
    left_refused k z = rw (e, ← o, z)

    -- the step that was asked is taken
    way_taken : refused_in d.answer ≡ None → Nearer text d.machine g r ws' out' x before
    way_taken z =
        let q = rw z at h in
        let rest = g.ahead.rest in
        let ahead = ap (λ (k : Going). k.ahead) q.0 in
        let is : left_of text d.machine r ws' ≡ ran d.machine ws' (steps_at text rest)
        = left_section text d.machine r ws' rest true ahead (ap (λ (k : Going). k.refused) q.0) in
        let told_now = answer_line s.thread d.answer in
        let put : page r.upto out' ≡ page (put_next out g.upto told_now) (placed_next out g.upto told_now)
        = λ i. page (q.0 i).upto (q.1 i) in (
          record { comes = rw (is, put) (told (rw (left_taken z) at w.comes)); stood = λ _ _ _. stood_after z },
          rw (ahead, asks_ahead text rest true, e) (omega arith),
        )

    -- it is refused: the same state and list, and nothing more
    way_refused : (k : ℕ) → refused_in d.answer ≡ Some k → Nearer text d.machine g r ws' out' x before
    way_refused k z =
        let q = rw z at h in
        let same = refused_keeps m ws s (rw (← o, by_refusal d.answer, z) (refusal_above d.answer k z)) in
        let off = ap (λ (j : Going). j.ahead.asked) q.0 in
        let is : left_of text d.machine r ws' ≡ left_of text m g ws
        = left_none text d.machine r ws' off
        ∙ (λ i. stops ((ap (λ (u : Outcome). u.done.machine) o ∙ same.0) i) ((ap (λ (u : Outcome). u.writes) o ∙ same.1) i) (q.0 i).refused)
        ∙ sym (left_refused k z) in
        let put : page r.upto out' ≡ page g.upto out = λ i. page (q.0 i).upto (q.1 i) in (
          record { comes = rw (is, put) w.comes; stood = λ _ on _. let z : ◌≡◌ {A = ℕ} 0 1 = cc (off, on) in absurd (omega arith) },
          rw (off, e) (omega arith),
        )

    -- it is done
    pub way_goes : Nearer text d.machine g r ws' out' x before
    way_goes = either (refused_in d.answer) refl
      where
        either : (q : Option ℕ) → refused_in d.answer ≡ q → Nearer text d.machine g r ws' out' x before
        either None z = way_taken z
        either (Some k) z = way_refused k z

  -- no step is ahead
  pub way_ends : {m : Machine} {g : Going} {ws : List Write} {out : List ℕ} → Way text m g ws out x before → g.ahead.asked ≡ None
      → Ends x before (ended_of m g ws) out
  unfolding put_lines
  way_ends {m} {g} {ws} w e =
      let o = rw (left_none text m g ws e) at w.comes in
      record { machine = o.machine; refused = o.refused; answers = o.answers; writes = o.writes }
