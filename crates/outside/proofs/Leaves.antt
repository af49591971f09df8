-- What the calls of `dentralupo_step` leave, together, is what a call leaves. Assumes nothing.
use mathlib.Core.Path.{◌≡◌, refl, ap, sym, ◌∙◌}
use mathlib.Core.List.{List}
use Prim.Native.Nat.{ℕ, zero, suc, ◌<◌}
use native.Mathlib.Omega.{arith}
use lib.ListN.{length}
use Rattle.std.specs.Prelude.{Option, Some, None}
use Rattle.image.specs.Image.{words_of, machine_of}
use Rattle.number.specs.Buffer.{placed}
use Rattle.outside.proofs.Left.{left_came}
use Rattle.outside.specs.Asked.{no_step, answer_words}
use Rattle.outside.specs.Call.{lent, call_number, refused_call, step_for, number_called, left, left_by, step_called, called}
use Rattle.outside.specs.declared.Call.{Call}
use Rattle.outside.specs.declared.CallRefusal.{CallRefusal}
use Rattle.outside.specs.declared.CallRefusal.TheVariants.{NoStep, NoImage, NoRoom}
use Rattle.refusal.proofs.Passed.{passed}
use Rattle.rules.proofs.Refused.{numbered, refused_keeps}
use Rattle.rules.specs.Kept.{number_given}
use Rattle.rules.specs.Step.{Outcome, outcome, refusal_of, step_of}
use Rattle.rules.specs.declared.Done.{Done}
use Rattle.state.specs.declared.Machine.{Machine}
use Rattle.step.specs.Answer.{number_of}
use Rattle.step.proofs.Numbered.{above_zero}
use Rattle.step.specs.declared.Reason.{Reason}
use Rattle.step.specs.declared.Step.{Step}
use Rattle.writes.specs.declared.Write.{Write}

-- a refused call has a number
refused_above : (r : CallRefusal) → 0 < call_number r
refused_above NoStep = omega arith
refused_above NoImage = omega arith
refused_above NoRoom = omega arith

-- a call with a number leaves all as it came
came : (n : ℕ) (o : Outcome) (s : List ℕ) (ws : List Write) (a : List ℕ) → 0 < n → left_by n o s ws a ≡ lent n s ws a
came zero o s ws a h = absurd (omega arith)
came (suc n) o s ws a h = refl

-- no state takes a step of thread 0
unasked : (m : Machine) (ws : List Write) → 0 < number_given m ws no_step
unfolding refusal_of
unasked m ws = go (refusal_of m ws no_step) refl
  where
    go : (o : Option Reason) → refusal_of m ws no_step ≡ o → 0 < number_given m ws no_step
    go None e = absurd (omega (arith, (passed _ _ _ _ _ _ e).0.thread.0))
    go (Some r) e = rw (numbered m ws no_step, e) (above_zero r)

-- what `call_of` and `put_done` say
abbrev pub CallIs : List ℕ → List ℕ → ℕ → Call → Type 0
CallIs ss asks n c = (c.refused ≡ refused_call ss asks n) × (c.machine ≡ machine_of ss) × (c.step ≡ step_for c.refused asks)

abbrev pub DoneIs : List ℕ → List ℕ → Option CallRefusal → Done → ℕ → List ℕ → List ℕ → Type 0
DoneIs ss an q d r ss' an' =
    (r ≡ number_called q (number_of d.answer)) × (ss' ≡ left r (placed ss 0 (words_of d.machine)) ss)
    × (an' ≡ left r (placed an 0 (answer_words d.answer)) an)

module _ (ss asks an : List ℕ) (ws : List Write) (ss' an' : List ℕ) (ws' : List Write) (d : Done) where
  -- a refused step leaves the list
  list_came : (m : Machine) (i : Step) → outcome d ws' ≡ step_of m ws i → 0 < number_given m ws i → ws' ≡ ws
  list_came m i o h = ap (λ (x : Outcome). x.writes) o ∙ (refused_keeps m ws i h).1

  list_left : (m : Machine) (i : Step) (r : ℕ) → outcome d ws' ≡ step_of m ws i → r ≡ number_of d.answer → ws' ≡ left r ws' ws
  list_left m i zero o e = refl
  list_left m i (suc r) o e = list_came m i o (rw (← o, ← e) (omega arith))

  by_own : (q : Option CallRefusal) (r : ℕ) (i : Step) → q ≡ refused_call ss asks (length an) → i ≡ step_for q asks
      → outcome d ws' ≡ step_of (machine_of ss) ws i → DoneIs ss an q d r ss' an' → lent r ss' ws' an' ≡ called ss ws asks an
  unfolding called
  by_own None r i e is-i o w =
      rw (← e, ← is-i, ← o, ← w.0, ← w.1, ← w.2, ← list_left (machine_of ss) i r o w.0)
  by_own (Some k) r i e is-i o w =
      let l : ws' ≡ ws = list_came (machine_of ss) i o (rw is-i (unasked (machine_of ss) ws)) in
      let h : 0 < r = rw w.0 (refused_above k) in
      rw (← e)
      ((λ i. lent (w.0 i) ((w.1 ∙ left_came r _ ss h) i) (l i) ((w.2 ∙ left_came r _ an h) i))
      ∙ sym (came (call_number k) (step_called ss ws asks) ss ws an (refused_above k)))

  pub leaves : (c : Call) (r : ℕ) → CallIs ss asks (length an) c → outcome d ws' ≡ step_of c.machine ws c.step
      → DoneIs ss an c.refused d r ss' an' → lent r ss' ws' an' ≡ called ss ws asks an
  leaves c r is o w = by_own c.refused r c.step is.0 is.2 (o ∙ rw is.1) w
