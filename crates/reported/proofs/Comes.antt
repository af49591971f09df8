-- What a run comes to: at most 4,096 answers, a queue of at most 16 ranks. Assumes nothing.
use Prim.Native.Nat.{◌+◌, ◌*◌, ◌-◌, ◌<◌, ◌≤◌, ℕ}
use lib.ListN.{length, length-append}
use mathlib.Core.Bool.{Bool, false, false≢true, true}
use mathlib.Core.List.{List, [], ◌∷◌, map}
use mathlib.Core.Logic.{◌⊎◌, inl, inr, ⊎_elim}
use mathlib.Core.Path.{◌∙◌, ◌≡◌, ap, refl, sym}
use native.Mathlib.Omega.{arith}
use Rattle.std.specs.Prelude.{Option, Some, None}
use Rattle.rules.proofs.Fresh.{refused_falls}
use Rattle.rules.proofs.Refused.{step_numbered, taken_counts}
use Rattle.rules.proofs.Standing.{standing}
use Rattle.rules.specs.Kept.{number_given}
use Rattle.laws.specs.Tests.{◌and◌}
use Rattle.rules.specs.Step.{step_of}
use Rattle.number.proofs.Decimal.{length_pow}
use Rattle.opening.specs.Opening.{fresh, opened_if, opened_of, refused_opening, unmoved, weights_stand}
use Rattle.printed.proofs.Fits.{answer_short}
use Rattle.printed.specs.Printed.{lines_text, printed_text}
use Rattle.rules.proofs.Begun.{fresh_sound}
use Rattle.rules.proofs.Sound.{Sound, run}
use Rattle.rules.specs.Log.{Point, start}
use Rattle.reported.proofs.Answers.{passed_all, taken_in}
use Rattle.run.proofs.Prefix.{ran_through}
use Rattle.run.specs.Ends.{told_line}
use Rattle.run.specs.Run.{Run, Told, goes_on_after, ran, stops}
use Rattle.standing.proofs.Bounds.{bounds}
use Rattle.standing.specs.Stands.{in_shape, stands}
use Rattle.state.specs.declared.Machine.{Machine}
use Rattle.step.proofs.Answered.{by_refusal}
use Rattle.step.specs.Answer.{number_of}
use Rattle.step.specs.Refused.{refused_in, number_in}
use Rattle.step.specs.declared.Answer.TheVariants.{Ok}
use Rattle.step.specs.declared.Step.{Step}
use Rattle.writes.specs.declared.Write.{Write}

-- what holds where the run stops, and where it goes on, holds
goes_on : (Q : Run → Type 0) (o : Option ℕ) (x y : Run) → Q x → (o ≡ None → Q y) → Q (goes_on_after o x y)
goes_on Q None x y p q = q refl
goes_on Q (Some n) x y p q = p

abbrev given : Machine → List Write → Step → Option ℕ
given m ws s = refused_in (step_of m ws s).done.answer

-- a step that is not refused has no number
taken_zero : (m : Machine) (ws : List Write) (s : Step) → given m ws s ≡ None → number_given m ws s ≡ 0
taken_zero m ws s e = by_refusal (step_of m ws s).done.answer ∙ ap number_in e

-- a run's last step is refused by 14 at most
at_most_14 : (m : Machine) (ws : List Write) (s : Step) → number_in (given m ws s) ≤ 14
at_most_14 m ws s = ⊎_elim (λ e. omega (arith, e, by_refusal (step_of m ws s).done.answer)) (λ e. omega (arith, e.1, by_refusal (step_of m ws s).done.answer)) (step_numbered m ws s)

pub refused_small : (m : Machine) (ws : List Write) (ss : List Step) → number_in (ran m ws ss).refused ≤ 14
unfolding ran
refused_small m ws [] = omega arith
refused_small m ws (s ∷ ss) =
    goes_on (λ r. number_in r.refused ≤ 14) (given m ws s) (stops m ws (given m ws s)) _ (at_most_14 m ws s)
    (λ e. refused_small (step_of m ws s).done.machine (step_of m ws s).writes ss)

-- at most n answers, and their lines
abbrev pub Few : ℕ → List Told → Type 0
Few n xs = (length xs ≤ n) × (length (lines_text (map told_line xs)) ≤ 18 * n)

few_none : (n : ℕ) → Few n []
unfolding lines_text
few_none n = (omega arith, omega arith)

few_more : (n k : ℕ) (x : Told) (xs : List Told) → length (printed_text (told_line x)) ≤ 18 → k < n → Few k xs → Few n (x ∷ xs)
unfolding lines_text
few_more n k x xs h l f = (
  omega (arith, f.0),
  omega (arith, f.1, length-append (printed_text (told_line x)) (lines_text (map told_line xs))),
)

pub few : (m : Machine) (ws : List Write) (ss : List Step) → Few (4096 - m.steps) (ran m ws ss).answers
unfolding ran
few m ws [] = few_none (4096 - m.steps)
few m ws (s ∷ ss) =
    let o = step_of m ws s in
    let n = 4096 - m.steps in
    let rest = (ran o.done.machine o.writes ss).answers in
    goes_on (λ r. Few n r.answers) (given m ws s) (stops m ws (given m ws s)) _ (few_none n)
    (λ e.
    let z = taken_zero m ws s e in
    let p = passed_all m ws s z in
    let digit = length_pow 0 s.thread (omega (arith, p.thread, (bounds m ws p.stands).threads)) in
    few_more n (4096 - o.done.machine.steps) _ rest (answer_short s.thread 1 digit o.done.answer (taken_in m ws s z))
    (omega (arith, p.steps, taken_counts m ws s z)) (few o.done.machine o.writes ss))

-- the machine counts the steps that are taken
counted : (m : Machine) (ws : List Write) (ss : List Step) → (ran m ws ss).machine.steps ≡ m.steps + length (ran m ws ss).answers
unfolding ran
counted m ws [] = omega arith
counted m ws (s ∷ ss) =
    let o = step_of m ws s in
    goes_on (λ r. r.machine.steps ≡ m.steps + length r.answers) (given m ws s) (stops m ws (given m ws s)) _ (omega arith)
    (λ e. omega (arith, taken_counts m ws s (taken_zero m ws s e), counted o.done.machine o.writes ss))

-- a queue of at most 16 ranks, none above 4,096; where there is one, the state stands
abbrev pub Listed : Machine → List Write → Type 0
Listed m ws =
    (m.head.value ≤ m.tail.value + 16) × (m.head.value ≤ 4096) × (0 < m.head.value → stands m ws ≡ true)

sound_listed : (p : Point) → Sound p → Listed p.machine p.writes
sound_listed p S =
    let fits = standing p.machine p.writes S.stand in (
      omega (arith, S.ring.high, (bounds p.machine p.writes S.stand).slots),
      omega (arith, fits.head.0, fits.counts.0),
      λ h. S.stand,
    )

-- from a state that does not stand no step is taken
ran_fallen : (m : Machine) (ws : List Write) (ss : List Step) → stands m ws ≡ false → (ran m ws ss).machine ≡ m
unfolding ran
ran_fallen m ws [] h = refl
ran_fallen m ws (s ∷ ss) h =
    goes_on (λ r. r.machine ≡ m) (given m ws s) (stops m ws (given m ws s)) _ refl
    (λ e. absurd (false≢true (sym h ∙ (passed_all m ws s (taken_zero m ws s e)).stands)))

opened_or : (b d : Bool) (m : Machine)
    → ((opened_if b d m).answer ≡ Ok) ⊎ (((opened_if b d m).machine.head.value ≡ 0) × (0 < number_of (opened_if b d m).answer))
unfolding refused_opening unmoved
opened_or false d m = inr (refl, omega arith)
opened_or true false m = inr (refl, omega arith)
opened_or true true m = inl refl

unstepped : (b d : Bool) (m : Machine) → m.steps ≡ 0 → (opened_if b d m).machine.steps ≡ 0
unfolding refused_opening unmoved
unstepped false d m e = refl
unstepped true false m e = refl
unstepped true true m e = e

-- from an opening on, its steps are the answers
pub counts : (t c : ℕ) (plain flags : List ℕ) (ws : List Write) (ss : List Step)
    → let r = ran (opened_of t c plain flags).machine ws ss in r.machine.steps ≡ length r.answers
unfolding opened_of fresh unmoved
counts t c plain flags ws ss =
    let m = (opened_of t c plain flags).machine in
    omega (
      arith,
      counted m ws ss,
      unstepped (in_shape t c (length plain) (length flags)) (weights_stand plain and weights_stand flags) (fresh t c plain flags) refl,
    )

-- a machine as it was opened or not, and any steps
pub listed : (t c : ℕ) (plain flags : List ℕ) (ws : List Write) (ss : List Step)
    → let r = ran (opened_of t c plain flags).machine ws ss in Listed r.machine r.writes
unfolding opened_of start
listed t c plain flags ws ss =
    let m = (opened_of t c plain flags).machine in
    ⊎_elim
    (λ (e : (opened_of t c plain flags).answer ≡ Ok).
    let u = ran_through (start m ws) ss in
    rw (u.machine, u.writes) (sound_listed _ (run (start m ws) (fresh_sound t c plain flags ws e) _)))
    (λ (e : (m.head.value ≡ 0) × (0 < number_of (opened_of t c plain flags).answer)).
    let k = ap (λ (n : Machine). n.head.value) (ran_fallen m ws ss (refused_falls t c plain flags ws e.1)) in
    (omega (arith, k, e.0), omega (arith, k, e.0), λ h. absurd (omega (arith, k, e.0, h))))
    (opened_or (in_shape t c (length plain) (length flags)) (weights_stand plain and weights_stand flags) (fresh t c plain flags))
