-- Laws of what a call leaves, and of an answer's words. Assumes nothing.
use mathlib.Core.Path.{◌≡◌, refl}
use Prim.Native.Nat.{ℕ, zero, suc, ◌<◌}
use native.Mathlib.Omega.{arith}
use lib.ListN.{length}
use Rattle.outside.specs.Asked.{answer_words}
use Rattle.outside.specs.Call.{left}
use Rattle.step.specs.declared.Answer.{Answer}
use Rattle.step.specs.declared.Answer.TheVariants.{Dash, Ok, Value, Yes, No, None, Got, Refused}

pub left_new : {A : Type 0} (n : ℕ) (new came : A) → n ≡ 0 → left n new came ≡ new
left_new n new came e = rw e

pub left_came : {A : Type 0} (n : ℕ) (new came : A) → 0 < n → left n new came ≡ came
left_came zero new came h = absurd (omega arith)
left_came (suc n) new came h = refl

pub words_two : (a : Answer) → length (answer_words a) ≡ 2
words_two Dash = refl
words_two Ok = refl
words_two (Value v) = refl
words_two Yes = refl
words_two No = refl
words_two None = refl
words_two (Got w) = refl
words_two (Refused r) = refl
