-- What is promised of a call. Assumes nothing.
use mathlib.Core.Path.{◌≡◌, refl, ◌∙◌}
use mathlib.Core.Bool.{Bool, true, false, not}
use mathlib.Core.List.{List, ◌++◌}
use mathlib.Core.Logic.{◌⊎◌, inl, inr, ⊎_elim}
use Prim.Native.Nat.{ℕ, ◌≤◌}
use native.Mathlib.Nat.{zero-add}
use native.Mathlib.Omega.{arith}
use borrow.Author.Tests.{lt-ltb, le-ltb, ltb-false, leb-true, not-false}
use lib.Dec.{ltb}
use lib.ListN.{length, drop}
use lib.Seq.{sets-eq}
use Rattle.std.specs.Prelude.{None}
use Rattle.image.proofs.Faithful.{image_long, image_faithful, image_whole}
use Rattle.image.proofs.Taken.{image_taken}
use Rattle.image.specs.Image.{words_of, machine_of, is_image}
use Rattle.laws.proofs.Tests.{apart}
use Rattle.number.proofs.Stores.{placed_fits}
use Rattle.number.specs.Buffer.{placed}
use Rattle.outside.specs.Asked.{step_asked, is_asked, answer_words}
use Rattle.outside.specs.Call.{refused_call, step_called, number_called, called}
use Rattle.outside.specs.Promise.{CallOrdered, CallKeeps, CallTakes, CallNumbered}
use Rattle.outside.specs.declared.CallRefusal.TheVariants.{NoStep, NoImage, NoRoom}
use Rattle.outside.proofs.Left.{left_new, left_came, words_two}
use Rattle.refusal.specs.Refusal.{refuse}
use Rattle.rules.proofs.Refused.{step_numbered}
use Rattle.rules.proofs.Whole.{whole_kept}
use Rattle.step.specs.Answer.{number_of}

pub call_ordered : CallOrdered
unfolding called refused_call
call_ordered s ws asked a = record {
  short = λ h. rw (lt-ltb (length a) 2 h);
  unasked = λ h e. rw (le-ltb (length a) 2 h, e);
  unreadable = λ h e f. rw (le-ltb (length a) 2 h, e, f);
  stepped = λ h e f. rw (le-ltb (length a) 2 h, e, f);
}

pub call_keeps : CallKeeps
unfolding called
call_keeps s ws asked a h = record { state = left_came _ _ _ h; writes = left_came _ _ _ h; answer = left_came _ _ _ h }

-- words from the front of a list on
front : (l t : List ℕ) (n : ℕ) → length t ≡ n → n ≤ length l → placed l 0 t ≡ t ++ drop n l
front l t n e h = placed_fits l 0 t (omega arith) ∙ sets-eq t l 0 (omega arith) ∙ rw (zero-add, e) refl

-- a call that is not refused
none : (a b c : Bool) (n : ℕ) → number_called (refuse a NoRoom (refuse b NoStep (refuse c NoImage None))) n ≡ 0
    → (a ≡ false) × (b ≡ false) × (c ≡ false) × (n ≡ 0)
none true b c n e = absurd (omega arith)
none false true c n e = absurd (omega arith)
none false false true n e = absurd (omega arith)
none false false false n e = (refl, refl, refl, e)

enough : (s : List ℕ) → is_image s ≡ true → 1160 ≤ length s
unfolding is_image
enough s e = leb-true _ (length s) (apart _ _ e).0

pub call_takes : CallTakes
unfolding called refused_call
call_takes s ws asked a e =
    let o = step_called s ws asked in
    let t = none (ltb (length a) 2) (not (is_asked asked)) (not (is_image s)) (number_of o.done.answer) e in
    let image : is_image s ≡ true = not-false _ t.2 in
    let room : 2 ≤ length a = ltb-false _ _ t.0 in
    let w = whole_kept (machine_of s) ws (step_asked asked) (image_whole s) in
    let state : (called s ws asked a).state ≡ words_of o.done.machine ++ drop 1160 s =
    left_new (called s ws asked a).number _ _ e ∙ front s (words_of o.done.machine) 1160 (image_long _ w) (enough s image) in
    record {
      image = image;
      asks = not-false _ t.1;
      room = room;
      taken = t.3;
      state = state;
      again = rw state (image_taken _ (drop 1160 s) w);
      machine = rw state (image_faithful _ (drop 1160 s) w);
      writes = left_new (called s ws asked a).number _ _ e;
      answer = left_new (called s ws asked a).number _ _ e ∙ front a (answer_words o.done.answer) 2 (words_two o.done.answer) room;
    }

some : (a b c : Bool) (n : ℕ) → (n ≡ 0) ⊎ ((6 ≤ n) × (n ≤ 14))
    → let r = number_called (refuse a NoRoom (refuse b NoStep (refuse c NoImage None))) n in (r ≡ 0) ⊎ (r ≡ 2) ⊎ ((6 ≤ r) × (r ≤ 15))
some true b c n h = inr (inr (omega arith, omega arith))
some false true c n h = inr (inl refl)
some false false true n h = inr (inr (omega arith, omega arith))
some false false false n h = ⊎_elim (λ e. inl e) (λ p. inr (inr (p.0, omega (arith, p.1)))) h

pub call_numbered : CallNumbered
unfolding called refused_call
call_numbered s ws asked a =
    some (ltb (length a) 2) (not (is_asked asked)) (not (is_image s)) _ (step_numbered (machine_of s) ws (step_asked asked))
