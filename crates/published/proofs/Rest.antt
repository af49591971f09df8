-- A place in a call is known by the code that is left there. Assumes nothing.
use mathlib.Core.Path.{◌≡◌, refl, sym, ap, ◌∙◌}
use mathlib.Core.Bool.{Bool, true, false}
use mathlib.Core.Logic.{◌⊎◌, ◌≢◌, inl, inr}
use Prim.Native.Nat.{ℕ, ◌+◌, ◌-◌, ◌*◌, ◌/◌}
use native.Mathlib.Omega.{arith}
use borrow.Author.Tests.{eqb-false}
use lib.Dec.{eqb}
use Rattle.places.specs.Places.{rank_of}
use Rattle.published.specs.Calls.{Code, if_code, enqueue3, dequeue3, rest_of, answers, reads, writes, reads_at, writes_at, swaps_at}
use Rattle.published.specs.Follows.{Left}
use Rattle.state.specs.declared.Place.{Place}
use Rattle.state.specs.declared.Place.TheVariants.{Idle, PutStatus, PutSwap, PutWrite, PutPublish, TakeStatus, TakeSwap, TakeRead, TakeFree}
use Rattle.state.specs.declared.Shape.{Shape}
use Rattle.step.specs.declared.Answer.{Answer}
use Rattle.step.specs.declared.Answer.TheVariants.{Dash, Ok, Value, Yes, No, None, Got, Refused}

-- the place before another of the same call, where it notes no more
abbrev before : Place → Place
before Idle = Idle
before (PutStatus h w) = Idle
before (PutSwap h w) = PutStatus h w
before (PutWrite h w) = PutSwap h w
before (PutPublish h) = Idle
before (TakeStatus t) = Idle
before (TakeSwap t) = TakeStatus t
before (TakeRead t) = TakeSwap t
before (TakeFree t w) = TakeRead t

-- the last place of a call, by what it answers and the status that it writes
abbrev last : ℕ → ℕ → Answer → Place
last c x Dash = Idle
last c x Ok = Idle
last c x (Value v) = Idle
last c x Yes = PutPublish (x / 2)
last c x No = Idle
last c x None = Idle
last c x (Got w) = TakeFree (x / 2 - c) w
last c x (Refused r) = Idle

-- the place that a code with C slots is left at, found by running it with the status x
unfoldable back : ℕ → ℕ → ℕ → Code → Place
back c x u (answers a) = last c u a
back c x u (reads a f) = before (back c x u (f 0))
back c x u (writes a v d) = PutWrite (rank_of (back c x u d)) v
back c x u (reads_at A f) = before (back c x u (f x))
back c x u (writes_at A v d) = back c x v d
back c x u (swaps_at A v v' d d') = before (back c x u d)

halves : (h : ℕ) → (2 * h + 1) / 2 ≡ h
halves h = omega arith

laps : (t c : ℕ) → 2 * (t + c) / 2 - c ≡ t
laps t c = omega arith

module _ (s : Shape) where
  -- the status that the second step of a call waits for
  abbrev due : Place → ℕ
  due Idle = 0
  due (PutStatus h w) = 2 * h
  due (PutSwap h w) = 0
  due (PutWrite h w) = 0
  due (PutPublish h) = 0
  due (TakeStatus t) = 2 * t + 1
  due (TakeSwap t) = 0
  due (TakeRead t) = 0
  due (TakeFree t w) = 0

  abbrev back_of : ℕ → Place → Place
  back_of x p = back s.slots x 0 (rest_of s p)

  -- any status leads back to the place, but that it may lead nowhere where it is not the one due
  abbrev Leads : ℕ → Place → Place → Type 0
  Leads x p q = (q ≡ p) ⊎ ((q ≡ Idle) × (x ≢ due p))

  leads : (x : ℕ) (p : Place) → Leads x p (back_of x p)
  unfolding back
  leads x Idle = inl refl
  leads x (PutStatus h w) = go (eqb x (2 * h)) refl
    where
      go : (b : Bool) → eqb x (2 * h) ≡ b → Leads x (PutStatus h w) (before (back s.slots x 0 (if_code b (enqueue3 s w h) (answers No))))
      go true e = inl (ap (λ (k : ℕ). PutStatus k w) (halves h))
      go false e = inr (refl, eqb-false _ _ e)
  leads x (PutSwap h w) = inl (ap (λ (k : ℕ). PutSwap k w) (halves h))
  leads x (PutWrite h w) = inl (ap (λ (k : ℕ). PutWrite k w) (halves h))
  leads x (PutPublish h) = inl (ap PutPublish (halves h))
  leads x (TakeStatus t) = go (eqb x (2 * t + 1)) refl
    where
      go : (b : Bool) → eqb x (2 * t + 1) ≡ b → Leads x (TakeStatus t) (before (back s.slots x 0 (if_code b (dequeue3 s t) (answers None))))
      go true e = inl (ap TakeStatus (laps t s.slots))
      go false e = inr (refl, eqb-false _ _ e)
  leads x (TakeSwap t) = inl (ap TakeSwap (laps t s.slots))
  leads x (TakeRead t) = inl (ap TakeRead (laps t s.slots))
  leads x (TakeFree t w) = inl (ap (λ (k : ℕ). TakeFree k w) (laps t s.slots))

  one_rest : (p q : Place) → p ≢ Idle → rest_of s p ≡ rest_of s q → p ≡ q
  one_rest p q n e = go (leads (due p) p) (leads (due p) q)
    where
      same : back_of (due p) p ≡ back_of (due p) q
      same = ap (back s.slots (due p) 0) e

      go : Leads (due p) p (back_of (due p) p) → Leads (due p) q (back_of (due p) q) → p ≡ q
      go (inl x) (inl y) = sym x ∙ same ∙ y
      go (inl x) (inr y) = absurd (n (sym x ∙ same ∙ y.0))
      go (inr x) y = absurd (x.1 refl)

  -- a call that goes on has an event left
  unanswered : (p : Place) (a : Answer) → p ≢ Idle → answers a ≢ rest_of s p
  unanswered Idle a n e = n refl
  unanswered p a n e = cc

  -- what is left of a code gives the place and the answer
  pub one_left : (c : Code) (p q : Place) (a b : Answer) → Left s p a c → Left s q b c → (p ≡ q) × (a ≡ b)
  one_left c p q a b (inl (i, e)) (inl (j, f)) = (i ∙ sym j, said a b (sym e ∙ f))
    where
      said : (x y : Answer) → answers x ≡ answers y → x ≡ y
      said x y d = cc
  one_left c p q a b (inl (i, e)) (inr (n, f, j)) = absurd (unanswered q a n (sym e ∙ f))
  one_left c p q a b (inr (n, f, j)) (inl (i, e)) = absurd (unanswered p b n (sym e ∙ f))
  one_left c p q a b (inr (n, f, j)) (inr (n', f', j')) = (one_rest p q n (sym f ∙ f'), j ∙ sym j')
