-- Words that stand inside others, and what is read of them. Assumes nothing.
use mathlib.Core.Path.{◌≡◌, refl, sym, ap, ◌∙◌}
use mathlib.Core.List.{List, [], ◌∷◌, ◌++◌}
use Prim.Native.Nat.{ℕ, zero, suc, ◌+◌, ◌*◌, ◌≤◌, ◌<◌}
use native.Mathlib.Decide.{dec_lt}
use native.Mathlib.Nat.{add-zero, add_assoc, mul-zero, mul-suc}
use native.Mathlib.Omega.{arith}
use lib.ListN.{length, get_or, replicate, length-append, length-replicate, get_or-append}
use lib.Seq.{ext_get_or, get_or-append-add}
use Rattle.laws.proofs.Lists.{filled_length, filled_here}
use Rattle.laws.specs.Lists.{filled}
use Rattle.image.specs.Image.{place_words, place_of, in_turn, atomic_words, view_from, atomic_from, place_from}
use Rattle.state.specs.declared.Atomic.{Atomic}
use Rattle.state.specs.declared.Place.{Place}
use Rattle.state.specs.declared.Place.TheVariants.{Idle, PutStatus, PutSwap, PutWrite, PutPublish, TakeStatus, TakeSwap, TakeRead, TakeFree}
use Rattle.view.specs.View.{view_of}
use Rattle.view.specs.declared.View.{View}

-- the words t stand in s from a place on
pub record Has (s : List ℕ) (p : ℕ) (t : List ℕ) : Type 0 where
  pub room : p + length t ≤ length s
  pub same : (i : ℕ) → i < length t → get_or s (p + i) 0 ≡ get_or t i 0

pub has_last : (a t : List ℕ) (n : ℕ) → length a ≡ n → Has (a ++ t) n t
has_last a t n e =
    record { room = simp length-append (omega arith); same = λ i h. rw (← e) (get_or-append-add a t i 0) }

pub has_front : {a t : List ℕ} {p : ℕ} (b : List ℕ) → Has a p t → Has (a ++ b) p t
has_front {a} {t} {p} b x =
    record {
      room = simp length-append (omega (arith, x.room));
      same = λ i h. get_or-append a b 0 (p + i) (omega (arith, x.room)) ∙ x.same i h;
    }

-- words inside words inside others
pub has_in : {s t u : List ℕ} {p q : ℕ} → Has s p t → Has t q u → Has s (p + q) u
has_in {s} {t} {u} {p} {q} x y =
    record {
      room = omega (arith, x.room, y.room);
      same = λ i h. rw (add_assoc p q i) (x.same (q + i) (omega (arith, y.room)) ∙ y.same i h);
    }

pub has_first : {s : List ℕ} {p : ℕ} (a b : List ℕ) → Has s p (a ++ b) → Has s p a
has_first a b x =
    record {
      room = omega (arith, x.room, length-append a b);
      same = λ i h. x.same i (omega (arith, length-append a b)) ∙ get_or-append a b 0 i h;
    }

module _ (f : ℕ → List ℕ) (k : ℕ) (each : (j : ℕ) → length (f j) ≡ k) where
  pub turns_length : (n : ℕ) → length (in_turn f n) ≡ k * n
  unfolding in_turn
  turns_length zero = sym (mul-zero k)
  turns_length (suc n) = length-append (in_turn f n) (f n) ∙ rw (turns_length n, each n) (sym (mul-suc k n))

  pub has_turn : (n i : ℕ) → i < n → Has (in_turn f n) (k * i) (f i)
  unfolding in_turn
  has_turn zero i h = absurd (omega arith)
  has_turn (suc n) i h = go (dec_lt i n) (λ q. has_turn n i q)
    where
      go : Dec (i < n) → (i < n → Has (in_turn f n) (k * i) (f i)) → Has (in_turn f n ++ f n) (k * i) (f i)
      go (yes q) r = has_front (f n) (r q)
      go (no q) r =
          let e : i ≡ n = omega arith in
          rw e (has_last (in_turn f n) (f n) (k * n) (turns_length n))

-- a list that is read entry by entry
pub filled_whole : {A : Type 0} (l : List A) (n : ℕ) (f : ℕ → A) (d e : A) → length l ≡ n → ((i : ℕ) → i < n → f i ≡ get_or l i d)
    → filled f n (replicate n e) ≡ l
filled_whole l n f d e h g =
    let k = length-replicate n e in
    ext_get_or d (filled f n (replicate n e)) l (filled_length f n (replicate n e) ∙ k ∙ sym h)
    (λ i b. let c : i < n = omega (arith, filled_length f n (replicate n e)) in filled_here f n (replicate n e) i d c (omega arith) ∙ g i c)

pub view_back : (s : List ℕ) (p : ℕ) (v : View) → length v.at ≡ 32 → Has s p v.at → view_from s p ≡ v
unfolding view_from
view_back s p v e x = ap view_of (filled_whole v.at 32 _ 0 0 e (λ i h. x.same i (omega arith)))

pub atomic_back : (s : List ℕ) (p : ℕ) (a : Atomic) → length a.view.at ≡ 32 → Has s p (atomic_words a) → atomic_from s p ≡ a
unfolding atomic_from
atomic_back s p a e x =
    let v = rw add-zero at (x.same 0 (omega arith)) in
    rw (v, view_back s (p + 1) a.view e (has_in x (has_last (a.value ∷ []) a.view.at 1 refl)))

pub place_length : (q : Place) → length (place_words q) ≡ 3
place_length Idle = refl
place_length (PutStatus k w) = refl
place_length (PutSwap k w) = refl
place_length (PutWrite k w) = refl
place_length (PutPublish k) = refl
place_length (TakeStatus k) = refl
place_length (TakeSwap k) = refl
place_length (TakeRead k) = refl
place_length (TakeFree k w) = refl

place_same : (q : Place) → place_of (get_or (place_words q) 0 0) (get_or (place_words q) 1 0) (get_or (place_words q) 2 0) ≡ q
unfolding place_of
place_same Idle = refl
place_same (PutStatus k w) = refl
place_same (PutSwap k w) = refl
place_same (PutWrite k w) = refl
place_same (PutPublish k) = refl
place_same (TakeStatus k) = refl
place_same (TakeSwap k) = refl
place_same (TakeRead k) = refl
place_same (TakeFree k w) = refl

pub place_back : (s : List ℕ) (p : ℕ) (q : Place) → Has s p (place_words q) → place_from s p ≡ q
unfolding place_from
place_back s p q x =
    let e = place_length q in
    let n = rw add-zero at (x.same 0 (omega arith)) in
    rw (n, x.same 1 (omega arith), x.same 2 (omega arith)) (place_same q)
