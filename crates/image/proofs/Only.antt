-- What is taken for an image is the image of the machine that it says. Assumes nothing.
use mathlib.Core.Path.{◌≡◌, refl, sym, ap, ◌∙◌}
use mathlib.Core.Bool.{true}
use mathlib.Core.List.{List, [], ◌∷◌, ◌++◌}
use Prim.Native.Nat.{ℕ, zero, suc, ◌+◌, ◌*◌, ◌-◌, ◌≤◌, ◌<◌}
use native.Mathlib.Decide.{dec_lt}
use native.Mathlib.Nat.{add-zero, zero-add}
use native.Mathlib.Omega.{arith}
use borrow.Author.Tests.{leb-true, eqb-true}
use lib.ListN.{length, get_or, replicate, take, length-append, length-replicate, get_or-append}
use lib.Seq.{ext_get_or, get_or-append-add, get_or-take, length-take-le}
use Rattle.laws.proofs.Lists.{filled_length, filled_here}
use Rattle.laws.proofs.Tests.{apart, each}
use Rattle.laws.specs.Lists.{filled}
use Rattle.image.proofs.Faithful.{thread_length, cell_length, image_long, image_whole}
use Rattle.image.proofs.Inside.{Has, turns_length, place_length}
use Rattle.image.specs.Image.{place_words, in_turn, atomic_words, thread_words, heading, words_of, thread_at, view_at, cell_at, word, view_from, atomic_from, place_from, machine_of, is_place, is_image}
use Rattle.image.specs.Promise.{ImageOnly}
use Rattle.state.specs.State.{zero_atomic, at, row, place, atomic_at, Whole}
use Rattle.state.specs.declared.Machine.{Machine}
use Rattle.state.specs.declared.Name.TheVariants.{Head, Tail, Flag, Status}
use Rattle.state.specs.declared.Place.TheVariants.{Idle}
use Rattle.state.specs.declared.Thread.{Thread}
use Rattle.view.specs.View.{zero_view}

-- words one after another
has_then : {s a b : List ℕ} {p : ℕ} (n : ℕ) → Has s p a → p + length a ≡ n → Has s n b → Has s p (a ++ b)
has_then {s} {a} {b} {p} n x e y =
    record { room = omega (arith, y.room, length-append a b); same = λ i h. go i h (dec_lt i (length a)) }
  where
    go : (i : ℕ) → i < length (a ++ b) → Dec (i < length a) → get_or s (p + i) 0 ≡ get_or (a ++ b) i 0
    go i h (yes q) = x.same i q ∙ sym (get_or-append a b 0 i q)
    go i h (no q) =
        let j = i - length a in
        let d : length a + j ≡ i = omega arith in
        let f : n + j ≡ p + i = omega arith in
        ap (λ (k : ℕ). get_or s k 0) (sym f) ∙ y.same j (omega (arith, length-append a b)) ∙ sym (get_or-append-add a b j 0)
        ∙ ap (λ (k : ℕ). get_or (a ++ b) k 0) d

has_turns : {s : List ℕ} (f : ℕ → List ℕ) (p k n : ℕ) → ((j : ℕ) → length (f j) ≡ k) → p + k * n ≤ length s
    → ((i : ℕ) → i < n → Has s (p + k * i) (f i)) → Has s p (in_turn f n)
unfolding in_turn
has_turns f p k zero each h x = record { room = omega arith; same = λ i l. absurd (omega arith) }
has_turns f p k (suc n) each h x =
    has_then (p + k * n) (has_turns f p k n each (omega arith) (λ i l. x i (omega arith))) (omega (arith, turns_length f k each n)) (x n (omega arith))

has_words : (s : List ℕ) (p n : ℕ) → p + n ≤ length s → Has s p (filled (λ i. word s (p + i)) n (replicate n 0))
has_words s p n h =
    let k : length {A = ℕ} (replicate n 0) ≡ n = length-replicate {A = ℕ} n 0 in
    let l : length (filled (λ i. word s (p + i)) n (replicate n 0)) ≡ n = filled_length _ n (replicate n 0) ∙ k in
    record {
      room = omega arith;
      same = λ i b. sym (filled_here (λ j. word s (p + j)) n (replicate n 0) i 0 (omega arith) (omega arith));
    }

has_view : (s : List ℕ) (p : ℕ) → p + 32 ≤ length s → Has s p (view_from s p).at
unfolding view_from
has_view s p h = has_words s p 32 h

-- one word and more
has_more : {s t : List ℕ} {p : ℕ} → Has s (p + 1) t → Has s p (word s p ∷ t)
has_more {s} {t} {p} x = has_then (p + 1) one refl x
  where
    one : Has s p (word s p ∷ [])
    one = record { room = omega (arith, x.room); same = λ i h. let e : i ≡ 0 = omega arith in rw (e, add-zero) refl }

has_cell : (s : List ℕ) (p : ℕ) → p + 33 ≤ length s → Has s p (atomic_words (atomic_from s p))
unfolding atomic_from
has_cell s p h = has_more (has_view s (p + 1) (omega arith))

has_place : (s : List ℕ) (p : ℕ) → is_place s p ≡ true → p + 3 ≤ length s → Has s p (place_words (place_from s p))
unfolding is_place
has_place s p e h =
    let l = place_length (place_from s p) in
    record { room = omega arith; same = λ i b. eqb-true _ _ (each _ _ e i (omega arith)) }

module _ (s : List ℕ) (h : 1160 ≤ length s) (g : (i : ℕ) → i < 8 → is_place s (thread_at i) ≡ true) where
  abbrev m : Machine
  m = machine_of s

  abbrev w : Whole m
  w = image_whole s

  -- an entry of an array that was read
  entry : {A : Type 0} (f : ℕ → A) (n i : ℕ) (d e : A) → i < n → get_or (filled f n (replicate n d)) i e ≡ f i
  entry f n i d e l = filled_here f n (replicate n d) i e l (omega (arith, length-replicate n d))

  has_heading : Has s 0 (heading m)
  unfolding machine_of
  has_heading = has_more (has_more (has_more (has_more (has_more (has_more (record { room = omega arith; same = λ i l. absurd (omega arith) }))))))

  has_firsts : Has s 6 m.firsts
  unfolding machine_of
  has_firsts = has_words s 6 16 (omega arith)

  place_read : (i : ℕ) → i < 8 → place m i ≡ place_from s (thread_at i)
  unfolding machine_of place
  place_read i l = ap (λ (t : Thread). t.place) (entry (λ j. at (place_from s (thread_at j))) 8 i (at Idle) (at Idle) l)

  row_read : (i : ℕ) → i < 8 → row m i ≡ view_from s (view_at i)
  unfolding machine_of row
  row_read i l = entry (λ j. view_from s (view_at j)) 8 i zero_view zero_view l

  has_thread : (i : ℕ) → i < 8 → Has s (thread_at i) (thread_words m i)
  has_thread i l =
      rw (place_read i l, row_read i l)
      (has_then (view_at i) (has_place s (thread_at i) (g i l) (omega arith)) (omega (arith, place_length (place_from s (thread_at i))))
      (has_view s (view_at i) (omega arith)))

  has_flag : (i : ℕ) → i < 8 → Has s (cell_at (Flag i)) (atomic_words (atomic_at m (Flag i)))
  unfolding machine_of atomic_at
  has_flag i l = rw (entry (λ j. atomic_from s (cell_at (Flag j))) 8 i zero_atomic zero_atomic l) (has_cell s (cell_at (Flag i)) (omega arith))

  has_status : (i : ℕ) → i < 16 → Has s (cell_at (Status i)) (atomic_words (atomic_at m (Status i)))
  unfolding machine_of atomic_at
  has_status i l = rw (entry (λ j. atomic_from s (cell_at (Status j))) 16 i zero_atomic zero_atomic l) (has_cell s (cell_at (Status i)) (omega arith))

  has_head : Has s 302 (atomic_words (atomic_at m Head))
  unfolding machine_of atomic_at
  has_head = has_cell s (cell_at Head) (omega arith)

  has_tail : Has s 335 (atomic_words (atomic_at m Tail))
  unfolding machine_of atomic_at
  has_tail = has_cell s (cell_at Tail) (omega arith)

  has_image : Has s 0 (words_of m)
  unfolding words_of
  has_image =
      let b = heading m ++ m.firsts in
      let c = b ++ in_turn (thread_words m) 8 in
      let d = c ++ atomic_words (atomic_at m Head) in
      let f = d ++ atomic_words (atomic_at m Tail) in
      let flags = in_turn (λ i. atomic_words (atomic_at m (Flag i))) 8 in
      let to-c : length b ≡ 22 = omega (arith, length-append (heading m) m.firsts, w.firsts) in
      let to-d : length c ≡ 302 = omega (arith, length-append b (in_turn (thread_words m) 8), turns_length (thread_words m) 35 (thread_length m w) 8) in
      let to-e : length d ≡ 335 = omega (arith, length-append c (atomic_words (atomic_at m Head)), cell_length m w Head) in
      let to-f : length f ≡ 368 = omega (arith, length-append d (atomic_words (atomic_at m Tail)), cell_length m w Tail) in
      let to-g : length (f ++ flags) ≡ 632 = omega (arith, length-append f flags, turns_length (λ i. atomic_words (atomic_at m (Flag i))) 33 (λ i. cell_length m w (Flag i)) 8) in
      has_then 632 (has_then 368 (has_then 335 (has_then 302 (has_then 22 (has_then 6 has_heading refl has_firsts) (omega arith)
      (has_turns (thread_words m) 22 35 8 (thread_length m w) (omega arith) has_thread)) (omega arith)
      has_head) (omega arith) has_tail) (omega arith)
      (has_turns (λ i. atomic_words (atomic_at m (Flag i))) 368 33 8 (λ i. cell_length m w (Flag i)) (omega arith) has_flag)) (omega arith)
      (has_turns (λ i. atomic_words (atomic_at m (Status i))) 632 33 16 (λ i. cell_length m w (Status i)) (omega arith) has_status)

pub image_only : ImageOnly
unfolding is_image
image_only s e =
    let h : 1160 ≤ length s = omega (arith, leb-true _ (length s) (apart _ _ e).0) in
    let x = has_image s h (λ i l. each _ _ (apart _ _ e).1 i l) in
    let l = image_long (machine_of s) (image_whole s) in
    ext_get_or 0 (take 1160 s) (words_of (machine_of s)) (length-take-le 1160 s h ∙ sym l)
    (λ i b. let c : i < 1160 = omega (arith, length-take-le 1160 s h) in
    get_or-take 1160 s i 0 c ∙ ap (λ (k : ℕ). get_or s k 0) (sym (zero-add i)) ∙ x.same i (omega arith))
