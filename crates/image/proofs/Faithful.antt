-- The image of a machine says the machine. Assumes nothing.
use mathlib.Core.Path.{◌≡◌, refl, ap}
use mathlib.Core.List.{List, ◌++◌}
use Prim.Native.Nat.{ℕ, zero, suc, ◌+◌, ◌<◌}
use native.Mathlib.Omega.{arith}
use lib.ListN.{length, get_or, replicate, length-append}
use Rattle.laws.proofs.Lists.{set_either, replicated, filled_length}
use Rattle.laws.specs.Lists.{filled}
use Rattle.image.proofs.Inside.{Has, has_last, has_front, has_in, has_first, turns_length, has_turn, filled_whole, view_back, atomic_back, place_length, place_back}
use Rattle.image.specs.Image.{place_words, in_turn, atomic_words, thread_words, heading, words_of, first_at, thread_at, view_at, cell_at, word, view_from, atomic_from, place_from, machine_of}
use Rattle.image.specs.Promise.{ImageLong, ImageFaithful, ImageWhole}
use Rattle.state.specs.State.{zero_atomic, at, row, place, atomic_at, Whole}
use Rattle.state.specs.declared.Atomic.{Atomic}
use Rattle.state.specs.declared.Machine.{Machine}
use Rattle.state.specs.declared.Name.{Name}
use Rattle.state.specs.declared.Name.TheVariants.{Head, Tail, Flag, Status}
use Rattle.state.specs.declared.Place.TheVariants.{Idle}
use Rattle.view.specs.View.{zero_view}
use Rattle.view.specs.declared.View.{View}

-- the parts of an image and their places
record Parts (s b c d e f g : List ℕ) : Type 0 where
  firsts : Has s (first_at 0) b
  threads : Has s (thread_at 0) c
  head : Has s (cell_at Head) d
  tail : Has s (cell_at Tail) e
  flags : Has s (cell_at (Flag 0)) f
  statuses : Has s (cell_at (Status 0)) g
  long : length s ≡ cell_at (Status 0) + length g

parts : (a b c d e f g : List ℕ) → length a ≡ 6 → length b ≡ 16 → length c ≡ 280 → length d ≡ 33 → length e ≡ 33 → length f ≡ 264
    → Parts (a ++ b ++ c ++ d ++ e ++ f ++ g) b c d e f g
parts a b c d e f g la lb lc ld le lf =
    let to-c : length (a ++ b) ≡ 22 = omega (arith, length-append a b) in
    let to-d : length (a ++ b ++ c) ≡ 302 = omega (arith, length-append (a ++ b) c) in
    let to-e : length (a ++ b ++ c ++ d) ≡ 335 = omega (arith, length-append (a ++ b ++ c) d) in
    let to-f : length (a ++ b ++ c ++ d ++ e) ≡ 368 = omega (arith, length-append (a ++ b ++ c ++ d) e) in
    let to-g : length (a ++ b ++ c ++ d ++ e ++ f) ≡ 632 = omega (arith, length-append (a ++ b ++ c ++ d ++ e) f) in
    record {
      firsts = has_front g (has_front f (has_front e (has_front d (has_front c (has_last a b 6 la)))));
      threads = has_front g (has_front f (has_front e (has_front d (has_last (a ++ b) c 22 to-c))));
      head = has_front g (has_front f (has_front e (has_last (a ++ b ++ c) d 302 to-d)));
      tail = has_front g (has_front f (has_last (a ++ b ++ c ++ d) e 335 to-e));
      flags = has_front g (has_last (a ++ b ++ c ++ d ++ e) f 368 to-f);
      statuses = has_last (a ++ b ++ c ++ d ++ e ++ f) g 632 to-g;
      long = omega (arith, length-append (a ++ b ++ c ++ d ++ e ++ f) g);
    }

module _ (m : Machine) (w : Whole m) where
  pub thread_length : (i : ℕ) → length (thread_words m i) ≡ 35
  thread_length i = omega (arith, length-append (place_words (place m i)) (row m i).at, place_length (place m i), w.rows i)

  pub cell_length : (a : Name) → length (atomic_words (atomic_at m a)) ≡ 33
  cell_length a = omega (arith, w.seen a)

  parted : Parts (words_of m) m.firsts (in_turn (thread_words m) 8) (atomic_words (atomic_at m Head)) (atomic_words (atomic_at m Tail))
      (in_turn (λ i. atomic_words (atomic_at m (Flag i))) 8) (in_turn (λ i. atomic_words (atomic_at m (Status i))) 16)
  unfolding words_of
  parted =
      parts (heading m) _ _ _ _ _ _ refl w.firsts (turns_length (thread_words m) 35 thread_length 8) (cell_length Head) (cell_length Tail)
      (turns_length (λ i. atomic_words (atomic_at m (Flag i))) 33 (λ i. cell_length (Flag i)) 8)

  thread_has : (i : ℕ) → i < 8 → Has (words_of m) (thread_at i) (thread_words m i)
  thread_has i h = has_in parted.threads (has_turn (thread_words m) 35 thread_length 8 i h)

  pub place_has : (i : ℕ) → i < 8 → Has (words_of m) (thread_at i) (place_words (place m i))
  place_has i h = has_first _ (row m i).at (thread_has i h)

  flag_has : (i : ℕ) → i < 8 → Has (words_of m) (cell_at (Flag i)) (atomic_words (atomic_at m (Flag i)))
  flag_has i h = has_in parted.flags (has_turn (λ j. atomic_words (atomic_at m (Flag j))) 33 (λ j. cell_length (Flag j)) 8 i h)

  status_has : (i : ℕ) → i < 16 → Has (words_of m) (cell_at (Status i)) (atomic_words (atomic_at m (Status i)))
  status_has i h = has_in parted.statuses (has_turn (λ j. atomic_words (atomic_at m (Status j))) 33 (λ j. cell_length (Status j)) 16 i h)

  view_has : (i : ℕ) → i < 8 → Has (words_of m) (view_at i) (row m i).at
  view_has i h =
      let e : view_at i ≡ thread_at i + 3 = omega arith in
      rw e (has_in (thread_has i h) (has_last (place_words (place m i)) (row m i).at 3 (place_length (place m i))))

-- field by field
fields : (s : List ℕ) (m : Machine) → word s 0 ≡ m.shape.threads → word s 1 ≡ m.shape.slots → word s 2 ≡ m.shape.plain
    → word s 3 ≡ m.shape.flags → word s 4 ≡ m.steps → word s 5 ≡ m.held
    → filled (λ i. word s (first_at i)) 16 (replicate 16 0) ≡ m.firsts
    → filled (λ i. view_from s (view_at i)) 8 (replicate 8 zero_view) ≡ m.views
    → filled (λ i. at (place_from s (thread_at i))) 8 (replicate 8 (at Idle)) ≡ m.threads
    → atomic_from s (cell_at Head) ≡ m.head → atomic_from s (cell_at Tail) ≡ m.tail
    → filled (λ i. atomic_from s (cell_at (Flag i))) 8 (replicate 8 zero_atomic) ≡ m.flags
    → filled (λ i. atomic_from s (cell_at (Status i))) 16 (replicate 16 zero_atomic) ≡ m.statuses
    → machine_of s ≡ m
unfolding machine_of
fields s m t c n f k h a b d e g i j = rw (t, c, n, f, k, h, a, b, d, e, g, i, j)

pub image_long : ImageLong
image_long m w =
    omega (arith, (parted m w).long, turns_length (λ i. atomic_words (atomic_at m (Status i))) 33 (λ i. cell_length m w (Status i)) 16)

pub image_faithful : ImageFaithful
unfolding words_of row place atomic_at
image_faithful m rest w =
    fields (words_of m ++ rest) m refl refl refl refl refl refl
    (filled_whole m.firsts 16 _ 0 0 w.firsts (λ i h. (has_front rest (parted m w).firsts).same i (omega arith)))
    (filled_whole m.views 8 _ zero_view zero_view w.views (λ i h. view_back _ _ _ (w.rows i) (has_front rest (view_has m w i h))))
    (filled_whole m.threads 8 _ (at Idle) (at Idle) w.threads (λ i h. ap at (place_back _ _ _ (has_front rest (place_has m w i h)))))
    (atomic_back _ _ _ (w.seen Head) (has_front rest (parted m w).head))
    (atomic_back _ _ _ (w.seen Tail) (has_front rest (parted m w).tail))
    (filled_whole m.flags 8 _ zero_atomic zero_atomic w.flags (λ i h. atomic_back _ _ _ (w.seen (Flag i)) (has_front rest (flag_has m w i h))))
    (filled_whole m.statuses 16 _ zero_atomic zero_atomic w.statuses (λ i h. atomic_back _ _ _ (w.seen (Status i)) (has_front rest (status_has m w i h))))

-- what every entry read and every entry of the room has, every entry has
read_each : {A : Type 0} (P : A → Type 0) (f : ℕ → A) (n : ℕ) (room : List A) (d : A) → ((i : ℕ) → P (f i)) → ((i : ℕ) → P (get_or room i d))
    → (i : ℕ) → P (get_or (filled f n room) i d)
unfolding filled
read_each P f zero room d p q i = q i
read_each P f (suc n) room d p q i = set_either P (filled f n room) n i (f n) d (p n) (read_each P f n room d p q i)

view_length : (s : List ℕ) (p : ℕ) → length (view_from s p).at ≡ 32
unfolding view_from
view_length s p = filled_length _ 32 (replicate 32 0)

pub image_whole : ImageWhole
unfolding machine_of row atomic_at atomic_from
image_whole s = record {
  firsts = filled_length _ 16 (replicate 16 0);
  views = filled_length _ 8 (replicate 8 zero_view);
  threads = filled_length _ 8 (replicate 8 (at Idle));
  flags = filled_length _ 8 (replicate 8 zero_atomic);
  statuses = filled_length _ 16 (replicate 16 zero_atomic);
  rows = read_each (λ (v : View). length v.at ≡ 32) (λ i. view_from s (view_at i)) 8 (replicate 8 zero_view) zero_view
      (λ i. view_length s (view_at i)) (λ i. rw (replicated 8 zero_view i) refl);
  seen = seen;
}
  where
    cells : (f : ℕ → ℕ) (n : ℕ) (i : ℕ) → length (get_or (filled (λ j. atomic_from s (f j)) n (replicate n zero_atomic)) i zero_atomic).view.at ≡ 32
    cells f n =
        read_each (λ (c : Atomic). length c.view.at ≡ 32) (λ j. atomic_from s (f j)) n (replicate n zero_atomic) zero_atomic
        (λ j. view_length s (f j + 1)) (λ j. rw (replicated n zero_atomic j) refl)

    seen : (a : Name) → length (atomic_at (machine_of s) a).view.at ≡ 32
    seen Head = view_length s (cell_at Head + 1)
    seen Tail = view_length s (cell_at Tail + 1)
    seen (Flag i) = cells (λ j. cell_at (Flag j)) 8 i
    seen (Status i) = cells (λ j. cell_at (Status j)) 16 i
