-- The state as an image of numbers, 1,160 words. Assumes nothing.
use Rattle.std.specs.Prelude.{Bool, List, [], ◌∷◌, ◌++◌, ℕ, zero, suc, ◌+◌, ◌*◌, leb, eqb, length, get_or, replicate}
use Rattle.laws.specs.Lists.{filled}
use Rattle.laws.specs.Tests.{◌and◌, all_below}
use Rattle.state.specs.State.{atomic, zero_atomic, at, row, place, atomic_at}
use Rattle.state.specs.declared.Atomic.{Atomic}
use Rattle.state.specs.declared.Machine.{Machine}
use Rattle.state.specs.declared.Name.{Name}
use Rattle.state.specs.declared.Name.TheVariants.{Head, Tail, Flag, Status}
use Rattle.state.specs.declared.Place.{Place}
use Rattle.state.specs.declared.Place.TheVariants.{Idle, PutStatus, PutSwap, PutWrite, PutPublish, TakeStatus, TakeSwap, TakeRead, TakeFree}
use Rattle.view.specs.View.{view_of, zero_view}
use Rattle.view.specs.declared.View.{View}

-- A place is its number, the rank and the weight; 0 where the place notes none.
abbrev pub place_words : Place → List ℕ
place_words Idle = 0 ∷ 0 ∷ 0 ∷ []
place_words (PutStatus k w) = 1 ∷ k ∷ w ∷ []
place_words (PutSwap k w) = 2 ∷ k ∷ w ∷ []
place_words (PutWrite k w) = 3 ∷ k ∷ w ∷ []
place_words (PutPublish k) = 4 ∷ k ∷ 0 ∷ []
place_words (TakeStatus k) = 5 ∷ k ∷ 0 ∷ []
place_words (TakeSwap k) = 6 ∷ k ∷ 0 ∷ []
place_words (TakeRead k) = 7 ∷ k ∷ 0 ∷ []
place_words (TakeFree k w) = 8 ∷ k ∷ w ∷ []

-- the places in the order of their numbers
abbrev pub places : ℕ → ℕ → List Place
places k w =
    Idle ∷ PutStatus k w ∷ PutSwap k w ∷ PutWrite k w ∷ PutPublish k ∷ TakeStatus k ∷ TakeSwap k ∷ TakeRead k ∷ TakeFree k w ∷ []

-- Any other number is idle.
unfoldable pub place_of : ℕ → ℕ → ℕ → Place
place_of n k w = get_or (places k w) n Idle

-- The words of entries 0 to n - 1, one after another.
unfoldable pub in_turn : (ℕ → List ℕ) → ℕ → List ℕ
in_turn f zero = []
in_turn f (suc n) = in_turn f n ++ f n

-- An atomic cell is its value and the 32 stamps of its view.
abbrev pub atomic_words : Atomic → List ℕ
atomic_words a = a.value ∷ a.view.at

-- A thread is its place and the 32 stamps of its view.
abbrev pub thread_words : Machine → ℕ → List ℕ
thread_words m i = place_words (place m i) ++ (row m i).at

-- T, C, the numbers of plain cells and flags, steps taken, held writes
abbrev pub heading : Machine → List ℕ
heading m = m.shape.threads ∷ m.shape.slots ∷ m.shape.plain ∷ m.shape.flags ∷ m.steps ∷ m.held ∷ []

-- The image: the heading, the 16 first values, the 8 threads, head, tail, the 8 flags, the 16 statuses.
unfoldable pub words_of : Machine → List ℕ
words_of m =
    heading m
    ++ m.firsts
    ++ in_turn (thread_words m) 8
    ++ atomic_words (atomic_at m Head)
    ++ atomic_words (atomic_at m Tail)
    ++ in_turn (λ i. atomic_words (atomic_at m (Flag i))) 8
    ++ in_turn (λ i. atomic_words (atomic_at m (Status i))) 16

-- Where they stand: a first value, a thread, its view, an atomic cell's words.
abbrev pub first_at : ℕ → ℕ
first_at i = 6 + i

abbrev pub thread_at : ℕ → ℕ
thread_at i = 22 + 35 * i

abbrev pub view_at : ℕ → ℕ
view_at i = 25 + 35 * i

abbrev pub cell_at : Name → ℕ
cell_at Head = 302
cell_at Tail = 335
cell_at (Flag i) = 368 + 33 * i
cell_at (Status i) = 632 + 33 * i

-- The same read back. A word past the end of an image is 0.
abbrev pub word : List ℕ → ℕ → ℕ
word s p = get_or s p 0

unfoldable pub view_from : List ℕ → ℕ → View
view_from s p = view_of (filled (λ i. word s (p + i)) 32 (replicate 32 0))

unfoldable pub atomic_from : List ℕ → ℕ → Atomic
atomic_from s p = atomic (word s p) (view_from s (p + 1))

unfoldable pub place_from : List ℕ → ℕ → Place
place_from s p = place_of (word s p) (word s (p + 1)) (word s (p + 2))

unfoldable pub machine_of : List ℕ → Machine
machine_of s =
    record {
      shape = record { threads = word s 0; slots = word s 1; plain = word s 2; flags = word s 3 };
      steps = word s 4;
      held = word s 5;
      firsts = filled (λ i. word s (first_at i)) 16 (replicate 16 0);
      views = filled (λ i. view_from s (view_at i)) 8 (replicate 8 zero_view);
      threads = filled (λ i. at (place_from s (thread_at i))) 8 (replicate 8 (at Idle));
      head = atomic_from s (cell_at Head);
      tail = atomic_from s (cell_at Tail);
      flags = filled (λ i. atomic_from s (cell_at (Flag i))) 8 (replicate 8 zero_atomic);
      statuses = filled (λ i. atomic_from s (cell_at (Status i))) 16 (replicate 16 zero_atomic);
    }

-- The three words from p on are those of a place: its number is known, and a word that it does not note is 0.
unfoldable pub is_place : List ℕ → ℕ → Bool
is_place s p = all_below (λ i. eqb (word s (p + i)) (word (place_words (place_from s p)) i)) 3

-- Words that begin with an image: 1,160 of them or more, each of the 8 threads at a place. What follows the image is not judged.
unfoldable pub is_image : List ℕ → Bool
is_image s = leb 1160 (length s) and all_below (λ i. is_place s (thread_at i)) 8
