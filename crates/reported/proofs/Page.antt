-- Lines put one after the other. Assumes nothing.
use Prim.Native.Nat.{◌+◌, ◌-◌, ◌<◌, suc, zero, ℕ}
use mathlib.Core.List.{List, [], ◌++◌, ◌∷◌}
use mathlib.Core.Path.{◌∙◌, ◌≡◌, refl}
use native.Mathlib.Numerals.{add-one, sub-one}
use native.Mathlib.Omega.{arith}
use Rattle.std.specs.Prelude.{Option, Some}
use Rattle.rules.specs.Step.{content_of}
use Rattle.printed.specs.Printed.{Page, answer_line, page, placed_next, put_lines, put_next}
use Rattle.printed.specs.declared.Field.TheVariants.{Counts}
use Rattle.printed.specs.declared.Printed.{Printed}
use Rattle.printed.specs.declared.Printed.TheVariants.{Two}
use Rattle.printed.specs.declared.Word.TheVariants.{Refused}
use Rattle.reported.specs.Report.{heading, rank_lines, refused_lines}
use Rattle.state.specs.declared.Machine.{Machine}
use Rattle.writes.specs.declared.Write.{Write}

pub put_append : (b : Page) (xs ys : List Printed) → put_lines b (xs ++ ys) ≡ put_lines (put_lines b xs) ys
unfolding put_lines
put_append b [] ys = refl
put_append b (x ∷ xs) ys = put_append (page (put_next b.buffer b.upto x) (placed_next b.buffer b.upto x)) xs ys

-- one line put, and the lines after it
pub put_more : (l : List ℕ) (u : Option ℕ) (x : Printed) (xs : List Printed) {m : List ℕ} {w : Option ℕ}
    → (w ≡ put_next l u x) × (m ≡ placed_next l u x) → put_lines (page w m) xs ≡ put_lines (page u l) (x ∷ xs)
unfolding put_lines
put_more l u x xs e = λ i. put_lines (page (e.0 i) (e.1 i)) xs

pub put_one : (l : List ℕ) (u : Option ℕ) (x : Printed) {m : List ℕ} {w : Option ℕ}
    → (w ≡ put_next l u x) × (m ≡ placed_next l u x) → page w m ≡ put_lines (page u l) (x ∷ [])
unfolding put_lines
put_one l u x e = λ i. page (e.0 i) (e.1 i)

pub rank_end : (m : Machine) (ws : List Write) (n k : ℕ) → n ≡ 0 → rank_lines m ws n k ≡ []
unfolding rank_lines
rank_end m ws n k e = rw e

pub rank_more : (m : Machine) (ws : List Write) (n k : ℕ) → 0 < n
    → rank_lines m ws n k ≡ answer_line k (content_of m ws k) ∷ rank_lines m ws (n - 1) (k + 1)
unfolding rank_lines
rank_more m ws zero k h = absurd (omega arith)
rank_more m ws (suc n) k h = rw (add-one k, sub-one)

-- a run that a step ended
pub refused_two : (l : List ℕ) (u : Option ℕ) (taken n : ℕ) {m k : List ℕ} {w v : Option ℕ}
    → (w ≡ put_next l u (heading Refused 1)) × (m ≡ placed_next l u (heading Refused 1))
    → (v ≡ put_next m w (Two (Counts (taken + 1)) (Counts n))) × (k ≡ placed_next m w (Two (Counts (taken + 1)) (Counts n)))
    → page v k ≡ put_lines (page u l) (refused_lines taken (Some n))
unfolding refused_lines
refused_two l u taken n {m} {k} {w} {v} p q =
    put_one m w (Two (Counts (taken + 1)) (Counts n)) q ∙ put_more l u (heading Refused 1) _ p

-- so many ranks, from one on
pub ranks_at : (b : Page) (m : Machine) (ws : List Write) {n k i j : ℕ} → n ≡ i → k ≡ j
    → put_lines b (rank_lines m ws n k) ≡ put_lines b (rank_lines m ws i j)
ranks_at b m ws e f = λ t. put_lines b (rank_lines m ws (e t) (f t))

-- one rank of them more
pub ranks_next : (m : Machine) (ws : List Write) (first count i : ℕ) (u : Option ℕ) (l : List ℕ) {w : Option ℕ} {k : List ℕ} → i < count
    → let x = answer_line (first + i) (content_of m ws (first + i)) in (w ≡ put_next l u x) × (k ≡ placed_next l u x)
    → put_lines (page w k) (rank_lines m ws (count - (i + 1)) (first + (i + 1)))
    ≡ put_lines (page u l) (rank_lines m ws (count - i) (first + i))
ranks_next m ws first count i u l {w} {k} h p =
    ranks_at (page w k) m ws {i = count - i - 1} {j = first + i + 1} (omega arith) (omega arith)
    ∙ put_more l u _ _ p
    ∙ rw (← rank_more m ws (count - i) (first + i) (let some : 0 < count - i = omega arith in some))
