-- The lines of a section, one at a time, and the numbers of a room. Assumes nothing.
use Prim.Native.Nat.{◌+◌, ◌-◌, ◌<◌, ◌≤◌, min, suc, zero, ℕ}
use lib.ListN.{drop, length, set, take}
use lib.Seq.{sets, sets-eq, take-append_seam}
use mathlib.Core.List.{List, [], ◌∷◌, map}
use mathlib.Core.Path.{◌≡◌, ap, refl}
use native.Mathlib.Nat.{min-zero, suc-min-suc, zero-min}
use native.Mathlib.Numerals.{add-one}
use native.Mathlib.Omega.{arith}
use Rattle.form.specs.declared.Due.{Due}
use Rattle.form.specs.declared.Due.TheVariants.{WeightDue}
use Rattle.form.specs.declared.Line.{Line}
use Rattle.line.specs.Row.{read_line}
use Rattle.digits.specs.declared.Read.{Read}
use Rattle.fault.specs.declared.Refusal.{Refusal}
use Rattle.std.specs.Prelude.{Result, Ok, Err}
use Rattle.number.specs.Buffer.{Wrote}
use Rattle.schedule.specs.declared.Section.{Section}
use Rattle.texts.specs.Schedule.{also, lines_from, weight_in, weights_at}

pub from_end : (n : ℕ) (d : Due) (s : List ℕ) (at : ℕ) → n ≡ 0 → lines_from n d s at ≡ []
unfolding lines_from
from_end n d s at e = rw e

pub from_line : (n k : ℕ) (d : Due) (s : List ℕ) (at : ℕ) (r : Result (Read Line) Refusal) → k < n → read_line d s at ≡ r
    → lines_from (n - k) d s at ≡ also r (λ p. lines_from (n - (k + 1)) d s p)
unfolding lines_from
from_line n k d s at r h e = let more : n - k ≡ suc (n - (k + 1)) = omega arith in rw (more, e)

also_cut : (r : Result (Read Line) Refusal) (f g : ℕ → List Line) (k : ℕ) → ((p : ℕ) → map weight_in (f p) ≡ take k (map weight_in (g p)))
    → map weight_in (also r f) ≡ take (suc k) (map weight_in (also r g))
also_cut (Ok y) f g k h = ap (λ (xs : List ℕ). weight_in y.value ∷ xs) (h y.next)
also_cut (Err r) f g k h = refl

lines_cut : (n k : ℕ) (s : List ℕ) (at : ℕ)
    → map weight_in (lines_from (min n k) WeightDue s at) ≡ take k (map weight_in (lines_from n WeightDue s at))
unfolding lines_from
lines_cut zero zero s at = refl
lines_cut zero (suc k) s at = rw (zero-min (suc k))
lines_cut (suc n) zero s at = rw (min-zero (suc n))
lines_cut (suc n) (suc k) s at = rw (suc-min-suc n k) (also_cut (read_line WeightDue s at) _ _ k (λ p. lines_cut n k s p))

-- the first lines of a section hold its first weights
pub cut : (s : List ℕ) (x y : Section) (k : ℕ) → (y.count ≡ min x.count k) × (y.at ≡ x.at) → weights_at s y ≡ take k (weights_at s x)
cut s x y k e = rw (e.0, e.1) (lines_cut x.count k s x.at)

also_few : (r : Result (Read Line) Refusal) (f : ℕ → List Line) (n : ℕ) → ((p : ℕ) → length (map weight_in (f p)) ≤ n)
    → length (map weight_in (also r f)) ≤ suc n
also_few (Ok y) f n h = omega (arith, h y.next)
also_few (Err r) f n h = omega arith

-- a section holds no more weights than it has lines
pub few : (n : ℕ) (s : List ℕ) (at : ℕ) → length (map weight_in (lines_from n WeightDue s at)) ≤ n
unfolding lines_from
few zero s at = omega arith
few (suc n) s at = also_few (read_line WeightDue s at) _ n (λ p. few n s p)

-- what was put at the front of a room is taken from it
pub front : {l m ws : List ℕ} {n : ℕ} → Wrote l 0 ws n m → length ws ≤ length l → take n m ≡ ws
front {l} {ws = ws} {n = n} w h =
    let e : n ≡ length ws = omega (arith, w.next) in
    rw (e, w.list, sets-eq ws l 0 (omega arith)) (take-append_seam ws (drop (0 + length ws) l))

-- a number stored, and those after it
pub stored : (room : List ℕ) (n v : ℕ) (vs : List ℕ) → sets (set room n v) (n + 1) vs ≡ sets room n (v ∷ vs)
stored room n v vs = rw (add-one n)
