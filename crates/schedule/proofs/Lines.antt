-- Lines that are read one after the other. Assumes nothing.
use Prim.Native.Nat.{ℕ, suc, ◌+◌, ◌-◌, ◌<◌, ◌≤◌}
use lib.Dec.{ltb}
use lib.ListN.{length, get_or, drop, drop_of_length-le}
use lib.Seq.{drop-cons}
use mathlib.Core.Bool.{cond}
use mathlib.Core.List.{List}
use mathlib.Core.Path.{◌≡◌, refl}
use native.Mathlib.Numerals.{add-one}
use native.Mathlib.Omega.{arith}
use Rattle.digits.specs.Reading.{◌>>=◌}
use Rattle.std.specs.Prelude.{Result, Ok, Err}
use Rattle.digits.specs.declared.Read.{Read}
use Rattle.fault.specs.declared.Refusal.{Refusal}
use Rattle.fault.specs.declared.Refusal.TheVariants.{Extra}
use Rattle.form.specs.declared.Due.{Due}
use Rattle.form.specs.declared.Due.TheVariants.{HeaderDue}
use Rattle.form.specs.declared.Header.{Header}
use Rattle.form.specs.declared.Header.TheVariants.{Shape}
use Rattle.form.specs.declared.Line.{Line}
use Rattle.line.specs.Row.{read_line}
use Rattle.schedule.specs.Sections.{count_in, lines_past, lines_under, line_due, noted, headers, through}
use Rattle.schedule.specs.declared.Sections.{Sections}

-- of n lines k were read, and another is due
pub one_more : (n k : ℕ) (d : Due) (s : List ℕ) (at : ℕ) {x : Result (Read Line) Refusal} → k < n → read_line d s at ≡ x
    → lines_past (n - k) d s at ≡ (x >>= λ l. lines_past (n - (k + 1)) d s l.next)
unfolding lines_past
one_more n k d s at h e =
    let left : n - k ≡ suc (n - (k + 1)) = omega arith in
    rw (left, e) refl

-- all were read
pub all_read : (n k : ℕ) (d : Due) (s : List ℕ) (at : ℕ) → n ≡ k → lines_past (n - k) d s at ≡ Ok at
unfolding lines_past
all_read n k d s at e = let none : n - k ≡ 0 = omega arith in rw none refl

-- the header line that is due where k of them were read, and what follows it
pub header_due : (k : ℕ) (s : List ℕ) (at : ℕ) (f : Sections) {h : Header} {x : Result (Read Line) Refusal} → k < length headers
    → h ≡ get_or headers k Shape → read_line (HeaderDue h) s at ≡ x
    → through (drop k headers) s at f
    ≡ (x >>= λ l. lines_past (lines_under h (count_in l.value)) (line_due h) s l.next
    >>= λ p. through (drop (k + 1) headers) s p (noted h (count_in l.value) l.next f))
unfolding through
header_due k s at f l e x = rw (← x, e, drop-cons headers k Shape l, add-one k) refl

-- no header line is left
pub none_due : (k : ℕ) (s : List ℕ) (at : ℕ) (f : Sections) → length headers ≤ k
    → through (drop k headers) s at f ≡ cond (ltb at (length s)) (Err (Extra at)) (Ok f)
unfolding through
none_due k s at f l = rw (drop_of_length-le headers {i = k} l) refl
