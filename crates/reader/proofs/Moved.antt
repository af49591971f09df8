-- What was read, by what the reader gives and where it stands afterwards. Assumes nothing.
use Prim.Native.Nat.{ℕ}
use mathlib.Core.Path.{◌≡◌, sym, ap}
use native.Mathlib.Omega.{arith}
use Rattle.std.specs.Prelude.{Result, Ok, Err}
use Rattle.digits.specs.declared.Read.{Read}
use Rattle.fault.specs.declared.Refusal.{Refusal}
use Rattle.form.specs.declared.Line.{Line}
use Rattle.reader.specs.Moved.{said_of, place_after}

-- a line was given
pub given : (x : Result (Read Line) Refusal) (at : ℕ) {l : Line} {p : ℕ} → Ok l ≡ said_of x → p ≡ place_after at x
    → x ≡ Ok (record { value = l; next = p })
given (Ok y) at e q = let v : y.value ≡ _ = cc in λ i. Ok (record { value = v i; next = sym q i })
given (Err r) at e q = let z : ◌≡◌ {A = ℕ} 0 1 = cc in absurd (omega arith)

-- the text was refused
pub refused : (x : Result (Read Line) Refusal) {r : Refusal} → Err r ≡ said_of x → x ≡ Err r
refused (Ok y) e = let z : ◌≡◌ {A = ℕ} 0 1 = cc in absurd (omega arith)
refused (Err q) e = let v : q ≡ _ = cc in ap Err v
