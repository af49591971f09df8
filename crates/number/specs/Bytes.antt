-- The bytes of a text in ASCII, and a text that stands at a place of another. Assumes nothing.
use Rattle.std.specs.Prelude.{ℕ, ◌+◌, ◌≡◌, List, [], ◌∷◌, length, get_or}
use Prim.Native.Char.{code}
use Prim.Native.String.{String}
use Prim.Native.String as text

abbrev pub bytes : String → List ℕ
bytes text.[] = []
bytes (text.◌∷◌ c s) = code c ∷ bytes s

-- the text t stands in s at a place, byte by byte
abbrev pub Stands : List ℕ → ℕ → List ℕ → Type 0
Stands s at [] = Unit {0}
Stands s at (b ∷ t) = (get_or s at 0 ≡ b) × Stands s (at + 1) t

-- a text that stands at a place, and the place after it
pub record Here (s : List ℕ) (at : ℕ) (t : List ℕ) (p : ℕ) : Type 0 where
  pub stands : Stands s at t
  pub next : p ≡ at + length t
