-- Laws of words written one after another. Assumes nothing.
use mathlib.Core.Path.{◌≡◌, refl, sym, ◌∙◌}
use mathlib.Core.List.{List, append-nil}
use Prim.Native.Nat.{ℕ, ◌+◌}
use native.Mathlib.Nat.{add-zero, zero-add}
use native.Mathlib.Numerals.{add-one}
use native.Mathlib.Omega.{arith}
use lib.ListN.{length}
use lib.Seq.{drop-length, sets-eq}
use Rattle.number.proofs.Stores.{wrote_then}
use Rattle.number.specs.Buffer.{Wrote}
use Rattle.image.specs.Image.{in_turn}

-- what is written over the whole of a list
pub all_written : {l t m : List ℕ} {r : ℕ} → Wrote l 0 t r m → r ≡ length l → m ≡ t
all_written {l} {t} w e =
    let h : length t ≡ length l = omega (arith, w.next) in
    w.list ∙ sets-eq t l 0 (omega arith) ∙ simp (zero-add, h, drop-length) (append-nil t)

-- the words of one entry more
pub turn : {l k j t : List ℕ} {p q r : ℕ} (f : ℕ → List ℕ) (i : ℕ) → Wrote l p (in_turn f i) q k → Wrote k q t r j → t ≡ f i → Wrote l p (in_turn f (i + 1)) r j
unfolding in_turn
turn f i x y e = rw (add-one, ← e) (wrote_then x y)

pub no_turn : (f : ℕ → List ℕ) (l : List ℕ) (p : ℕ) → Wrote l p (in_turn f 0) p l
unfolding in_turn
no_turn f l p = record { next = sym (add-zero p); list = refl }
