-- Any two results that a public contract allows are equal, and so is the reader afterwards. Assumes nothing.
use mathlib.Core.Path.{◌≡◌}
use mathlib.Core.List.{List}
use Prim.Native.Nat.{ℕ}
use denote.Ref.{Bor}
use Rattle.laws.proofs.Determined.{determined, OneResult}
use Rattle.reader.specs.declared.Reader.{Reader}
use Rattle.reader.proofs.Reader.on.Reads as on
use Rattle.reader.proofs.Reader.next_line.Reads as next_line
use Rattle.reader.proofs.Reader.fault.Reads as fault
use Rattle.reader.proofs.line_of.Reads as line_of
use Rattle.reader.proofs.fault_of.Reads as fault_of

-- a reader is its text and its place
abbrev at_place : Bor (List ℕ) → ℕ → Reader
at_place s n = record { text = s; at = n }

pub is_at : (s : Bor (List ℕ)) (n : ℕ) (r : Reader) → (r.text ≡ s) × (r.at ≡ n) → r ≡ at_place s n
is_at s n r e = λ i. record { text = e.0 i; at = e.1 i }

pub on-determined : OneResult on.Post
on-determined κs a x y e f p q = determined (is_at _ _ x p) (is_at _ _ y q)

pub next_line-determined : (κs : _) (a : _) (x y : _) (e f : _)
    → next_line.Post κs a x e → next_line.Post κs a y f → (x ≡ y) × (e.0.now ≡ f.0.now)
next_line-determined κs a x y e f p q =
    (determined p.0 q.0, determined (is_at _ _ e.0.now (p.1.1, p.1.0)) (is_at _ _ f.0.now (q.1.1, q.1.0)))

pub fault-determined : (κs : _) (a : _) (x y : _) (e f : _) → fault.Post κs a x e → fault.Post κs a y f → x.now ≡ y.now
fault-determined κs a x y e f = determined

pub line_of-determined : OneResult line_of.Post
line_of-determined κs a x y e f = determined

pub fault_of-determined : (κs : _) (a : _) (x y : _) (e f : _) → fault_of.Post κs a x e → fault_of.Post κs a y f → x.now ≡ y.now
fault_of-determined κs a x y e f = determined
