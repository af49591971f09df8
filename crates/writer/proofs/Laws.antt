-- A text written where it has room. Assumes nothing.
use mathlib.Core.Path.{◌≡◌, refl, ◌∙◌}
use mathlib.Core.List.{List, [], ◌++◌}
use Prim.Native.Nat.{ℕ, ◌+◌, ◌≤◌}
use native.Mathlib.Omega.{arith}
use borrow.Author.Tests.{le-leb}
use lib.ListN.{length, length-append}
use Rattle.std.specs.Prelude.{Option, unwrap_or}
use Rattle.number.proofs.Stores.{placed_fits, wrote_length, wrote_then}
use Rattle.number.specs.Buffer.{room, placed, put_at, Wrote}

pub wrote_none : (l : List ℕ) (at : ℕ) → Wrote l at [] at l
wrote_none l at = record { next = omega arith; list = refl }

-- a text that has room was written by `put_..`
pub wrote_of : {l m : List ℕ} {at r : ℕ} {t : List ℕ} {w : Option ℕ}
    → at + length t ≤ length l → (w ≡ put_at l at t) × (m ≡ placed l at t) → r ≡ unwrap_or w at → Wrote l at t r m
unfolding put_at room
wrote_of {l} {m} {at} {r} {t} h p e =
    record {
      next = e ∙ rw (p.0, le-leb _ _ h);
      list = p.1 ∙ placed_fits l at t h;
    }

-- and one text after another, where both have room
pub wrote_two : (a b : List ℕ) {l m k : List ℕ} {at p r : ℕ} {w u : Option ℕ}
    → at + length (a ++ b) ≤ length l → (w ≡ put_at l at a) × (m ≡ placed l at a) → p ≡ unwrap_or w at
    → (u ≡ put_at m p b) × (k ≡ placed m p b) → r ≡ unwrap_or u p → Wrote l at (a ++ b) r k
wrote_two a b {l} {m} {k} {at} {p} {r} h x e y f =
    let more = length-append a b in
    let first = wrote_of (omega (arith, more)) x e in
    wrote_then first (wrote_of (omega (arith, more, wrote_length first, first.next)) y f)
