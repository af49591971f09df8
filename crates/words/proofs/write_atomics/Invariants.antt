use mathlib.Core.Path.{◌≡◌}
use Prim.Native.Nat.{ℕ, ◌+◌, ◌*◌}
use lib.ListN.{length}
use Rattle.number.specs.Buffer.{Wrote}
use Rattle.image.specs.Image.{in_turn, atomic_words}
use Rattle.state.specs.State.{atomic_at}
use Rattle.state.specs.declared.Name.{Name}
use Rattle.words.proofs.write_atomics.Given as goal

abbrev pub invariant-loop-i : goal.invariant-loop-i
invariant-loop-i g l =
    (l.q ≡ l.p + 33 * l.i) × (length l.buf ≡ length l.initial.buf)
    × ((h : ℕ → Name) → ((i : ℕ) (a : Name) → goal.F-post g l.name i a → a ≡ h i)
    → Wrote l.initial.buf l.p (in_turn (λ j. atomic_words (atomic_at l.m (h j))) l.i) l.q l.buf)
