use mathlib.Core.Path.{◌≡◌}
use Prim.Native.Nat.{◌+◌, ◌*◌}
use lib.ListN.{length}
use Rattle.image.specs.Image.{in_turn, thread_words}
use Rattle.number.specs.Buffer.{Wrote}
use Rattle.words.proofs.write_threads.Given as goal

abbrev pub invariant-loop-i : goal.invariant-loop-i
invariant-loop-i l =
    (l.q ≡ l.p + 35 * l.i) × (length l.buf ≡ length l.initial.buf) × Wrote l.initial.buf l.p (in_turn (thread_words l.m) l.i) l.q l.buf
