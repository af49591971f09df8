use mathlib.Core.Path.{sym, ◌∙◌}
use Prim.Native.Nat.{◌+◌}
use native.Mathlib.Omega.{arith}
use borrow.Author.Tests.{lt-leb}
use lib.ListN.{length}
use Rattle.number.proofs.Stores.{put_short, placed_fits}
use Rattle.number.specs.Buffer.{room}
use Rattle.words.proofs.put_words.Goals as goal

pub returns-then-words-buf : goal.returns-then-words-buf
returns-then-words-buf c =
    c.write_words.ensures.list ∙ sym (placed_fits c.args.buf.now 0 c.args.words.now (omega arith))

pub returns-else-words-buf : goal.returns-else-words-buf
unfolding room
returns-else-words-buf c =
    (put_short c.args.buf.now 0 c.args.words.now (lt-leb (0 + length c.args.words.now) (length c.args.buf.now) (omega arith))).1
