use mathlib.Core.Path.{sym, ◌∙◌}
use native.Mathlib.Omega.{arith}
use borrow.Author.Tests.{lt-leb}
use Rattle.number.proofs.Stores.{room_rest, room_none}
use Rattle.number.proofs.has_room.Goals as goal

pub returns-then-at-buf : goal.returns-then-at-buf
returns-then-at-buf c = room_rest _ _ _ c.if-at-buf.true

pub returns-else-at-buf : goal.returns-else-at-buf
returns-else-at-buf c = lt-leb _ _ (omega arith) ∙ sym (room_none c.args.buf.now _ _ (omega arith))
