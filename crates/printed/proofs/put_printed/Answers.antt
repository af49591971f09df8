use lib.ListN.{length}
use mathlib.Core.Bool.{true}
use mathlib.Core.Path.{◌∙◌, ◌≡◌, sym}
use Rattle.number.proofs.Stores.{put_done, put_short, room_yes}
use Rattle.number.specs.Buffer.{room}
use Rattle.printed.specs.Printed.{printed_text}
use Rattle.printed.proofs.put_printed.Goals as goal
use Rattle.printed.proofs.put_printed.Goals.{Then-has_room}

roomy : (c : Then-has_room) → room c.args.buf.now c.args.at (length (printed_text c.args.line)) ≡ true
roomy c = rw (← c.printed_width.ensures) (sym c.has_room.ensures ∙ c.if-has_room.true)

pub write_printed-requires : goal.write_printed-requires
write_printed-requires c = room_yes _ _ _ (roomy (goal.at.write_printed-requires c).Then-has_room)

pub returns-then-has_room : goal.returns-then-has_room
returns-then-has_room c = put_done (roomy (goal.at.returns-then-has_room c).Then-has_room) c.write_printed.ensures

pub returns-else-has_room : goal.returns-else-has_room
returns-else-has_room c = put_short _ _ _ (rw (← c.printed_width.ensures) (sym c.has_room.ensures ∙ c.if-has_room.false))
