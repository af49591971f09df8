use mathlib.Core.Path.{◌≡◌, sym, ◌∙◌}
use mathlib.Core.Bool.{true}
use lib.ListN.{length}
use Rattle.number.proofs.Stores.{room_yes, put_done, put_short}
use Rattle.number.specs.Buffer.{room}
use Rattle.number.specs.Text.{number_text}
use Rattle.number.proofs.put_number.Goals as goal
use Rattle.number.proofs.put_number.Goals.{Then-has_room}

-- where the test was passed, the text has room
roomy : (c : Then-has_room) → room c.args.buf.now c.args.at
    (length (number_text c.args.v)) ≡ true
roomy c = rw (← c.number_width.ensures) (sym c.has_room.ensures ∙ c.if-has_room.true)

pub write_number-requires : goal.write_number-requires
write_number-requires c = room_yes _ _ _ (roomy (goal.at.write_number-requires c).Then-has_room)

pub returns-then-has_room : goal.returns-then-has_room
returns-then-has_room c = put_done (roomy (goal.at.returns-then-has_room c).Then-has_room) c.write_number.ensures

pub returns-else-has_room : goal.returns-else-has_room
returns-else-has_room c =
    put_short _ _ _ (rw (← c.number_width.ensures) (sym c.has_room.ensures ∙ c.if-has_room.false))
