use mathlib.Core.Path.{◌≡◌, sym, ◌∙◌}
use mathlib.Core.Bool.{true}
use lib.ListN.{length}
use Rattle.number.proofs.Stores.{room_yes, put_done, put_short}
use Rattle.number.specs.Buffer.{room}
use Rattle.number.specs.Text.{weight_text}
use Rattle.number.proofs.put_weight.Goals as goal
use Rattle.number.proofs.put_weight.Goals.{Then-has_room}

-- where the test was passed, the text has room
roomy : (c : Then-has_room) → room c.args.buf.now c.args.at
    (length (weight_text c.args.v)) ≡ true
roomy c = rw (← c.weight_width.ensures) (sym c.has_room.ensures ∙ c.if-has_room.true)

pub write_weight-requires : goal.write_weight-requires
write_weight-requires c = room_yes _ _ _ (roomy (goal.at.write_weight-requires c).Then-has_room)

pub returns-then-has_room : goal.returns-then-has_room
returns-then-has_room c = put_done (roomy (goal.at.returns-then-has_room c).Then-has_room) c.write_weight.ensures

pub returns-else-has_room : goal.returns-else-has_room
returns-else-has_room c =
    put_short _ _ _ (rw (← c.weight_width.ensures) (sym c.has_room.ensures ∙ c.if-has_room.false))
