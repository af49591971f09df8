use mathlib.Core.Path.{sym, ◌∙◌}
use Rattle.number.proofs.Stores.{room_yes, put_done, put_short}
use Rattle.number.proofs.put_bytes.Goals as goal

pub write_bytes-requires : goal.write_bytes-requires
write_bytes-requires c = room_yes _ _ _ (sym c.has_room.ensures ∙ c.if-has_room.true)

pub returns-then-has_room : goal.returns-then-has_room
returns-then-has_room c = put_done (sym c.has_room.ensures ∙ c.if-has_room.true) c.write_bytes.ensures

pub returns-else-has_room : goal.returns-else-has_room
returns-else-has_room c = put_short _ _ _ (sym c.has_room.ensures ∙ c.if-has_room.false)
