use mathlib.Core.Path.{◌≡◌, sym, ap, ◌∙◌}
use lib.ListN.{length}
use Rattle.std.specs.Prelude.{Ok}
use Rattle.form.specs.Line.{line_in_range}
use Rattle.form.specs.Text.{fields_text, line_text}
use Rattle.number.proofs.Stores.{room_yes}
use Rattle.number.specs.Buffer.{room, placed}
use Rattle.writer.specs.Writer.{line_written, line_placed}
use Rattle.writer.proofs.put_line.Goals as goal
use Rattle.writer.proofs.put_line.Goals.{After-fields_in_range, After-fields_of-f, After-has_room}

-- the tests and the text of the line's numbers are those of the line
ranged : (c : After-fields_in_range) → c.fields_in_range.result ≡ line_in_range c.args.line
unfolding line_in_range
ranged c =
    c.fields_in_range.ensures ∙ rw (c.lead_kind-lead.ensures, c.due_of.ensures, c.fields_of-f.ensures)

text : (c : After-fields_of-f) → fields_text c.lead_kind-lead.result c.fields_of-f.result ≡ line_text c.args.line
unfolding line_text
text c = rw (c.lead_kind-lead.ensures, c.due_of.ensures, c.fields_of-f.ensures)

roomy : (c : After-has_room) → fields_text c.lead_kind-lead.result c.fields_of-f.result ≡ line_text c.args.line
    → c.has_room.result ≡ room c.args.buf.now c.args.at (length (line_text c.args.line))
roomy c t = c.has_room.ensures ∙ rw (c.fields_width.ensures, t)

pub returns-then-not-fields_in_range : goal.returns-then-not-fields_in_range
unfolding line_written line_placed
returns-then-not-fields_in_range c =
    let at = goal.at.returns-then-not-fields_in_range c in
    let e = sym (ranged at.After-fields_in_range) ∙ c.if-not-fields_in_range.true in (simp e, simp e)

pub returns-then-not-has_room : goal.returns-then-not-has_room
unfolding line_written line_placed placed
returns-then-not-has_room c =
    let at = goal.at.returns-then-not-has_room c in
    let e = sym (ranged at.After-fields_in_range) ∙ c.if-not-fields_in_range.false in
    let n = sym (roomy at.After-has_room (text at.After-fields_of-f)) ∙ c.if-not-has_room.true in
    (simp (e, n), simp (e, n))

pub write_fields-requires : goal.write_fields-requires
write_fields-requires c =
    let at = goal.at.write_fields-requires c in
    let t = text at.After-fields_of-f in
    rw t (room_yes _ _ _ (sym (roomy at.After-has_room t) ∙ c.if-not-has_room.false))

pub returns : goal.returns
unfolding line_written line_placed placed
returns c =
    let at = goal.at.returns c in
    let t = text at.After-fields_of-f in
    let w = rw t at c.write_fields.ensures in
    let e = sym (ranged at.After-fields_in_range) ∙ c.if-not-fields_in_range.false in
    let y = sym (roomy at.After-has_room t) ∙ c.if-not-has_room.false in
    (simp (e, y) (ap Ok w.next), simp (e, y) w.list)
