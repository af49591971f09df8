use Prim.Native.Nat.{◌+◌, ◌≤◌}
use native.Mathlib.Omega.{arith}
use lib.ListN.{length}
use Rattle.form.specs.Text.{operand_text, word_text, form_text}
use Rattle.number.proofs.Stores.{wrote_then}
use Rattle.measure.proofs.Widths.{length_form}
use Rattle.writer.proofs.Laws.{wrote_of}
use Rattle.writer.proofs.write_form.Goals as goal
use Rattle.writer.proofs.write_form.Goals.{After-form_at-row}

-- the room, part by part of the row that was looked up
roomy : (c : After-form_at-row) → c.args.at + (length (word_text c.form_at-row.result.0) + (length (operand_text c.form_at-row.result.1 c.args.a) + (length (operand_text c.form_at-row.result.2 c.args.b) + (length (operand_text c.form_at-row.result.3 c.args.c) + 1))))
    ≤ length c.args.buf.now
roomy c = rw c.form_at-row.ensures (rw length_form at c.requires)

pub write_word-p-requires : goal.write_word-p-requires
write_word-p-requires c = omega (arith, roomy (goal.at.write_word-p-requires c).After-form_at-row)

pub write_operand-q-requires : goal.write_operand-q-requires
write_operand-q-requires c = omega (arith, roomy (goal.at.write_operand-q-requires c).After-form_at-row)

pub write_operand-r-requires : goal.write_operand-r-requires
write_operand-r-requires c = omega (arith, roomy (goal.at.write_operand-r-requires c).After-form_at-row)

pub write_operand-s-requires : goal.write_operand-s-requires
write_operand-s-requires c =
    omega (arith, roomy (goal.at.write_operand-s-requires c).After-form_at-row, c.write_word-p, c.write_operand-q, c.write_operand-r)

pub returns : goal.returns
unfolding form_text
returns c =
    let room = roomy (goal.at.returns c).After-form_at-row in
    let last =
    wrote_of (omega (arith, room, c.write_word-p, c.write_operand-q, c.write_operand-r, c.write_operand-s))
    c.put_byte.ensures c.unwrap_or.ensures in
    wrote_then (rw c.form_at-row.ensures at c.write_word-p.ensures)
    (wrote_then (rw c.form_at-row.ensures at c.write_operand-q.ensures)
    (wrote_then (rw c.form_at-row.ensures at c.write_operand-r.ensures)
    (wrote_then (rw c.form_at-row.ensures at c.write_operand-s.ensures) last)))
