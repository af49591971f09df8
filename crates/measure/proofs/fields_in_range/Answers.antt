use mathlib.Core.Path.{◌≡◌, ◌∙◌}
use mathlib.Core.Bool.{◌&&◌, and_assoc}
use Rattle.form.specs.Line.{fields_in_range}
use Rattle.form.specs.Range.{in_range}
use Rattle.form.specs.Table.{kind_a, kind_b}
use Rattle.measure.proofs.Widths.{and_taken, and_untaken}
use Rattle.measure.proofs.fields_in_range.Goals as goal
use Rattle.measure.proofs.fields_in_range.Goals.{Joined-in_range, Joined-in_range-2, then-in_range, else-in_range, then-in_range-2, else-in_range-2}

-- the tests up to the first operand, and up to the second
upto-a : (c : Joined-in_range) → c.if-in_range.value ≡ (in_range c.args.lead c.args.f.lead && in_range (kind_a c.args.f.form) c.args.f.a)
upto-a c = elim c.if-in_range.branch [
  | then-in_range w ↦ w.value-is ∙ and_taken c.in_range.ensures w.if-in_range.true (rw c.form_at-row.ensures at w.in_range-then-in_range.ensures)
  | else-in_range w ↦ w.value-is ∙ and_untaken _ c.in_range.ensures w.if-in_range.false
]

upto-b : (c : Joined-in_range-2) → c.if-in_range.value ≡ (in_range c.args.lead c.args.f.lead && in_range (kind_a c.args.f.form) c.args.f.a) →
    c.if-in_range-2.value ≡ (in_range c.args.lead c.args.f.lead && in_range (kind_a c.args.f.form) c.args.f.a && in_range (kind_b c.args.f.form) c.args.f.b)
upto-b c a = elim c.if-in_range-2.branch [
  | then-in_range-2 w ↦ w.value-is ∙ and_taken a w.if-in_range-2.true (rw c.form_at-row.ensures at w.in_range-then-in_range-2.ensures)
  | else-in_range-2 w ↦ w.value-is ∙ and_untaken _ a w.if-in_range-2.false
]

pub returns-then-in_range-3 : goal.returns-then-in_range-3
unfolding fields_in_range
returns-then-in_range-3 c =
    let at = goal.at.returns-then-in_range-3 c in
    rw (← and_assoc, ← and_assoc) (and_taken (upto-b at.Joined-in_range-2 (upto-a at.Joined-in_range)) c.if-in_range-3.true (rw c.form_at-row.ensures at c.in_range-then-in_range-3.ensures))

pub returns-else-in_range-3 : goal.returns-else-in_range-3
unfolding fields_in_range
returns-else-in_range-3 c =
    let at = goal.at.returns-else-in_range-3 c in
    rw (← and_assoc, ← and_assoc) (and_untaken _ (upto-b at.Joined-in_range-2 (upto-a at.Joined-in_range)) c.if-in_range-3.false)
