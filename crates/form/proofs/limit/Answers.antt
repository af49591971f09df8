use mathlib.Core.Path.{◌≡◌, sym}
use Rattle.form.proofs.Range.{ends, limited_inside, limited_below, limited_above}
use Rattle.form.proofs.limit.Goals as goal
use Rattle.form.proofs.limit.Goals.{Joined-kind, in-Nothing, in-Count, in-Thousandths, else-low-v-via-then-low-v+else-v-high, else-low-v-via-else-low-v}

ends_are : (c : Joined-kind) → c.match-kind.low ≡ ends c.args.kind
ends_are c = elim c.match-kind.branch [
  | in-Nothing w ↦ rw (w.low-is, w.in-Nothing.is)
  | in-Count w ↦ rw (w.low-is, w.in-Count.is)
  | in-Thousandths w ↦ rw (w.low-is, w.in-Thousandths.is)
]

pub returns-then-v-high : goal.returns-then-v-high
returns-then-v-high c =
    let e = ends_are (goal.at.returns-then-v-high c).Joined-kind in
    sym (limited_inside _ _ (rw e at c.if-low-v.true) (rw e at c.if-v-high.true))

pub returns-else-low-v : goal.returns-else-low-v
returns-else-low-v c =
    let e = ends_are (goal.at.returns-else-low-v c).Joined-kind in
    elim c.else-low-v.branch [
      | else-low-v-via-then-low-v+else-v-high w ↦ sym (limited_above _ _ (rw e at w.if-low-v.true) (rw e at w.if-v-high.false))
      | else-low-v-via-else-low-v w ↦ sym (limited_below _ _ (rw e at w.if-low-v.false))
    ]
