use mathlib.Core.Path.{refl, sym, ◌∙◌}
use native.Mathlib.Numerals.{add-one}
use lib.Seq.{set_out}
use Rattle.std.proofs.Common.{rules}
use Rattle.laws.proofs.Lists.{filled_length}
use Rattle.laws.specs.Lists.{filled}
use Rattle.laws.proofs.filled.Goals as goal
use Rattle.laws.proofs.filled.Goals.{then-i, else-i}

pub loop-i-init : goal.loop-i-init
unfolding filled
loop-i-init g c = λ h p. refl

pub loop-i-preserved : goal.loop-i-preserved
unfolding filled
loop-i-preserved g c = λ h p. elim c.if-i.branch [
  | then-i w ↦ w.next-is ∙ rw (add-one, c.loop-i.invariant h p, p _ _ c.loop-i-test.true w.f.ensures) refl
  | else-i w ↦ w.next-is ∙ rw (add-one) (c.loop-i.invariant h p ∙ sym (set_out _ _ _ (rw (filled_length h c.loop-i.i c.args.room) (search (rules, w.if-i.false)))))
]
