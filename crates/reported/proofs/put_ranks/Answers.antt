use Prim.Native.Nat.{◌-◌}
use mathlib.Core.Path.{◌∙◌}
use native.Mathlib.Omega.{arith}
use Rattle.printed.specs.Printed.{put_lines}
use Rattle.reported.proofs.Page.{rank_end, ranks_at, ranks_next}
use Rattle.reported.proofs.put_ranks.Goals as goal

pub loop-i-init : goal.loop-i-init
loop-i-init c = ranks_at _ _ _ (omega arith) (omega arith)

pub loop-i-preserved : goal.loop-i-preserved
loop-i-preserved c =
    ranks_next _ _ c.args.m.tail.value c.args.count c.loop-i.i c.loop-i.w c.loop-i.out c.loop-i-test.true
    (rw (c.answer_line.ensures, c.content-a.ensures) at c.put_next-w.ensures)
    ∙ c.loop-i.invariant

pub returns : goal.returns
unfolding put_lines
returns c = rw (rank_end _ _ (c.args.count - c.loop-i.i) _ (omega arith)) at c.loop-i.invariant
