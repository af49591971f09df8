use mathlib.Core.Path.{refl, sym, ◌∙◌}
use native.Mathlib.Omega.{arith}
use Rattle.number.proofs.Decimal.{length_last}
use Rattle.number.proofs.Stores.{put_step, put_end}
use Rattle.number.proofs.write_last.Goals as goal

pub loop-i-preserved : goal.loop-i-preserved
loop-i-preserved c = put_step _ _ _ _ c.loop-i-test.true ∙ c.loop-i.invariant

pub returns : goal.returns
returns c =
    record {
      next = rw length_last refl;
      list = sym (put_end _ c.args.at _ _ (omega arith)) ∙ c.loop-i.invariant;
    }
