use mathlib.Core.Path.{◌≡◌, refl, ◌∙◌}
use native.Mathlib.Numerals.{add-one}
use native.Mathlib.Omega.{arith}
use lib.ListN.{length}
use lib.Seq.{take-length}
use Rattle.number.proofs.Stores.{copy_step}
use Rattle.number.proofs.write_bytes.Goals as goal

pub loop-i-init : goal.loop-i-init
loop-i-init c = refl

pub loop-i-preserved : goal.loop-i-preserved
loop-i-preserved c =
    rw (add-one, ← copy_step c.args.buf.now c.args.t.now c.args.at c.loop-i.i c.loop-i-test.true, ← c.loop-i.invariant) refl

pub returns : goal.returns
returns c =
    let e : c.loop-i.i ≡ length c.args.t.now = omega (arith, c.loop-i-test.false, c.loop-i.auto.i-end) in
    record { next = refl; list = c.loop-i.invariant ∙ rw (e, take-length c.args.t.now) }
