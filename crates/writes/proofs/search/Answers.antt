use mathlib.Core.Path.{◌≡◌, refl, ap, ◌∙◌}
use Prim.Native.Nat.{suc, ◌+◌}
use native.Mathlib.Omega.{arith}
use Rattle.std.proofs.lemmas.List.{take_all, take_min}
use Rattle.writes.specs.Searched.{searched}
use Rattle.writes.proofs.Searched.{searched_more}
use Rattle.writes.proofs.search.Goals as goal

pub loop-w-init : goal.loop-w-init
unfolding searched
loop-w-init c = refl

pub loop-w-preserved : goal.loop-w-preserved
loop-w-preserved c =
    let e : c.loop-w.w-index + 1 ≡ suc c.loop-w.w-index = omega arith in
    rw e (cc (searched_more c.args.from _ _ c.loop-w-test.true))

pub returns : goal.returns
returns c =
    c.loop-w.invariant
    ∙ ap (searched c.args.from) (take_all _ _ c.loop-w-test.false ∙ rw c.min.ensures (take_min c.args.n c.args.ws.now))
