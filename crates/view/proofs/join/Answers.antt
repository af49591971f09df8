use mathlib.Core.Path.{◌≡◌, refl, ap, ◌∙◌}
use native.Mathlib.Numerals.{add-one}
use native.Mathlib.Omega.{arith}
use borrow.Author.Rules.{rules}
use lib.ListN.{length}
use Rattle.view.specs.View.{view_of, join_to, joined}
use Rattle.view.proofs.Joined.{join_step, join_min}
use Rattle.view.proofs.join.Goals as goal

pub loop-i-init : goal.loop-i-init
unfolding join_to
loop-i-init c = refl

pub loop-i-preserved : goal.loop-i-preserved
loop-i-preserved c =
    let p : length c.args.a.at ≡ 32 = search rules in
    let q : length c.args.b.at ≡ 32 = search rules in
    rw add-one (cc (join_step c.loop-i.i c.args.a.at c.args.b.at (omega arith) (omega arith)))

pub returns : goal.returns
unfolding joined
returns c =
    let p : length c.args.a.at ≡ 32 = search rules in
    ap view_of (c.loop-i.invariant ∙ join_min c.args.k 32 _ _ _ p (omega (arith, c.min-i-end.ensures)))
