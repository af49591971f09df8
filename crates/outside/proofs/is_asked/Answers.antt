use mathlib.Core.Path.{sym}
use Prim.Native.Nat.{◌<◌, ◌≤◌}
use native.Mathlib.Omega.{arith}
use borrow.Author.Tests.{le-leb, lt-leb}
use lib.ListN.{length}
use Rattle.laws.proofs.Tests.{fails_left}
use Rattle.laws.specs.Tests.{◌and◌}
use Rattle.outside.specs.Asked.{is_asked}
use Rattle.outside.proofs.is_asked.Goals as goal

pub returns-then-s-lt5 : goal.returns-then-s-lt5
unfolding is_asked
returns-then-s-lt5 c =
    let h : length c.args.s.now < 5 = omega (arith, c.if-s-lt5.true) in
    sym (fails_left _ _ (lt-leb _ _ h))

pub returns : goal.returns
unfolding is_asked ◌and◌
returns c =
    let h : 5 ≤ length c.args.s.now = omega (arith, c.if-s-lt5.false) in
    rw (
      c.both-3.ensures,
      c.both-2.ensures,
      c.both.ensures,
      c.item_or-4.ensures,
      c.item_or-3.ensures,
      c.item_or-2.ensures,
      c.item_or.ensures,
      c.fields_of-f.ensures,
      c.step_asked-step.ensures,
      le-leb _ _ h,
    )
