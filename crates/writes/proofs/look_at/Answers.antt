use mathlib.Core.Path.{◌≡◌}
use native.Mathlib.Omega.{arith}
use Rattle.writes.proofs.Passing.{not_newer, now_newest, other_cell}
use Rattle.writes.proofs.look_at.Goals as goal

pub returns-then-w-q : goal.returns-then-w-q
returns-then-w-q c =
    other_cell c.args.q c.args.w c.if-q.false c.if-w-q.true

pub returns-then-w-last : goal.returns-then-w-last
returns-then-w-last c =
    let same : c.args.w.cell ≡ c.args.q.cell = omega (arith, c.if-w-q.false) in
    not_newer c.args.q c.args.w c.if-q.false same c.if-w-q-2.false c.if-w-last.true

pub returns : goal.returns
returns c =
    let same : c.args.w.cell ≡ c.args.q.cell = omega (arith, c.if-w-q.false) in
    now_newest c.args.q c.args.w c.if-q.false same c.if-w-q-2.false (omega (arith, c.if-w-last.false))
