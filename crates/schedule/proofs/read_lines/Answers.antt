use Rattle.std.proofs.Common.{rules, ◌∙◌, sym, arith}
use Rattle.reader.proofs.Moved.{given, refused}
use Rattle.schedule.proofs.Lines.{one_more, all_read}
use Rattle.schedule.proofs.read_lines.Goals as goal

pub returns-in_err-next_line-clause-place : goal.returns-in_err-next_line-clause-place
returns-in_err-next_line-clause-place c =
    let x = refused _ (sym c.in_err-next_line.was ∙ c.next_line.ensures.line) in
    let e = sym (one_more c.args.count c.loop.counter c.args.due c.loop.r.text.now c.loop.r.at c.loop-test.true x) ∙ c.loop.invariant.0 in
    rw (← e) (search rules)

pub loop-preserved : goal.loop-preserved
loop-preserved c =
    let x = given _ c.loop.r.at (sym c.in_ok-next_line.was ∙ c.next_line.ensures.line) c.next_line.ensures.place in
    let e = one_more c.args.count c.loop.counter c.args.due c.loop.r.text.now c.loop.r.at c.loop-test.true x in
    (rw c.next_line.ensures.text (sym e ∙ c.loop.invariant.0), c.next_line.ensures.text ∙ c.loop.invariant.1)

pub returns-clause-place : goal.returns-clause-place
returns-clause-place c =
    sym (all_read c.args.count c.loop.counter c.args.due c.loop.r.text.now c.loop.r.at (omega arith)) ∙ c.loop.invariant.0
