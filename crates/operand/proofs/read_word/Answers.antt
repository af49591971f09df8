use mathlib.Core.Path.{sym, ◌∙◌}
use native.Mathlib.Omega.{arith}
use Rattle.std.proofs.lemmas.Result.{err_from_is_err_and}
use Rattle.operand.proofs.Laws.{word_end, word_zero, word_byte}
use Rattle.operand.proofs.read_word.Goals as goal

pub returns-in_err-at : goal.returns-in_err-at
returns-in_err-at c =
    let p = err_from_is_err_and c.from_residual.result c.from_residual.ensures.1 in
    rw (p.1, p.2)
    (sym (word_byte _ _ _ _ _ c.loop-b-test.true c.if-b-eq0.false (sym c.read_byte.ensures ∙ c.in_err-at.was)) ∙ c.loop-b.invariant)

pub loop-b-preserved : goal.loop-b-preserved
loop-b-preserved c =
    sym (word_byte _ _ _ _ _ c.loop-b-test.true c.if-b-eq0.false (sym c.read_byte.ensures ∙ c.in_ok-at.was)) ∙ c.loop-b.invariant

pub returns-after-loop-b : goal.returns-after-loop-b
returns-after-loop-b c = sym (word_end c.args.w.now _ _ _ (omega arith)) ∙ c.loop-b.invariant

pub returns-then-b-eq0 : goal.returns-then-b-eq0
returns-then-b-eq0 c = sym (word_zero _ _ _ _ c.loop-b-test.true c.if-b-eq0.true) ∙ c.loop-b.invariant
