use borrow.Author.Tests.{lt-ltb, le-ltb}
use mathlib.Core.Path.{refl}
use Rattle.schedule.specs.Sections.{judged}
use Rattle.judging.proofs.judge.Goals as goal

pub returns-then-text-gt65536 : goal.returns-then-text-gt65536
unfolding judged
returns-then-text-gt65536 c = rw (lt-ltb _ _ c.if-text-gt65536.true) refl

pub returns : goal.returns
unfolding judged
returns c = rw (le-ltb _ _ c.if-text-gt65536.false) c.read_sections.ensures
