use mathlib.Core.Path.{sym, ◌∙◌}
use Rattle.asking.specs.Ask.{ask_of}
use Rattle.asking.proofs.Sizes.{small}
use Rattle.asking.proofs.ask_of.Goals as goal

pub asked_of-requires : goal.asked_of-requires
asked_of-requires c = small _ _ (sym c.sizes_stand-sized.ensures ∙ c.if-sized.true)

pub returns-then-sized : goal.returns-then-sized
unfolding ask_of
returns-then-sized c = rw (
  c.ask_by.ensures,
  c.asked_of.ensures,
  ← c.sizes_stand-sized.ensures,
  c.if-sized.true,
)

pub returns : goal.returns
unfolding ask_of
returns c = rw (c.ask_by-2.ensures, ← c.sizes_stand-sized.ensures, c.if-sized.false)
