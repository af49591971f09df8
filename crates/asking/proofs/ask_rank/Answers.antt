use mathlib.Core.Path.{sym, ◌∙◌}
use Rattle.asking.specs.Ask.{rank_ask_of}
use Rattle.asking.proofs.Sizes.{small}
use Rattle.asking.proofs.ask_rank.Goals as goal

pub slot_cell-cell-requires : goal.slot_cell-cell-requires
slot_cell-cell-requires c = small _ _ (sym c.sizes_stand-sized.ensures ∙ c.if-sized.true)

pub returns-then-sized : goal.returns-then-sized
unfolding rank_ask_of
returns-then-sized c = rw (
  c.ask_by.ensures,
  c.slot_cell-cell.ensures,
  ← c.sizes_stand-sized.ensures,
  c.if-sized.true,
)

pub returns : goal.returns
unfolding rank_ask_of
returns c = rw (c.ask_by-2.ensures, ← c.sizes_stand-sized.ensures, c.if-sized.false)
