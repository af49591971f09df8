use Prim.Native.Nat.{◌%◌, ◌<◌}
use native.Mathlib.Nat.{mod-lt}
use borrow.Author.Rules.{rules}
use Rattle.rules.specs.Access.{slot_cell}
use Rattle.rank.specs.Rank.{slot_of}
use Rattle.asking.proofs.slot_cell.Goals as goal

pub overflow_add-result-2 : goal.overflow_add-result-2
unfolding slot_of
overflow_add-result-2 c =
    let l : c.args.rank % c.args.shape.slots < c.args.shape.slots = mod-lt c.args.rank c.requires.some in
    search (rules, c.slot_of.ensures)

pub returns : goal.returns
unfolding slot_cell
returns c = rw c.slot_of.ensures
