use borrow.Author.Rules.{rules}
use Rattle.parts.specs.Parts.{cells_stand, parts_stand}
use Rattle.state.specs.declared.Name.TheVariants.{Flag, Status}
use Rattle.parts.proofs.parts_stand.Goals as goal

pub returns : goal.returns
unfolding parts_stand cells_stand
returns c =
    rw (
      c.both-4.ensures,
      c.both-3.ensures,
      c.firsts_stand.ensures,
      c.threads_stand.ensures,
      c.both-cells.ensures,
      c.both-2.ensures,
      c.both.ensures,
      c.atomics_stand-statuses.ensures Status (λ i a h. search rules),
      c.atomic_stands-tail.ensures,
      c.atomic_stands-head.ensures,
      c.atomics_stand-flags.ensures Flag (λ i a h. search rules),
      c.cells_of-k.ensures,
    )
