use Rattle.asking.specs.Ask.{ask_by}
use Rattle.asking.proofs.ask_by.Goals as goal

pub returns : goal.returns
unfolding ask_by
returns c =
    rw (
      c.judged_unless-query.ensures,
      c.sought.ensures,
      c.stamp_asked.ensures,
      c.records_asked-held.ensures,
      c.held_of.ensures,
      c.cells_of-cells.ensures,
      c.first_of-first.ensures,
      c.index.ensures,
      c.cell_asked-cell.ensures,
    )
