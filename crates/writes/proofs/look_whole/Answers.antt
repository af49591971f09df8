use Rattle.writes.specs.Searched.{looked_at}
use Rattle.writes.proofs.look_whole.Goals as goal

pub returns : goal.returns
unfolding looked_at
returns c =
    rw (
      c.newer_of-newest.ensures,
      c.or-found.ensures,
      c.shown_by.ensures,
      c.stand_still-stand.ensures,
    )
