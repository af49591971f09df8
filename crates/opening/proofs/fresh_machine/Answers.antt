use borrow.Author.Rules.{rules}
use lib.ListN.{get_or}
use Rattle.opening.specs.Opening.{given_room, flags_room, statuses_room, fresh}
use Rattle.rank.specs.Rank.{free_status}
use Rattle.state.specs.State.{atomic}
use Rattle.view.specs.View.{zero_view}
use Rattle.opening.proofs.fresh_machine.Goals as goal

pub returns : goal.returns
unfolding fresh given_room flags_room statuses_room
returns c =
    rw (
      c.machine_of.ensures,
      c.filled-statuses_room.ensures (λ i. atomic (free_status i) zero_view) (λ i r h k. search rules),
      c.filled-flags_room.ensures (λ i. atomic (get_or c.args.flags.now i 0) zero_view)
          (λ i r h k. search (rules, c.zero_view-view.ensures)),
      c.filled-given_room.ensures (λ i. get_or c.args.plain.now i 0) (λ i r h k. search rules),
      c.zero_atomic-none.ensures,
    )
