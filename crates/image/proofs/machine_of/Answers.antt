use borrow.Author.Rules.{rules}
use Rattle.image.specs.Image.{first_at, thread_at, view_at, cell_at, word, view_from, atomic_from, place_from, machine_of}
use Rattle.state.specs.State.{at}
use Rattle.state.specs.declared.Name.TheVariants.{Flag, Status}
use Rattle.image.proofs.machine_of.Goals as goal

pub returns : goal.returns
unfolding machine_of
returns c =
    let s = c.args.s.now in
    rw (
      c.filled-statuses.ensures (λ i. atomic_from s (cell_at (Status i))) (λ i r h k. search rules),
      c.filled-flags.ensures (λ i. atomic_from s (cell_at (Flag i))) (λ i r h k. search rules),
      c.atomic_from-tail.ensures,
      c.atomic_from-head.ensures,
      c.filled-threads.ensures (λ i. at (place_from s (thread_at i))) (λ i r h k. search rules),
      c.filled-views.ensures (λ i. view_from s (view_at i)) (λ i r h k. search rules),
      c.filled-firsts.ensures (λ i. word s (first_at i)) (λ i r h k. search rules),
      c.zero_atomic-none.ensures,
      c.zero_view-view.ensures,
      c.item_or-held.ensures,
      c.item_or-steps.ensures,
      c.item_or-flags.ensures,
      c.item_or-plain.ensures,
      c.item_or-slots.ensures,
      c.item_or-threads.ensures,
    )
