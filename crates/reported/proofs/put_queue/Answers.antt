use mathlib.Core.Path.{◌∙◌}
use Rattle.printed.specs.declared.Word.TheVariants.{Queue}
use Rattle.reported.proofs.Page.{put_more}
use Rattle.reported.specs.Report.{heading, queue_lines}
use Rattle.reported.proofs.put_queue.Goals as goal

pub put_ranks-requires : goal.put_ranks-requires
put_ranks-requires c =
    c.ranks_between-count.ensures.1

pub returns : goal.returns
unfolding queue_lines
returns c =
    c.put_ranks.ensures ∙ put_more c.args.out.now c.args.upto (heading Queue _) _ (rw c.count_line.ensures at c.put_next-w.ensures) ∙ rw c.ranks_between-count.ensures.0
