use Rattle.printed.specs.declared.Word.TheVariants.{Refused}
use Rattle.reported.proofs.Page.{put_one, refused_two}
use Rattle.reported.specs.Report.{heading, refused_lines}
use Rattle.reported.proofs.put_refused.Goals as goal

pub returns-in-None : goal.returns-in-None
unfolding refused_lines
returns-in-None c =
    rw c.in-None.is (put_one c.args.out.now c.args.upto (heading Refused 0) (rw c.count_line.ensures at c.put_next.ensures))

pub returns-in-Some : goal.returns-in-Some
returns-in-Some c =
    rw c.in-Some.is
    (refused_two c.args.out.now c.args.upto c.args.taken c.in-Some.number (rw c.count_line-in-Some.ensures at c.put_next-w.ensures) c.put_next-in-Some.ensures)
