use Rattle.reported.proofs.Short.{report_short}
use Rattle.report.proofs.Rooms.{report_inside}
use Rattle.report.proofs.show_report.Goals as goal

pub show_line-requires : goal.show_line-requires
show_line-requires c =
    rw c.report-r.ensures.first (report_short c.args.text.now).0

pub show_upto-requires : goal.show_upto-requires
show_upto-requires c =
    report_inside c.args.text.now _ c.requires c.report-r.ensures
