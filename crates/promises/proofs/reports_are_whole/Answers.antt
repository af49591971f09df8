use Rattle.reported.proofs.Short.{report_short, report_whole}
use Rattle.promises.proofs.reports_are_whole.Goals as goal

pub returns : goal.returns
returns c = (report_short, report_whole)
