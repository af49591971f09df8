use Rattle.promises.proofs.Shown.{report_shows}
use Rattle.promises.proofs.reports_show_the_run.Goals as goal

pub returns : goal.returns
returns c = report_shows
