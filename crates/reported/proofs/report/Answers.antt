use mathlib.Core.Path.{◌∙◌, sym}
use Rattle.reported.proofs.Taken.{taken_fits}
use Rattle.reported.proofs.Whole.{refused_report, taken_report}
use Rattle.reported.proofs.report.Goals as goal

pub report_run-requires : goal.report_run-requires
report_run-requires c = taken_fits _ _ (sym c.judge.ensures ∙ c.in-Ok.is)

pub returns-in-Ok : goal.returns-in-Ok
returns-in-Ok c =
    taken_report c.args.text.now _ (sym c.judge.ensures ∙ c.in-Ok.is) c.report_run.ensures

pub returns-in-Err : goal.returns-in-Err
returns-in-Err c =
    refused_report c.args.text.now _ _ (sym c.judge.ensures ∙ c.in-Err.is) c.text_line-first.ensures
