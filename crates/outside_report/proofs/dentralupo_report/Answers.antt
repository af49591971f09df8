use Rattle.outside_report.proofs.Called.{called_by}
use Rattle.outside_report.proofs.Whole.{call_whole}
use Rattle.outside_report.proofs.dentralupo_report.Goals as goal

pub returns-clause-leaves : goal.returns-clause-leaves
returns-clause-leaves c =
    called_by c.args.text.now c.args.first.now c.report-r.ensures c.put_printed-put.ensures c.unwrap_or.ensures
    c.unwrap_or-2.ensures c.number_or-n.ensures
    c.number_or.ensures

pub returns-clause-whole : goal.returns-clause-whole
returns-clause-whole c = call_whole
