use Rattle.reported.proofs.Whole.{run_is, run_report}
use Rattle.texts.specs.Schedule.{schedule_of}
use Rattle.reported.proofs.report_run.Goals as goal

pub returns : goal.returns
returns c =
    run_report (schedule_of c.args.text.now c.args.s) c.args.out.now (rw (run_is c.args.text.now c.args.s c.requires c.open_text-opened.ensures) at c.run_steps-ended.ensures) c.put_queue-queued.ensures c.put_refused-upto.ensures c.count_line-first.ensures
