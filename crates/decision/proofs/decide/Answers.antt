use mathlib.Core.Path.{sym, ◌∙◌}
use Rattle.refusal.proofs.Passed.{passed}
use Rattle.decision.proofs.Known.{fits_rank}
use Rattle.decision.proofs.decide.Goals as goal

pub take-done-requires : goal.take-done-requires
take-done-requires c =
    let p = (passed _ _ _ _ _ _ (sym c.refusal_by.ensures ∙ c.in_default.is)).0 in
    let z = c.requires p.stands in
    record { sized = z.0; thread_bound = fits_rank c.args.m c.args.step p.thread.1 z.1 }
