use Rattle.report.proofs.show_upto.Goals as goal

pub show_first-requires : goal.show_first-requires
show_first-requires c = rw c.in-Some.is at c.requires
