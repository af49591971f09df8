use Rattle.printed.specs.Printed.{printed_text}
use Rattle.report.proofs.Rooms.{put_inside}
use Rattle.report.proofs.show_line.Goals as goal

pub show_upto-requires : goal.show_upto-requires
show_upto-requires c =
    put_inside _ (printed_text c.args.line) c.requires c.put_printed-upto.ensures
