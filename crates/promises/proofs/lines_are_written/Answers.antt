use Rattle.promises.proofs.Writing.{written_back, only_its_bytes, refused_untouched, printed_untouched, said_printed}
use Rattle.promises.proofs.lines_are_written.Goals as goal

pub returns : goal.returns
returns c = (written_back, only_its_bytes, refused_untouched, printed_untouched, said_printed)
