use Rattle.texts.proofs.OneText.{one_line}
use Rattle.texts.proofs.OnlyLines.{line_is}
use Rattle.texts.proofs.ReadLines.{line_reads}
use Rattle.promises.proofs.lines_have_one_text.Goals as goal

pub returns : goal.returns
returns c = (line_reads, line_is, one_line)
