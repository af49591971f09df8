use Rattle.writer.proofs.Laws.{wrote_of}
use Rattle.writer.proofs.write_word.Goals as goal

pub returns : goal.returns
returns c = wrote_of c.requires c.put_word.ensures c.unwrap_or.ensures
