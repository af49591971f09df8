use Rattle.printed.specs.Printed.{ended_text}
use Rattle.writer.proofs.Laws.{wrote_two}
use Rattle.printed.proofs.write_ended.Goals as goal

pub returns : goal.returns
unfolding ended_text
returns c = wrote_two _ _ c.requires c.put_field.ensures c.unwrap_or-p.ensures c.put_byte.ensures c.unwrap_or.ensures
