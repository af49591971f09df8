use Rattle.texts.proofs.Numbers.{line_numbered, judged_numbered}
use Rattle.promises.proofs.texts_are_numbered.Goals as goal

pub returns : goal.returns
returns c = (judged_numbered, line_numbered)
