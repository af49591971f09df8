use Rattle.cases.proofs.Table.{starred_hold}
use Rattle.promises.proofs.starred_cases_hold.Goals as goal

pub returns : goal.returns
returns c = starred_hold
