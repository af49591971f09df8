use Rattle.digits.proofs.Promise.{count_read_back, weight_read_back, count_only_text, weight_only_text}
use Rattle.promises.proofs.numbers_have_one_text.Goals as goal

pub returns : goal.returns
returns c = (count_read_back, count_only_text, weight_read_back, weight_only_text)
