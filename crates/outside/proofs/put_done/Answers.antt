use mathlib.Core.Path.{sym, ap, ◌∙◌}
use Rattle.step.proofs.Answered.{by_refusal}
use Rattle.step.specs.Refused.{number_in}
use Rattle.outside.proofs.put_done.Goals as goal

pub returns : goal.returns
returns c = (
  rw c.in_default.is (sym (by_refusal c.args.done.answer ∙ ap number_in (sym c.refused.ensures ∙ c.in_default-refused.is))),
  rw (← c.words_of-image.ensures) c.put_words.ensures,
  rw (← c.answer_words-words.ensures) c.put_words-2.ensures,
)
