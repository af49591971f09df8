use Rattle.form.specs.Table.{forms, form_at}
use Rattle.form.proofs.form_at.Goals as goal

pub returns : goal.returns
unfolding form_at forms
returns c = c.item_or.ensures
