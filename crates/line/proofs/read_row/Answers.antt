use borrow.Author.Rules.{rules}
use Rattle.line.proofs.Laws.{rows_in}
use Rattle.line.specs.Row.{due_row}
use Rattle.line.proofs.read_row.Goals as goal

pub returns-in_err-lead : goal.returns-in_err-lead
unfolding due_row
returns-in_err-lead c = search rules

pub find_form-requires : goal.find_form-requires
find_form-requires c = rw (c.first_form.ensures, c.form_count.ensures) (rows_in c.args.due)

pub returns : goal.returns
unfolding due_row
returns c = search rules
