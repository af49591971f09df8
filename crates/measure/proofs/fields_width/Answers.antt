use native.Mathlib.Omega.{arith}
use lib.ListN.{length-append}
use Rattle.form.specs.Text.{fields_text}
use Rattle.measure.proofs.Widths.{lead_short, form_short}
use Rattle.measure.proofs.fields_width.Goals as goal

pub overflow_add-result : goal.overflow_add-result
overflow_add-result c =
    omega (
      arith,
      lead_short c.args.lead c.args.f.lead (omega arith),
      form_short c.args.f.form c.args.f.a c.args.f.b c.args.f.c (omega arith) (omega arith) (omega arith),
    )

pub returns : goal.returns
unfolding fields_text
returns c = rw (length-append, c.lead_width.ensures, c.form_width.ensures)
