use borrow.Author.Rules.{rules}
use mathlib.Core.Path.{◌∙◌}
use native.Mathlib.Omega.{arith}
use Rattle.fresh.proofs.Lines.{cut, few, front}
use Rattle.fresh.proofs.open_text.Goals as goal

pub open_rooms-requires : goal.open_rooms-requires
open_rooms-requires c =
    let p = few c.first_lines-plain.result.count c.args.text.now c.first_lines-plain.result.at in
    let f = few c.first_lines-flag.result.count c.args.text.now c.first_lines-flag.result.at in
    search (rules, p, f)

pub returns : goal.returns
returns c =
    c.open_rooms.ensures
    ∙ rw (
      front c.read_weights-n.ensures (omega (arith, few c.first_lines-plain.result.count c.args.text.now c.first_lines-plain.result.at)),
      front c.read_weights-f.ensures (omega (arith, few c.first_lines-flag.result.count c.args.text.now c.first_lines-flag.result.at)),
      cut c.args.text.now c.args.s.plain c.first_lines-plain.result 16 c.first_lines-plain.ensures,
      cut c.args.text.now c.args.s.flag c.first_lines-flag.result 8 c.first_lines-flag.ensures,
    )
