use Rattle.digits.specs.Reading.{◌>>=◌}
use Rattle.std.proofs.Common.{rules, ◌≡◌, ◌+◌, ◌∙◌, sym, refl, drop}
use borrow.Author.Tests.{lt-ltb, le-ltb}
use Rattle.form.proofs.Table.{any_default}
use Rattle.form.specs.declared.Header.TheVariants.{Shape}
use Rattle.reader.proofs.Moved.{given, refused}
use Rattle.schedule.specs.Reading.{passed_to}
use Rattle.schedule.specs.Sections.{headers, sections, through}
use Rattle.schedule.proofs.Lines.{header_due, none_due}
use Rattle.schedule.proofs.read_sections.Goals as goal
use Rattle.schedule.proofs.read_sections.Goals.{After-read_lines}

pub loop-h-init : goal.loop-h-init
unfolding sections
loop-h-init c = rw (c.on-r.ensures.0, c.on-r.ensures.1, c.nothing_found-found.ensures) (refl, refl)

pub returns-in_err-next_line : goal.returns-in_err-next_line
returns-in_err-next_line c =
    let x = refused _ (sym c.in_err-next_line.was ∙ c.next_line.ensures.line) in
    let h = any_default headers c.loop-h.h-index _ Shape c.loop-h-test.true in
    rw (← c.loop-h.invariant.0, header_due c.loop-h.h-index _ c.loop-h.r.at c.loop-h.found c.loop-h-test.true h x) (search rules)

-- a header line was read, and the lines under it or some of them
opened : (c : After-read_lines)
    → (passed_to c.read_lines.result c.read_lines.new.r.at
    >>= λ p. through (drop (c.loop-h.h-index + 1) headers) c.loop-h.r.text.now p c.note-found.result) ≡ sections c.args.text.now
opened c =
    let x = given _ c.loop-h.r.at (sym c.in_ok-next_line.was ∙ c.next_line.ensures.line) c.next_line.ensures.place in
    let h = any_default headers c.loop-h.h-index _ Shape c.loop-h-test.true in
    let e = header_due c.loop-h.h-index _ c.loop-h.r.at c.loop-h.found c.loop-h-test.true h x in
    rw (c.read_lines.ensures.place, c.lines_under.ensures, c.line_due.ensures, c.note-found.ensures, c.count_in-n.ensures)
    (rw c.next_line.ensures.text (sym e ∙ c.loop-h.invariant.0))

pub returns-in_err-read_lines : goal.returns-in_err-read_lines
returns-in_err-read_lines c =
    rw (← opened (goal.at.returns-in_err-read_lines c).After-read_lines, c.in_err-read_lines.was) (search rules)

pub loop-h-preserved : goal.loop-h-preserved
loop-h-preserved c =
    let same = c.read_lines.ensures.text ∙ c.next_line.ensures.text in
    let o = opened (goal.at.loop-h-preserved c).After-read_lines in
    (rw same (rw c.in_ok-read_lines.was at o), rw same c.loop-h.invariant.1)

pub returns-then-r-text : goal.returns-then-r-text
returns-then-r-text c =
    rw (← c.loop-h.invariant.0, none_due _ _ _ _ c.loop-h-test.false, c.loop-h.invariant.1, lt-ltb _ _ c.if-r-text.true) refl

pub returns : goal.returns
returns c = rw (← c.loop-h.invariant.0, none_due _ _ _ _ c.loop-h-test.false, c.loop-h.invariant.1, le-ltb _ _ c.if-r-text.false) refl
