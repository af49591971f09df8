use lib.ListN.{drop}
use mathlib.Core.Path.{◌≡◌}
use Rattle.schedule.specs.Sections.{headers, sections, through}
use Rattle.schedule.proofs.read_sections.Given as goal

-- the header lines that are left come to what the whole text is found to be
abbrev pub invariant-loop-h : goal.invariant-loop-h
invariant-loop-h l = (through (drop l.h-index headers) l.r.text.now l.r.at l.found ≡ sections l.text) × (l.r.text.now ≡ l.text)
