use Prim.Native.Nat.{◌-◌}
use mathlib.Core.Path.{◌≡◌}
use Rattle.schedule.specs.Sections.{lines_past}
use Rattle.schedule.proofs.read_lines.Given as goal

-- the lines that are left come to what all of them come to
abbrev pub invariant-loop : goal.invariant-loop
invariant-loop l =
    (lines_past (l.count - l.counter) l.due l.r.text.now l.r.at ≡ lines_past l.count l.due l.initial.r.text.now l.initial.r.at)
    × (l.r.text ≡ l.initial.r.text)
