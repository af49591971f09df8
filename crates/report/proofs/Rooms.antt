-- A line and a report have room in their buffers. Assumes nothing.
use Prim.Native.Nat.{◌+◌, ◌≤◌, ℕ}
use borrow.Author.Tests.{le-leb}
use lib.ListN.{length}
use lib.Seq.{length-sets}
use mathlib.Core.List.{List}
use mathlib.Core.Path.{◌≡◌}
use native.Mathlib.Omega.{arith}
use Rattle.std.specs.Prelude.{Option}
use Rattle.number.proofs.Stores.{placed_fits}
use Rattle.number.specs.Buffer.{placed, put_at, room}
use Rattle.report.specs.Inside.{Inside}
use Rattle.reported.proofs.Short.{report_short, report_whole}
use Rattle.reported.specs.Buffer.{Reports}
use Rattle.reported.specs.Report.{reported}
use Rattle.reported.specs.declared.Reported.{Reported}

pub put_inside : (l t : List ℕ) {m : List ℕ} {w : Option ℕ} → length t ≤ length l → (w ≡ put_at l 0 t) × (m ≡ placed l 0 t)
    → Inside w (length m)
unfolding put_at room
put_inside l t h p = rw (p.0, p.1, placed_fits l 0 t (omega arith), length-sets l 0 t, le-leb (0 + length t) (length l) (omega arith)) (omega arith)

pub report_inside : (s before : List ℕ) {after : List ℕ} {r : Reported} → 131072 ≤ length before → Reports (reported s) before r after
    → Inside r.upto (length after)
report_inside s before h o =
    let w = report_whole s before _ _ o h in
    rw (w.0, w.1, length-sets before 0) (omega (arith, (report_short s).1))
