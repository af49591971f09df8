-- In buffers of 64 and 131,072 bytes nothing of a report is lost. Assumes nothing.
use Prim.Native.Nat.{◌+◌, ◌≤◌}
use mathlib.Core.Path.{◌≡◌, refl}
use lib.ListN.{length}
use lib.Seq.{sets}
use native.Mathlib.Omega.{arith}
use borrow.Author.Tests.{le-leb}
use Rattle.std.specs.Prelude.{Some}
use Rattle.number.proofs.Stores.{placed_fits}
use Rattle.number.specs.Buffer.{Wrote, put_at, room}
use Rattle.printed.specs.Printed.{page, printed_text, put_lines}
use Rattle.fresh.proofs.Lines.{front}
use Rattle.reported.proofs.Short.{report_short, report_whole}
use Rattle.reported.specs.Buffer.{Reports}
use Rattle.reported.specs.Report.{reported}
use Rattle.reported.specs.declared.Reported.{Reported}
use Rattle.outside_report.specs.Call.{called}
use Rattle.outside_report.specs.Promise.{CallWhole}

pub call_whole : CallWhole
unfolding called put_at room
call_whole s a b h g =
    let x = reported s in
    let line = printed_text x.first in
    let fits : length line ≤ length a = omega (arith, (report_short s).0) in
    let p = put_lines (page (Some 0) b) x.rest in
    let r : Reported = record { first = x.first; upto = p.upto } in
    let o : Reports x b r p.buffer = record { first = refl; rest = refl } in
    let w = report_whole s b p.buffer r o g in
    let put : put_at a 0 line ≡ Some (0 + length line) = rw (le-leb (0 + length line) (length a) (omega arith)) refl in
    let wrote : Wrote a 0 line (0 + length line) (sets a 0 line) = record { next = refl; list = refl } in
    record {
      number = rw (put, w.0) refl;
      bytes = rw (put, w.0, placed_fits a 0 line (omega arith), front wrote fits) w.2;
    }
