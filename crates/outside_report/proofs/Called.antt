-- What a call leaves, from what its parts are told to leave. Assumes nothing.
use mathlib.Core.List.{List}
use mathlib.Core.Path.{◌≡◌, ap}
use Prim.Native.Nat.{ℕ}
use Rattle.std.specs.Prelude.{Option, unwrap_or}
use Rattle.number.specs.Buffer.{placed, put_at}
use Rattle.printed.specs.Printed.{printed_text}
use Rattle.reported.specs.Buffer.{Reports}
use Rattle.reported.specs.Report.{reported}
use Rattle.reported.specs.declared.Reported.{Reported}
use Rattle.outside_report.specs.Call.{called, left_by, lent, number_or}

pub called_by : (s a : List ℕ) {b c d : List ℕ} {r : Reported} {w : Option ℕ} {i j m n : ℕ}
    → Reports (reported s) b r d
    → (w ≡ put_at a 0 (printed_text r.first)) × (c ≡ placed a 0 (printed_text r.first))
    → i ≡ unwrap_or w 0 → j ≡ unwrap_or r.upto 0 → m ≡ number_or r.upto 0 → n ≡ number_or w m
    → lent n c i d j ≡ called s a b
unfolding called
called_by s a o p e f g h =
    rw (h, g, f, e, p.1, p.0, o.first) (ap (left_by (put_at a 0 (printed_text (reported s).first)) (placed a 0 (printed_text (reported s).first))) o.rest)
