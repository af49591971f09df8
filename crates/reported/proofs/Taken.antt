-- A text that is taken has no more weights than a machine has room for. Assumes nothing.
use Prim.Native.Nat.{◌≤◌, ℕ}
use borrow.Author.Tests.{leb-true}
use lib.Dec.{leb}
use lib.ListN.{length}
use mathlib.Core.Bool.{◌&&◌, true}
use mathlib.Core.List.{List, map}
use mathlib.Core.Path.{◌≡◌}
use Rattle.form.specs.Line.{fields_in_range, line_in_range}
use Rattle.form.specs.Range.{in_range}
use Rattle.form.specs.Table.{form_at, forms}
use Rattle.form.specs.declared.Header.TheVariants.{Flag, Plain}
use Rattle.form.specs.declared.Line.TheVariants.{HeaderLine, WeightLine}
use Rattle.laws.proofs.Choice.{and_left, and_right}
use Rattle.texts.proofs.Lines.{range_head, range_right, range_tail}
use Rattle.texts.proofs.OnlySchedules.{schedule_only_text}
use Rattle.texts.specs.Schedule.{Schedule, all_in_range, lines_for, lines_of, reads, schedule, schedule_of, weights_at}
use Rattle.schedule.specs.Sections.{judged}
use Rattle.std.specs.Prelude.{Ok}
use Rattle.schedule.specs.declared.Sections.{Sections}

plain_fits : (n : ℕ) → line_in_range (HeaderLine Plain n) ≡ true → n ≤ 16
unfolding line_in_range fields_in_range in_range form_at forms
plain_fits n e = leb-true n 16 (and_right (leb 0 n) (leb n 16) (and_left (leb 0 n && leb n 16) true e))

flag_fits : (n : ℕ) → line_in_range (HeaderLine Flag n) ≡ true → n ≤ 8
unfolding line_in_range fields_in_range in_range form_at forms
flag_fits n e = leb-true n 8 (and_right (leb 0 n) (leb n 8) (and_left (leb 0 n && leb n 8) true e))

lines_fit : (x : Schedule) → all_in_range (lines_of x) ≡ true → (length x.plain ≤ 16) × (length x.flag ≤ 8)
unfolding lines_of lines_for
lines_fit x e =
    let at_plain = range_tail _ _ (range_tail _ _ (range_tail _ _ e)) in
    let at_flag = range_right (map WeightLine x.plain) _ (range_tail _ _ at_plain) in
    (plain_fits _ (range_head _ _ at_plain), flag_fits _ (range_head _ _ at_flag))

taken_reads : (s : List ℕ) (x : Sections) → judged s ≡ Ok x → reads s ≡ schedule (schedule_of s x)
unfolding reads
taken_reads s x e = rw e

pub taken_fits : (s : List ℕ) (x : Sections) → judged s ≡ Ok x → (length (weights_at s x.plain) ≤ 16) × (length (weights_at s x.flag) ≤ 8)
unfolding schedule_of
taken_fits s x e = lines_fit (schedule_of s x) (schedule_only_text s (schedule_of s x) (taken_reads s x e)).1.ranged
