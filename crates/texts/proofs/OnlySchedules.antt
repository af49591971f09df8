-- Whatever the reader takes is exactly the text of the schedule that it gives. Assumes nothing.
use mathlib.Core.Path.{◌≡◌, refl, sym, ap}
use mathlib.Core.Bool.{true, false, ◌&&◌}
use mathlib.Core.List.{List, [], ◌∷◌, ◌++◌}
use mathlib.Core.Logic.{⊎_elim}
use Prim.Native.Nat.{ℕ, zero, suc, ◌≤◌}
use native.Mathlib.Omega.{arith}
use borrow.Author.Tests.{ltb-false, leb-true}
use lib.Dec.{leb, ltb}
use lib.ListN.{length, length-map}
use Rattle.form.specs.Line.{due_of, fields_in_range, line_in_range}
use Rattle.form.specs.Range.{in_range}
use Rattle.form.specs.Table.{forms, form_at}
use Rattle.form.specs.Text.{line_text}
use Rattle.form.specs.declared.Due.{Due}
use Rattle.form.specs.declared.Due.TheVariants.{HeaderDue, WeightDue, StepDue}
use Rattle.form.specs.declared.Header.{Header}
use Rattle.form.specs.declared.Header.TheVariants.{Shape, Threads, Slots, Plain, Flag, Steps}
use Rattle.form.specs.declared.Line.{Line}
use Rattle.form.specs.declared.Line.TheVariants.{HeaderLine, WeightLine, StepLine}
use Rattle.texts.proofs.Inside.{line_inside}
use Rattle.texts.proofs.OnlyLines.{line_is}
use Rattle.texts.specs.Promise.{TakenLine}
use Rattle.line.specs.Row.{read_line}
use Rattle.digits.specs.declared.Read.{Read}
use Rattle.digits.specs.Reading.{◌>>=◌}
use Rattle.std.specs.Prelude.{Result, Ok, Err}
use Rattle.laws.proofs.Choice.{either, and_left, and_right}
use Rattle.number.proofs.Standing.{here_then, here_none, stands_whole}
use Rattle.number.specs.Bytes.{Here}
use Rattle.texts.proofs.Lines.{text_append, range_both, range_cons, AllDue, weights_again, steps_again}
use Rattle.texts.specs.Promise.{ScheduleOnlyText}
use Rattle.texts.specs.Schedule.{count_for, lines_in, lines_for, lines_of, text_of, schedule_text, all_in_range, HasText, also, lines_from, weight_in, step_in, schedule_of, schedule, outcome, reads}
use Rattle.schedule.specs.Sections.{count_in, lines_past, lines_under, line_due, section, nothing_found, noted, through, headers, sections, judged}
use Rattle.fault.specs.declared.Refusal.{Refusal}
use Rattle.schedule.specs.declared.Sections.{Sections}

header_line : (h : Header) (x : Line) → due_of x ≡ HeaderDue h → x ≡ HeaderLine h (count_in x)
header_line h (HeaderLine g n) e = let q : g ≡ h = cc in ap (λ (k : Header). HeaderLine k n) q
header_line h (WeightLine w) e = let z : ◌≡◌ {A = ℕ} 0 1 = cc in absurd (omega arith)
header_line h (StepLine s) e = let z : ◌≡◌ {A = ℕ} 0 1 = cc in absurd (omega arith)

taken_header : (h : Header) (s : List ℕ) (at : ℕ) (x : Line) (n : ℕ) → TakenLine (HeaderDue h) s at x n
    → Here s at (line_text (HeaderLine h (count_in x))) n × (line_in_range (HeaderLine h (count_in x)) ≡ true)
taken_header h s at x n t =
    let e = header_line h x t.is_due in (rw (← e) t.here, rw (← e) t.ranged)

-- lines that were read one after the other
pub record ReadLines (d : Due) (s : List ℕ) (at n : ℕ) (xs : List Line) (p : ℕ) : Type 0 where
  pub here : Here s at (text_of xs) p
  pub ranged : all_in_range xs ≡ true
  pub due : AllDue d xs
  pub size : length xs ≡ n
  pub inside : at ≤ length s → p ≤ length s

read_more : (n : ℕ) (d : Due) (s : List ℕ) (at p : ℕ) (r : Result (Read Line) Refusal) → read_line d s at ≡ r
    → (r >>= λ x. lines_past n d s x.next) ≡ Ok p
    → ((q : ℕ) → lines_past n d s q ≡ Ok p → ReadLines d s q n (lines_from n d s q) p)
    → ReadLines d s at (suc n) (also r (λ q. lines_from n d s q)) p
unfolding text_of
read_more n d s at p (Err f) l e rest = let z : ◌≡◌ {A = ℕ} 0 1 = cc in absurd (omega arith)
read_more n d s at p (Ok x) l e rest =
    let t = line_is d s at x.value x.next l in
    let o = rest x.next e in
    record {
      here = here_then t.here o.here;
      ranged = range_cons x.value (lines_from n d s x.next) t.ranged o.ranged;
      due = (t.is_due, o.due);
      size = ap suc o.size;
      inside = λ h. o.inside (omega (arith, t.here.next, line_inside x.value s at t.here.stands));
    }

lines_are : (n : ℕ) (d : Due) (s : List ℕ) (at p : ℕ) → lines_past n d s at ≡ Ok p → ReadLines d s at n (lines_from n d s at) p
unfolding lines_past lines_from text_of all_in_range
lines_are zero d s at p e =
    let q : at ≡ p = cc in
    record { here = here_none q; ranged = refl; due = tt; size = refl; inside = λ h. omega arith }
lines_are (suc n) d s at p e = read_more n d s at p (read_line d s at) refl e (λ q g. lines_are n d s q p g)

-- a header line that was read, and the lines under it
pub record ReadSection (h : Header) (s : List ℕ) (at n p q : ℕ) : Type 0 where
  pub here : Here s at (line_text (HeaderLine h n)) p
  pub ranged : line_in_range (HeaderLine h n) ≡ true
  pub under : ReadLines (line_due h) s p (lines_under h n) (lines_from (lines_under h n) (line_due h) s p) q

-- header lines, each with its count, the place after it and the one after the lines under it, to the end of the text
abbrev Went : List Header → List ℕ → ℕ → Sections → Sections → Type 0
Went [] s at f x = (length s ≤ at) × (f ≡ x)
Went (h ∷ hs) s at f x = (n : ℕ) × (p : ℕ) × (q : ℕ) × ReadSection h s at n p q × Went hs s q (noted h n p f) x

module _ (h : Header) (hs : List Header) (s : List ℕ) (at : ℕ) (f x : Sections)
    (rest : (q : ℕ) (g : Sections) → through hs s q g ≡ Ok x → Went hs s q g x) where
  under_went : (n p : ℕ) → Here s at (line_text (HeaderLine h n)) p × (line_in_range (HeaderLine h n) ≡ true) → (m : Result ℕ Refusal)
      → lines_past (lines_under h n) (line_due h) s p ≡ m → (m >>= λ q. through hs s q (noted h n p f)) ≡ Ok x → Went (h ∷ hs) s at f x
  under_went n p t (Err r) l e = let z : ◌≡◌ {A = ℕ} 0 1 = cc in absurd (omega arith)
  under_went n p t (Ok q) l e =
      let u = lines_are (lines_under h n) (line_due h) s p q l in
      (n, p, q, record { here = t.0; ranged = t.1; under = u }, rest q (noted h n p f) e)

  header_went : (r : Result (Read Line) Refusal) → read_line (HeaderDue h) s at ≡ r
      → (r >>= λ l. lines_past (lines_under h (count_in l.value)) (line_due h) s l.next
      >>= λ q. through hs s q (noted h (count_in l.value) l.next f)) ≡ Ok x → Went (h ∷ hs) s at f x
  header_went (Err r) l e = let z : ◌≡◌ {A = ℕ} 0 1 = cc in absurd (omega arith)
  header_went (Ok y) l e =
      let t = taken_header h s at y.value y.next (line_is (HeaderDue h) s at y.value y.next l) in
      under_went (count_in y.value) y.next t (lines_past (lines_under h (count_in y.value)) (line_due h) s y.next) refl e

through_went : (hs : List Header) (s : List ℕ) (at : ℕ) (f x : Sections) → through hs s at f ≡ Ok x → Went hs s at f x
unfolding through
through_went [] s at f x e =
    ⊎_elim
    (λ (l : ltb at (length s) ≡ true). let z : ◌≡◌ {A = ℕ} 0 1 = cc (simp l at e) in absurd (omega arith))
    (λ (l : ltb at (length s) ≡ false). let q : f ≡ x = cc (simp l at e) in (ltb-false at (length s) l, q))
    (either (ltb at (length s)))
through_went (h ∷ hs) s at f x e =
    header_went h hs s at f x (λ q g d. through_went hs s q g x d) (read_line (HeaderDue h) s at) refl e

-- "`shape` not 2" is out of range
shape_two : (n : ℕ) → line_in_range (HeaderLine Shape n) ≡ true → n ≡ 2
unfolding line_in_range fields_in_range in_range form_at forms
shape_two n e =
    let b = and_left (leb 2 n && leb n 2) true e in
    omega (arith, leb-true 2 n (and_left (leb 2 n) (leb n 2) b), leb-true n 2 (and_right (leb 2 n) (leb n 2) b))

-- what was found has what a header line says
abbrev Noted : Header → Sections → ℕ → ℕ → Type 0
Noted Shape x n p = Unit {0}
Noted Threads x n p = x.threads ≡ n
Noted Slots x n p = x.slots ≡ n
Noted Plain x n p = x.plain ≡ section n p
Noted Flag x n p = x.flag ≡ section n p
Noted Steps x n p = x.steps ≡ section n p

abbrev AllNoted : (hs : List Header) (s : List ℕ) (at : ℕ) (f x : Sections) → Went hs s at f x → Type 0
AllNoted [] s at f x w = Unit {0}
AllNoted (h ∷ hs) s at f x w = Noted h x w.0 w.1 × AllNoted hs s w.2 (noted h w.0 w.1 f) x w.4

-- then the header line, and the lines under it, are those of the schedule that was found
module _ (s : List ℕ) (x : Sections) (n p : ℕ) where
  abbrev Same : Header → Type 0
  Same h =
      let xs = lines_from (lines_under h n) (line_due h) s p in
      line_in_range (HeaderLine h n) ≡ true → AllDue (line_due h) xs → length xs ≡ lines_under h n
      → (count_for h (schedule_of s x) ≡ n) × (lines_in h (schedule_of s x) ≡ xs)

  same : (h : Header) → Noted h x n p → Same h
  unfolding schedule_of lines_from
  same Shape e r d l = (sym (shape_two n r), refl)
  same Threads e r d l = (e, refl)
  same Slots e r d l = (e, refl)
  same Plain e r d l = let xs = lines_from n WeightDue s p in rw (e, length-map xs weight_in, weights_again xs d) (l, refl)
  same Flag e r d l = let xs = lines_from n WeightDue s p in rw (e, length-map xs weight_in, weights_again xs d) (l, refl)
  same Steps e r d l = let xs = lines_from n StepDue s p in rw (e, length-map xs step_in, steps_again xs d) (l, refl)

-- header lines, each with the lines under it, are lines of the schedule that was found; they end where the text does
pub record Held (hs : List Header) (s : List ℕ) (at : ℕ) (x : Sections) : Type 0 where
  pub last : ℕ
  pub here : Here s at (text_of (lines_for hs (schedule_of s x))) last
  pub ranged : all_in_range (lines_for hs (schedule_of s x)) ≡ true
  pub whole : length s ≤ last
  pub inside : at ≤ length s → last ≤ length s

went_held : (hs : List Header) (s : List ℕ) (at : ℕ) (f x : Sections) (w : Went hs s at f x) → AllNoted hs s at f x w → Held hs s at x
unfolding lines_for text_of all_in_range
went_held [] s at f x w a = record { last = at; here = here_none refl; ranged = refl; whole = w.0; inside = λ h. h }
went_held (h ∷ hs) s at f x w a =
    let n = w.0 in let p = w.1 in let t = w.3 in
    let o = went_held hs s w.2 (noted h n p f) x w.4 a.1 in
    let e = same s x n p h a.0 t.ranged t.under.due t.under.size in
    let line = HeaderLine h n in
    let xs = lines_from (lines_under h n) (line_due h) s p in
    let ys = lines_for hs (schedule_of s x) in
    record {
      last = o.last;
      here = rw (e.0, e.1, text_append xs ys) (here_then t.here (here_then t.under.here o.here));
      ranged = rw (e.0, e.1) (range_cons line (xs ++ ys) t.ranged (range_both xs ys t.under.ranged o.ranged));
      whole = o.whole;
      inside = λ i. o.inside (t.under.inside (omega (arith, t.here.next, line_inside line s at t.here.stands)));
    }

-- what is taken as sections is the text of those lines
sections_is : (s : List ℕ) (x : Sections) → sections s ≡ Ok x
    → (s ≡ schedule_text (schedule_of s x)) × (all_in_range (lines_of (schedule_of s x)) ≡ true)
unfolding sections schedule_text lines_of
sections_is s x e =
    let w = through_went headers s 0 nothing_found x e in
    let found = w.4.4.4.4.4.4.1 in
    let all : AllNoted headers s 0 nothing_found x w
    = (
      tt,
      (
        ap (λ (f : Sections). f.threads) (sym found),
        (
          ap (λ (f : Sections). f.slots) (sym found),
          (
            ap (λ (f : Sections). f.plain) (sym found),
            (
              ap (λ (f : Sections). f.flag) (sym found),
              (ap (λ (f : Sections). f.steps) (sym found), tt),
            ),
          ),
        ),
      ),
    ) in
    let o = went_held headers s 0 nothing_found x w all in
    (stands_whole s _ (omega (arith, o.whole, o.here.next, o.inside (omega arith))) o.here.stands, o.ranged)

-- whatever the reader takes is exactly the text of the schedule that it gives
pub schedule_only_text : ScheduleOnlyText
unfolding reads judged
schedule_only_text s x e =
    ⊎_elim
    (λ (l : ltb 65536 (length s) ≡ true). let z : ◌≡◌ {A = ℕ} 0 1 = cc (simp l at e) in absurd (omega arith))
    (λ (l : ltb 65536 (length s) ≡ false). go (sections s) refl (simp l at e) (ltb-false 65536 (length s) l))
    (either (ltb 65536 (length s)))
  where
    go : (j : Result Sections Refusal) → sections s ≡ j → outcome s j ≡ schedule x → length s ≤ 65536 → (s ≡ schedule_text x) × HasText x
    go (Err r) q g h = let z : ◌≡◌ {A = ℕ} 0 1 = cc in absurd (omega arith)
    go (Ok f) q g h =
        let is : schedule_of s f ≡ x = cc in
        let t = rw is at (sections_is s f q) in
        (t.0, record { ranged = t.1; short = omega (arith, ap length t.0) })
