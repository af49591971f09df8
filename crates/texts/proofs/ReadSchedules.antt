-- The text of every schedule that has one is read as that schedule. Assumes nothing.
use mathlib.Core.Path.{◌≡◌, refl, ap, ◌∙◌}
use mathlib.Core.Bool.{true}
use mathlib.Core.List.{List, [], ◌∷◌, ◌++◌, map}
use Prim.Native.Nat.{ℕ, ◌+◌}
use native.Mathlib.Nat.{add-zero}
use native.Mathlib.Omega.{arith}
use borrow.Author.Tests.{le-ltb}
use lib.ListN.{length, take, length-append, length-map}
use Rattle.form.specs.Line.{due_of}
use Rattle.form.specs.Text.{line_text}
use Rattle.form.specs.declared.Due.{Due}
use Rattle.form.specs.declared.Due.TheVariants.{WeightDue, StepDue}
use Rattle.form.specs.declared.Header.{Header}
use Rattle.form.specs.declared.Header.TheVariants.{Shape, Threads, Slots, Plain, Flag, Steps}
use Rattle.form.specs.declared.Line.{Line}
use Rattle.form.specs.declared.Line.TheVariants.{HeaderLine, WeightLine, StepLine}
use Rattle.texts.proofs.ReadLines.{line_reads}
use Rattle.line.specs.Row.{read_line}
use Rattle.std.specs.Prelude.{Ok}
use Rattle.number.proofs.Standing.{stands_left, stands_right, stands_self}
use Rattle.number.specs.Bytes.{Stands}
use Rattle.texts.proofs.Lines.{text_append, range_left, range_right, range_head, range_tail, AllDue}
use Rattle.texts.specs.Promise.{ScheduleReadBack}
use Rattle.texts.specs.Schedule.{Schedule, count_for, lines_in, lines_for, lines_of, text_of, schedule_text, all_in_range, lines_from, weight_in, step_in, weights_at, steps_at, schedule_of, schedule, outcome, reads}
use Rattle.schedule.specs.Sections.{lines_past, lines_under, line_due, section, nothing_found, noted, through, headers, sections, judged}
use Rattle.schedule.specs.declared.Sections.{Sections}

-- lines of one section are read
lines_read : (xs : List Line) (d : Due) (s : List ℕ) (at : ℕ) → AllDue d xs → all_in_range xs ≡ true → Stands s at (text_of xs)
    → (lines_past (length xs) d s at ≡ Ok (at + length (text_of xs))) × (lines_from (length xs) d s at ≡ xs)
unfolding lines_past lines_from text_of
lines_read [] d s at a r st = (rw add-zero, refl)
lines_read (x ∷ xs) d s at a r st =
    let t = line_text x in
    let p = at + length t in
    let e : read_line d s at ≡ Ok (record { value = x; next = p })
    = rw (← a.0) (line_reads x s at (range_head x xs r) (stands_left s at t (text_of xs) st)) in
    let o = lines_read xs d s p a.1 (range_tail x xs r) (stands_right s at t (text_of xs) st) in
    rw e (o.0 ∙ ap Ok (omega (arith, length-append t (text_of xs))), ap (λ (l : List Line). x ∷ l) o.1)

due_all : {A : Type 0} (d : Due) (make : A → Line) → ((a : A) → due_of (make a) ≡ d) → (vs : List A) → AllDue d (map make vs)
due_all d make one [] = tt
due_all d make one (a ∷ vs) = (one a, due_all d make one vs)

taken_apart : {A : Type 0} (make : A → Line) (take : Line → A) → ((a : A) → take (make a) ≡ a) → (vs : List A) → map take (map make vs) ≡ vs
taken_apart make take one [] = refl
taken_apart make take one (a ∷ vs) = λ i. one a i ∷ taken_apart make take one vs i

-- so are the lines of weights, and of steps, and what they hold
held_read : {A : Type 0} (d : Due) (make : A → Line) (take : Line → A) → ((a : A) → due_of (make a) ≡ d) → ((a : A) → take (make a) ≡ a)
    → (vs : List A) (s : List ℕ) (at : ℕ) → all_in_range (map make vs) ≡ true → Stands s at (text_of (map make vs))
    → (lines_past (length vs) d s at ≡ Ok (at + length (text_of (map make vs)))) × (map take (lines_from (length vs) d s at) ≡ vs)
held_read d make take one back vs s at r st =
    let o = rw (length-map vs make) at (lines_read (map make vs) d s at (due_all d make one vs) r st) in
    (o.0, ap (λ (l : List Line). map take l) o.1 ∙ taken_apart make take back vs)

-- the first line of a text, and what follows it
stands_line : (x : Line) (xs : List Line) (s : List ℕ) (at : ℕ) → Stands s at (text_of (x ∷ xs))
    → Stands s at (line_text x) × Stands s (at + length (line_text x)) (text_of xs)
unfolding text_of
stands_line x xs s at st = (stands_left s at (line_text x) (text_of xs) st, stands_right s at (line_text x) (text_of xs) st)

length_line : (x : Line) (xs : List Line) → length (text_of (x ∷ xs)) ≡ length (line_text x) + length (text_of xs)
unfolding text_of
length_line x xs = length-append (line_text x) (text_of xs)

-- the first lines of a text, and what follows them
stands_lines : (xs ys : List Line) (s : List ℕ) (at : ℕ) → Stands s at (text_of (xs ++ ys))
    → Stands s at (text_of xs) × Stands s (at + length (text_of xs)) (text_of ys)
stands_lines xs ys s at st =
    let g = rw (text_append xs ys) at st in (stands_left s at (text_of xs) (text_of ys) g, stands_right s at (text_of xs) (text_of ys) g)

length_lines : (xs ys : List Line) → length (text_of (xs ++ ys)) ≡ length (text_of xs) + length (text_of ys)
length_lines xs ys = ap length (text_append xs ys) ∙ length-append (text_of xs) (text_of ys)

-- the lines under a header line at a place are read as what the schedule has there
abbrev Held : List ℕ → Header → Schedule → ℕ → Type 0
Held s Shape x p = Unit {0}
Held s Threads x p = Unit {0}
Held s Slots x p = Unit {0}
Held s Plain x p = weights_at s (section (length x.plain) p) ≡ x.plain
Held s Flag x p = weights_at s (section (length x.flag) p) ≡ x.flag
Held s Steps x p = steps_at s (section (length x.steps) p) ≡ x.steps

lines_in_lem : (h : Header) (x : Schedule) (s : List ℕ) (p : ℕ) → all_in_range (lines_in h x) ≡ true → Stands s p (text_of (lines_in h x))
    → (lines_past (lines_under h (count_for h x)) (line_due h) s p ≡ Ok (p + length (text_of (lines_in h x)))) × Held s h x p
unfolding lines_past text_of
lines_in_lem Shape x s p r st = (rw add-zero, tt)
lines_in_lem Threads x s p r st = (rw add-zero, tt)
lines_in_lem Slots x s p r st = (rw add-zero, tt)
lines_in_lem Plain x s p r st = held_read WeightDue WeightLine weight_in (λ w. refl) (λ w. refl) x.plain s p r st
lines_in_lem Flag x s p r st = held_read WeightDue WeightLine weight_in (λ w. refl) (λ w. refl) x.flag s p r st
lines_in_lem Steps x s p r st = held_read StepDue StepLine step_in (λ w. refl) (λ w. refl) x.steps s p r st

-- where a header line's lines begin, and where they end
abbrev begins : Header → Schedule → ℕ → ℕ
begins h x at = at + length (line_text (HeaderLine h (count_for h x)))

abbrev ends : Header → Schedule → ℕ → ℕ
ends h x at = begins h x at + length (text_of (lines_in h x))

-- what is found of a schedule, and what its lines are read as
abbrev found_for : List Header → Schedule → ℕ → Sections → Sections
found_for [] x at f = f
found_for (h ∷ hs) x at f = found_for hs x (ends h x at) (noted h (count_for h x) (begins h x at) f)

abbrev AllHeld : List ℕ → List Header → Schedule → ℕ → Type 0
AllHeld s [] x at = Unit {0}
AllHeld s (h ∷ hs) x at = Held s h x (begins h x at) × AllHeld s hs x (ends h x at)

through_read : (hs : List Header) (x : Schedule) (s : List ℕ) (at : ℕ) (f : Sections) → all_in_range (lines_for hs x) ≡ true
    → Stands s at (text_of (lines_for hs x))
    → (through hs s at f ≡ through [] s (at + length (text_of (lines_for hs x))) (found_for hs x at f)) × AllHeld s hs x at
unfolding through lines_for text_of
through_read [] x s at f r st = (rw add-zero, tt)
through_read (h ∷ hs) x s at f r st =
    let n = count_for h x in let line = HeaderLine h n in let xs = lines_in h x in let ys = lines_for hs x in
    let p = begins h x at in let q = ends h x at in
    let later = range_tail line (xs ++ ys) r in
    let first = stands_line line (xs ++ ys) s at st in
    let rest = stands_lines xs ys s p first.1 in
    let e = line_reads line s at (range_head line (xs ++ ys) r) first.0 in
    let l = lines_in_lem h x s p (range_left xs ys later) rest.0 in
    let o = through_read hs x s q (noted h n p f) (range_right xs ys later) rest.1 in
    let size : at + length (text_of (line ∷ (xs ++ ys))) ≡ q + length (text_of ys) =
    omega (arith, length_line line (xs ++ ys), length_lines xs ys) in
    (rw (e, l.0, size) o.0, (l.1, o.1))

concluded : (s : List ℕ) (p : ℕ) (f : Sections) (x : Schedule) → sections s ≡ through [] s p f → p ≡ length s → schedule_of s f ≡ x
    → outcome s (sections s) ≡ schedule x
unfolding through
concluded s p f x e q h = rw (e, le-ltb p (length s) (omega arith)) (ap schedule h)

-- where the lines of a schedule stand over a whole text, its sections hold that schedule
sections_read : (x : Schedule) (s : List ℕ) → all_in_range (lines_of x) ≡ true → Stands s 0 (text_of (lines_of x)) → length s ≡ length (text_of (lines_of x))
    → outcome s (sections s) ≡ schedule x
unfolding sections lines_of schedule_of
sections_read x s r st size =
    let o = through_read headers x s 0 nothing_found r st in
    let held = o.1.1.1.1 in
    concluded s _ _ x o.0 (omega (arith, size))
    (λ i. record { threads = x.threads; slots = x.slots; plain = held.0 i; flag = held.1.0 i; steps = held.1.1.0 i })

-- the text of a schedule that has one is read as that schedule
pub schedule_read_back : ScheduleReadBack
unfolding reads judged schedule_text
schedule_read_back x t =
    let s = text_of (lines_of x) in
    rw (le-ltb 65536 (length s) t.short) (sections_read x s t.ranged (stands_self s) refl)
