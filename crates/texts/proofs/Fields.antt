-- A line and its fields, each from the other, and the ranges of the fields one by one. Assumes nothing.
use mathlib.Core.Path.{◌≡◌, refl}
use mathlib.Core.Bool.{true, ◌&&◌}
use Prim.Native.Nat.{ℕ, zero, suc, ◌+◌, ◌≤◌, ◌<◌}
use native.Mathlib.Omega.{arith}
use borrow.Author.Tests.{eqb-true}
use Rattle.form.specs.Line.{lead_kind, header_form, first_form, form_count, due_of, fields, step_fields, fields_of, verb_of, line_of, fields_in_range}
use Rattle.form.specs.Range.{in_range}
use Rattle.form.specs.Table.{thread, step_forms, bare_form, form_total, forms, form_at, kind_a, kind_b, kind_c}
use Rattle.form.specs.declared.Due.{Due}
use Rattle.form.specs.declared.Due.TheVariants.{HeaderDue, WeightDue, StepDue}
use Rattle.form.specs.declared.Fields.{Fields}
use Rattle.form.specs.declared.Header.{Header}
use Rattle.form.specs.declared.Header.TheVariants.{Shape, Threads, Slots, Plain, Flag, Steps}
use Rattle.form.specs.declared.Kind.{Kind}
use Rattle.form.specs.declared.Kind.TheVariants.{Nothing, Thousandths}
use Rattle.form.specs.declared.Line.{Line}
use Rattle.form.specs.declared.Line.TheVariants.{HeaderLine, WeightLine, StepLine}
use Rattle.laws.proofs.Choice.{and_left, and_right}
use Rattle.step.specs.declared.Verb.{Verb}
use Rattle.step.specs.declared.Verb.TheVariants.{Get, Set, Load, Store, Swap, Put, Take, Go, GoAt}

-- each number in the range of its kind
pub record Ranged (k : Kind) (f : Fields) : Type 0 where
  pub lead : in_range k f.lead ≡ true
  pub a : in_range (kind_a f.form) f.a ≡ true
  pub b : in_range (kind_b f.form) f.b ≡ true
  pub c : in_range (kind_c f.form) f.c ≡ true

pub ranged : (k : Kind) (f : Fields) → fields_in_range k f ≡ true → Ranged k f
unfolding fields_in_range
ranged k f e =
    let x = in_range k f.lead in
    let a = in_range (kind_a f.form) f.a in
    let b = in_range (kind_b f.form) f.b in
    let c = in_range (kind_c f.form) f.c in
    let abc = and_right x (a && (b && c)) e in
    let bc = and_right a (b && c) abc in
    record { lead = and_left x (a && (b && c)) e; a = and_left a (b && c) abc; b = and_left b c bc; c = and_right b c bc }

pub fields_ranged : (k : Kind) (f : Fields) → Ranged k f → fields_in_range k f ≡ true
unfolding fields_in_range
fields_ranged k f r = simp (r.lead, r.a, r.b, r.c)

-- an operand that is not there is 0
absent : (v : ℕ) → in_range Nothing v ≡ true → v ≡ 0
unfolding in_range
absent v e = eqb-true v 0 e

header_fields : (h : Header) (t a b c : ℕ) → Ranged Nothing (fields t (header_form h) a b c) → fields 0 (header_form h) a 0 0 ≡ fields t (header_form h) a b c
unfolding form_at forms
header_fields Shape t a b c r = rw (absent t r.lead, absent b r.b, absent c r.c)
header_fields Threads t a b c r = rw (absent t r.lead, absent b r.b, absent c r.c)
header_fields Slots t a b c r = rw (absent t r.lead, absent b r.b, absent c r.c)
header_fields Plain t a b c r = rw (absent t r.lead, absent b r.b, absent c r.c)
header_fields Flag t a b c r = rw (absent t r.lead, absent b r.b, absent c r.c)
header_fields Steps t a b c r = rw (absent t r.lead, absent b r.b, absent c r.c)

step_fields_lem : (t i a b c : ℕ) → i < step_forms → Ranged thread (fields t i a b c) → step_fields t (verb_of i a b c) ≡ fields t i a b c
unfolding verb_of form_at forms
step_fields_lem t zero a b c h r = rw (absent c r.c)
step_fields_lem t (suc zero) a b c h r = refl
step_fields_lem t (suc (suc zero)) a b c h r = rw (absent b r.b, absent c r.c)
step_fields_lem t (suc (suc (suc zero))) a b c h r = rw (absent c r.c)
step_fields_lem t (suc (suc (suc (suc zero)))) a b c h r = refl
step_fields_lem t (suc (suc (suc (suc (suc zero))))) a b c h r = rw (absent b r.b, absent c r.c)
step_fields_lem t (suc (suc (suc (suc (suc (suc zero)))))) a b c h r = rw (absent a r.a, absent b r.b, absent c r.c)
step_fields_lem t (suc (suc (suc (suc (suc (suc (suc zero))))))) a b c h r = rw (absent a r.a, absent b r.b, absent c r.c)
step_fields_lem t (suc (suc (suc (suc (suc (suc (suc (suc zero)))))))) a b c h r = rw (absent b r.b, absent c r.c)
step_fields_lem t (suc (suc (suc (suc (suc (suc (suc (suc (suc i))))))))) a b c h r = absurd (omega arith)

-- a row that the line due may have
pub record Among (d : Due) (i : ℕ) : Type 0 where
  pub low : first_form d ≤ i
  pub high : i < first_form d + form_count d

pub header_row : (h : Header) → header_form h < form_total
header_row Shape = omega arith
header_row Threads = omega arith
header_row Slots = omega arith
header_row Plain = omega arith
header_row Flag = omega arith
header_row Steps = omega arith

pub among_table : (d : Due) (i : ℕ) → Among d i → i < form_total
among_table (HeaderDue h) i m = omega (arith, header_row h)
among_table WeightDue i m = omega arith
among_table StepDue i m = omega arith

header_at : (h : Header) (t i a b c : ℕ) → i ≡ header_form h → Ranged Nothing (fields t i a b c) → fields 0 (header_form h) a 0 0 ≡ fields t i a b c
header_at h t i a b c e r = rw e (header_fields h t a b c (rw e at r))

weight_at : (t i a b c : ℕ) → i ≡ bare_form → Ranged Thousandths (fields t i a b c) → fields t bare_form 0 0 0 ≡ fields t i a b c
unfolding form_at forms
weight_at t i a b c e r =
    let q : Ranged Thousandths (fields t bare_form a b c) = rw e at r in
    rw (e, absent a q.a, absent b q.b, absent c q.c)

pub fields_line : (d : Due) (f : Fields) → Among d f.form → Ranged (lead_kind d) f → fields_of (line_of d f) ≡ f
fields_line (HeaderDue h) f m r = header_at h f.lead f.form f.a f.b f.c (omega arith) r
fields_line WeightDue f m r = weight_at f.lead f.form f.a f.b f.c (omega arith) r
fields_line StepDue f m r = step_fields_lem f.lead f.form f.a f.b f.c m.high r

pub due_line : (d : Due) (f : Fields) → due_of (line_of d f) ≡ d
due_line (HeaderDue h) f = refl
due_line WeightDue f = refl
due_line StepDue f = refl

step_line : (t : ℕ) (v : Verb) → line_of StepDue (step_fields t v) ≡ StepLine (record { thread = t; verb = v })
unfolding verb_of
step_line t (Get a b) = refl
step_line t (Set a b c) = refl
step_line t (Load a) = refl
step_line t (Store a b) = refl
step_line t (Swap a b c) = refl
step_line t (Put a) = refl
step_line t Take = refl
step_line t Go = refl
step_line t (GoAt a) = refl

pub line_fields : (x : Line) → line_of (due_of x) (fields_of x) ≡ x
line_fields (HeaderLine h n) = refl
line_fields (WeightLine w) = refl
line_fields (StepLine s) = step_line s.thread s.verb

step_among : (t : ℕ) (v : Verb) → (step_fields t v).form < step_forms
step_among t (Get a b) = omega arith
step_among t (Set a b c) = omega arith
step_among t (Load a) = omega arith
step_among t (Store a b) = omega arith
step_among t (Swap a b c) = omega arith
step_among t (Put a) = omega arith
step_among t Take = omega arith
step_among t Go = omega arith
step_among t (GoAt a) = omega arith

pub line_among : (x : Line) → Among (due_of x) (fields_of x).form
line_among (HeaderLine h n) = record { low = omega arith; high = omega arith }
line_among (WeightLine w) = record { low = omega arith; high = omega arith }
line_among (StepLine s) = record { low = omega arith; high = step_among s.thread s.verb }
