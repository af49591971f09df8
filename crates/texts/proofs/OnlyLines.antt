-- Whatever the line reader takes is the text of the line that it gives. Assumes nothing.
use mathlib.Core.Path.{◌≡◌, refl, sym, ap, ◌∙◌}
use mathlib.Core.List.{List, ◌++◌}
use Prim.Native.Nat.{ℕ, zero, suc, ◌+◌, ◌≤◌, ◌<◌, max}
use native.Mathlib.Omega.{arith}
use lib.ListN.{get_or}
use Rattle.form.specs.Line.{lead_kind, first_form, form_count, due_of, fields_of, line_of, line_in_range}
use Rattle.form.specs.Table.{word_of, kind_a, kind_b, kind_c}
use Rattle.form.specs.Text.{form_text, fields_text, line_text, lead_text}
use Rattle.form.specs.declared.Fields.{Fields}
use Rattle.form.specs.declared.Line.{Line}
use Rattle.form.specs.declared.Kind.{Kind}
use Rattle.texts.proofs.Fields.{Ranged, fields_ranged, Among, fields_line, due_line}
use Rattle.texts.proofs.Operands.{here_as, byte_is, word_is, operand_is, lead_is}
use Rattle.operand.specs.Operand.{Number, word, operand_at, lead_at, end_at}
use Rattle.operand.specs.declared.OutOfRange.{OutOfRange}
use Rattle.texts.specs.Promise.{TakenLine, LineOnlyText}
use Rattle.line.specs.Row.{Row, in_order, form_row, or_else, find_form, due_row, read_line}
use Rattle.digits.proofs.Digits.{after_ok, got_ok}
use Rattle.number.proofs.Standing.{here_then, here_byte}
use Rattle.number.specs.Bytes.{Here}
use Rattle.digits.specs.declared.Read.{Read}
use Rattle.digits.specs.declared.Stopped.{Stopped}
use Rattle.std.specs.Prelude.{Result, Ok, Err}

-- the parts of a line that fits a row, each where the one before it ended
pub record Parts (i : ℕ) (s : List ℕ) (lead : Number) (r : Row) : Type 0 where
  pub next : ℕ
  pub a : Number
  pub b : Number
  pub c : Number
  pub word_is : word (word_of i) s lead.next ≡ Ok next
  pub a_is : operand_at (kind_a i) s next ≡ Ok a
  pub b_is : operand_at (kind_b i) s a.next ≡ Ok b
  pub c_is : operand_at (kind_c i) s b.next ≡ Ok c
  pub lf : get_or s c.next 0 ≡ 10
  pub ends : c.next + 1 ≡ r.next
  pub fields_are : in_order i lead.value a.value b.value c.value ≡ r.value

pub row_parts : (i : ℕ) (s : List ℕ) (lead : Number) (r : Row) → form_row i s lead ≡ Ok r → Parts i s lead r
row_parts i s lead r e =
    let w = after_ok (word (word_of i) s lead.next) _ r e in
    let a = after_ok (operand_at (kind_a i) s w.0) _ r w.2 in
    let b = after_ok (operand_at (kind_b i) s a.0.next) _ r a.2 in
    let c = after_ok (operand_at (kind_c i) s b.0.next) _ r b.2 in
    let l = after_ok (end_at s c.0.next) _ r c.2 in
    let lf = byte_is 10 s c.0.next l.0 l.1 in
    let g = got_ok _ _ r l.2 in
    record {
      next = w.0;
      a = a.0;
      b = b.0;
      c = c.0;
      word_is = w.1;
      a_is = a.1;
      b_is = b.1;
      c_is = c.1;
      lf = lf.0;
      ends = lf.1 ∙ g.1;
      fields_are = g.0;
    }

in_order_lem : (i : ℕ) (l a b c : Result ℕ OutOfRange) (f : Fields) → in_order i l a b c ≡ Ok f
    → (l ≡ Ok f.lead) × (a ≡ Ok f.a) × (b ≡ Ok f.b) × (c ≡ Ok f.c) × (f.form ≡ i)
in_order_lem i l a b c f e =
    let t = after_ok l _ f e in
    let x = after_ok a _ f t.2 in
    let y = after_ok b _ f x.2 in
    let z = after_ok c _ f y.2 in
    (cc (t.1, z.2), cc (x.1, z.2), cc (y.1, z.2), cc (z.1, z.2), cc z.2)

-- what is taken as a line of a row is that row's text
record Filled (k : Kind) (i : ℕ) (s : List ℕ) (at : ℕ) (f : Fields) (n : ℕ) : Type 0 where
  pub here : Here s at (fields_text k f) n
  pub ranged : Ranged k f
  pub row : f.form ≡ i

row_is : (k : Kind) (i : ℕ) (s : List ℕ) (at : ℕ) (l : Number) (r : Row) (f : Fields)
    → lead_at k s at ≡ Ok l → form_row i s l ≡ Ok r → r.value ≡ Ok f → Filled k i s at f r.next
unfolding fields_text form_text
row_is k i s at l r f q e h =
    let p = row_parts i s l r e in
    let o = in_order_lem i l.value p.a.value p.b.value p.c.value f (p.fields_are ∙ h) in
    let hl = lead_is k s at l q f.lead o.0 in
    let hw = word_is (word_of i) s l.next p.next p.word_is in
    let ha = operand_is (kind_a i) s p.next p.a p.a_is f.a o.1 in
    let hb = operand_is (kind_b i) s p.a.next p.b p.b_is f.b o.2 in
    let hc = operand_is (kind_c i) s p.b.next p.c p.c_is f.c o.3 in
    record {
      here =
          here_as (ap (λ (j : ℕ). lead_text k f.lead ++ form_text j f.a f.b f.c) (sym o.4)) p.ends
          (here_then hl.0 (here_then hw (here_then ha.0 (here_then hb.0 (here_then hc.0 (here_byte p.lf))))));
      ranged = record { lead = hl.1; a = rw o.4 ha.1; b = rw o.4 hb.1; c = rw o.4 hc.1 };
      row = o.4;
    }

-- one of so many rows that gave what was taken
abbrev Found : ℕ → ℕ → List ℕ → Number → Row → Type 0
Found left j s l r = (i : ℕ) × (j ≤ i) × (i < j + left) × (form_row i s l ≡ Ok r)

else_is : (left j far : ℕ) (s : List ℕ) (l : Number) (r : Row) (go : ℕ → Result Row Stopped) (x : Result Row Stopped) → form_row j s l ≡ x
    → ((m : ℕ) → go m ≡ Ok r → Found left (j + 1) s l r) → or_else x far go ≡ Ok r → Found (suc left) j s l r
else_is left j far s l r go (Ok g) q rest e = (j, omega arith, omega arith, q ∙ e)
else_is left j far s l r go (Err x) q rest e = let o = rest (max far x.0) e in (o.0, omega arith, omega arith, o.3)

find_is : (left j far : ℕ) (s : List ℕ) (l : Number) (r : Row) → find_form left j far s l ≡ Ok r → Found left j s l r
unfolding find_form
find_is zero j far s l r e = cc
find_is (suc left) j far s l r e =
    else_is left j far s l r _ (form_row j s l) refl (λ m g. find_is left (j + 1) m s l r g) e

-- whatever the line reader takes is exactly the text of what it gives
pub line_is : LineOnlyText
unfolding read_line due_row line_text line_in_range
line_is d s at x n e = go (due_row d s at) refl
  where
    taken : (r : Row) (f : Fields) → due_row d s at ≡ Ok r → r.value ≡ Ok f → TakenLine d s at x n
    taken r f q h =
        let l = after_ok (lead_at (lead_kind d) s at) _ r q in
        let o = find_is (form_count d) (first_form d) at s l.0 r l.2 in
        let t = row_is (lead_kind d) o.0 s at l.0 r f l.1 o.3 h in
        let among : Among d f.form = record { low = omega (arith, t.row); high = omega (arith, t.row) } in
        let one : ◌≡◌ {A = Read Line} (record { value = line_of d f; next = r.next }) (record { value = x; next = n }) = cc (rw (q, h) at e) in
        let is : line_of d f ≡ x = ap (λ (y : Read Line). y.value) one in
        let last : r.next ≡ n = ap (λ (y : Read Line). y.next) one in
        let due : due_of x ≡ d = sym (ap due_of is) ∙ due_line d f in
        let same : fields_of x ≡ f = sym (ap fields_of is) ∙ fields_line d f among t.ranged in
        record {
          here = rw (due, same, ← last) t.here;
          ranged = rw (due, same) (fields_ranged (lead_kind d) f t.ranged);
          is_due = due;
        }

    value : (r : Row) (v : Result Fields OutOfRange) → due_row d s at ≡ Ok r → r.value ≡ v → TakenLine d s at x n
    value r (Ok f) q h = taken r f q h
    value r (Err y) q h = cc (rw (q, h) at e)

    go : (r : Result Row Stopped) → due_row d s at ≡ r → TakenLine d s at x n
    go (Ok r) q = value r r.value q refl
    go (Err y) q = cc (rw q at e)
