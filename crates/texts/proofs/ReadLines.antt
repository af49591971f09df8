-- The text of a line in range is read as that line. Assumes nothing.
use mathlib.Core.Path.{◌≡◌, refl, sym, ap, ◌∙◌}
use mathlib.Core.Bool.{true, false}
use mathlib.Core.List.{List, [], ◌∷◌, ◌++◌}
use mathlib.Core.Logic.{⊎_elim}
use Prim.Native.Nat.{ℕ, zero, suc, ◌+◌, ◌≤◌, ◌<◌, max}
use native.Mathlib.Nat.{add-zero, eq-or-lt_of_le}
use native.Mathlib.Omega.{arith}
use borrow.Author.Tests.{leb-true, eqb-true, eq-eqb}
use lib.Dec.{leb, eqb}
use lib.ListN.{length, get_or, length-append}
use Rattle.form.proofs.Range.{limited_in}
use Rattle.form.specs.Line.{lead_kind, first_form, form_count, due_of, fields_of, line_in_range}
use Rattle.step.specs.Limit.{most}
use Rattle.form.specs.Range.{in_range}
use Rattle.form.specs.Table.{form_total, word_of, kind_a, kind_b, kind_c}
use Rattle.form.specs.Text.{operand_text, lead_text, word_text, form_text, fields_text, line_text}
use Rattle.form.specs.declared.Due.{Due}
use Rattle.form.specs.declared.Due.TheVariants.{HeaderDue, WeightDue, StepDue}
use Rattle.form.specs.declared.Fields.{Fields}
use Rattle.form.specs.declared.Kind.{Kind}
use Rattle.form.specs.declared.Kind.TheVariants.{Nothing, Count, Thousandths}
use Rattle.texts.proofs.Apart.{short, short_a, short_b, short_c, others}
use Rattle.texts.proofs.Fields.{Ranged, ranged, Among, among_table, line_fields, line_among}
use Rattle.operand.specs.Operand.{Number, byte, word, number_at, operand_at, lead_at}
use Rattle.texts.specs.Promise.{LineReadBack}
use Rattle.line.specs.Row.{Row, form_row, find_form, due_row, read_line}
use Rattle.digits.specs.declared.Stopped.{Stopped}
use Rattle.std.specs.Prelude.{Result, Ok, Err}
use Rattle.laws.proofs.Choice.{either, and_right}
use Rattle.number.proofs.Decimal.{length_snoc, length_pow}
use Rattle.digits.proofs.ReadBack.{number_reads, weight_reads}
use Rattle.number.proofs.Standing.{stands_left, stands_right}
use Rattle.number.specs.Bytes.{Stands}
use Rattle.digits.specs.Reading.{got, is_digit}
use Rattle.number.specs.Text.{number_text, weight_text}

byte_reads : (b : ℕ) (s : List ℕ) (at : ℕ) → get_or s at 0 ≡ b → byte b s at ≡ Ok (at + 1)
byte_reads b s at e = rw (eq-eqb _ _ e)

word_reads : (w s : List ℕ) (at : ℕ) → Stands s at (word_text w) → word w s at ≡ Ok (at + length (word_text w))
unfolding word word_text
word_reads [] s at h = rw add-zero
word_reads (b ∷ w) s at h =
    ⊎_elim
    (λ (x : eqb b 0 ≡ true). rw (x, add-zero))
    (λ (x : eqb b 0 ≡ false).
    let g : Stands s at (b ∷ word_text w) = simp x at h in
    rw (x, eq-eqb _ _ g.0) (word_reads w s (at + 1) g.1 ∙ ap (λ (k : ℕ). Ok k) (omega arith)))
    (either (eqb b 0))

-- after a number without a point stands no digit
abbrev Sep : List ℕ → ℕ → Type 0
Sep s p = is_digit (get_or s p 0) ≡ false

sep_space : (s : List ℕ) (p : ℕ) → get_or s p 0 ≡ 32 → Sep s p
unfolding is_digit
sep_space s p e = rw e

sep_end : (s : List ℕ) (p : ℕ) → get_or s p 0 ≡ 10 → Sep s p
unfolding is_digit
sep_end s p e = rw e

-- a number in its range, and the place after it
abbrev good : ℕ → ℕ → Result Number Stopped
good v p = got (Ok v) p

none_reads : (s : List ℕ) (at v : ℕ) → in_range Nothing v ≡ true → number_at Nothing s at ≡ good v (at + 0)
unfolding in_range
none_reads s at v r = rw (limited_in Nothing 0 refl, add-zero, eqb-true v 0 r)

count_reads : (low high v : ℕ) (s : List ℕ) (at : ℕ) → short (Count low high) ≡ true → in_range (Count low high) v ≡ true
    → Stands s at (number_text v) → Sep s (at + length (number_text v))
    → number_at (Count low high) s at ≡ good v (at + length (number_text v))
unfolding in_range
count_reads low high v s at m r h d =
    let top : v ≤ high = leb-true v high (and_right (leb low v) (leb v high) r) in
    rw (number_reads 4 s at v (length_pow 3 v (omega (arith, leb-true high 9999 m))) h d, limited_in (Count low high) v r)

thousandths_reads : (v : ℕ) (s : List ℕ) (at : ℕ) → in_range Thousandths v ≡ true → Stands s at (weight_text v)
    → number_at Thousandths s at ≡ good v (at + length (weight_text v))
unfolding in_range
thousandths_reads v s at r h =
    rw (weight_reads s at v (omega (arith, leb-true v most r)) h, limited_in Thousandths v r)

operand_reads : (k : Kind) (v : ℕ) (s : List ℕ) (at : ℕ) → short k ≡ true → in_range k v ≡ true → Stands s at (operand_text k v)
    → Sep s (at + length (operand_text k v)) → operand_at k s at ≡ good v (at + length (operand_text k v))
unfolding operand_text
operand_reads Nothing v s at m r h d = none_reads s at v r
operand_reads (Count low high) v s at m r h d =
    let e : at + suc (length (number_text v)) ≡ at + 1 + length (number_text v) = omega arith in
    rw (byte_reads 32 s at h.0) (count_reads low high v s (at + 1) m r h.1 (rw e at d) ∙ ap (good v) (sym e))
operand_reads Thousandths v s at m r h d =
    let e : at + suc (length (weight_text v)) ≡ at + 1 + length (weight_text v) = omega arith in
    rw (byte_reads 32 s at h.0) (thousandths_reads v s (at + 1) r h.1 ∙ ap (good v) (sym e))

lead_reads : (k : Kind) (v : ℕ) (s : List ℕ) (at : ℕ) → short k ≡ true → in_range k v ≡ true → Stands s at (lead_text k v)
    → lead_at k s at ≡ good v (at + length (lead_text k v))
unfolding lead_text
lead_reads Nothing v s at m r h = rw (none_reads s at v r)
lead_reads (Count low high) v s at m r h =
    let t = number_text v in
    let p = at + length t in
    let b : get_or s p 0 ≡ 32 = (stands_right s at t (32 ∷ []) h).0 in
    rw (count_reads low high v s at m r (stands_left s at t (32 ∷ []) h) (sep_space s p b), byte_reads 32 s p b)
    (ap (good v) (omega (arith, length_snoc t 32)))
lead_reads Thousandths v s at m r h = rw (thousandths_reads v s at r h)

-- after an operand stands a space or the LF
sep_operand : (k : Kind) (v : ℕ) (rest s : List ℕ) (p : ℕ) → (Stands s p rest → Sep s p) → Stands s p (operand_text k v ++ rest) → Sep s p
unfolding operand_text
sep_operand Nothing v rest s p f h = f h
sep_operand (Count low high) v rest s p f h = sep_space s p h.0
sep_operand Thousandths v rest s p f h = sep_space s p h.0

-- one operand, with what follows it
operand_then : (k : Kind) (v : ℕ) (rest s : List ℕ) (p : ℕ) → short k ≡ true → in_range k v ≡ true
    → (Stands s (p + length (operand_text k v)) rest → Sep s (p + length (operand_text k v)))
    → Stands s p (operand_text k v ++ rest) → operand_at k s p ≡ good v (p + length (operand_text k v))
operand_then k v rest s p m r f h =
    operand_reads k v s p m r (stands_left s p (operand_text k v) rest h) (f (stands_right s p (operand_text k v) rest h))

-- a line's numbers in their ranges, and the place after it
abbrev read : Fields → ℕ → Result Row Stopped
read f p = got (Ok f) p

row_reads : (lead : Kind) (f : Fields) (s : List ℕ) (at : ℕ) → f.form < form_total → Ranged lead f
    → Stands s at (form_text f.form f.a f.b f.c)
    → form_row f.form s (record { value = Ok f.lead; next = at }) ≡ read f (at + length (form_text f.form f.a f.b f.c))
unfolding form_text
row_reads lead f s at n rg h =
    let i = f.form in
    let w = word_of i in let ka = kind_a i in let kb = kind_b i in let kc = kind_c i in
    let tw = word_text w in
    let ta = operand_text ka f.a in let tb = operand_text kb f.b in let tc = operand_text kc f.c in
    let p = at + length tw in let q = p + length ta in let r = q + length tb in let e = r + length tc in
    let rc = tc ++ (10 ∷ []) in let rb = tb ++ rc in let ra = ta ++ rb in
    let ha = stands_right s at tw ra h in
    let hb = stands_right s p ta rb ha in
    let hc = stands_right s q tb rc hb in
    let hl = stands_right s r tc (10 ∷ []) hc in
    let sl : (x : ℕ) → Stands s x (10 ∷ []) → Sep s x = λ x g. sep_end s x g.0 in
    let sc : (x : ℕ) → Stands s x rc → Sep s x = λ x g. sep_operand kc f.c (10 ∷ []) s x (sl x) g in
    let sb : (x : ℕ) → Stands s x rb → Sep s x = λ x g. sep_operand kb f.b rc s x (sc x) g in
    rw (
      word_reads w s at (stands_left s at tw ra h),
      operand_then ka f.a rb s p (short_a i n) rg.a (sb q) ha,
      operand_then kb f.b rc s q (short_b i n) rg.b (sc r) hb,
      operand_then kc f.c (10 ∷ []) s r (short_c i n) rg.c (sl e) hc,
      byte_reads 10 s e hl.0,
    )
    (ap (read f) (omega (arith, length-append tw ra, length-append ta rb, length-append tb rc, length-append tc (10 ∷ []))))

not_fits : (x : Result Row Stopped) → ((r : Row) → x ≡ Ok r → ⊥) → (e : Stopped) × (x ≡ Err e)
not_fits (Ok r) g = absurd (g r refl)
not_fits (Err e) g = (e, refl)

-- a row that is read is found where no earlier one fits
find_from : (left j far : ℕ) (s : List ℕ) (l : Number) (f : Fields) (n : ℕ) → j ≤ f.form → f.form < j + left
    → ((k : ℕ) → k < f.form → j ≤ k → (r : Row) → form_row k s l ≡ Ok r → ⊥) → form_row f.form s l ≡ read f n
    → find_form left j far s l ≡ read f n
unfolding find_form
find_from zero j far s l f n x y g e = absurd (omega arith)
find_from (suc left) j far s l f n x y g e =
    ⊎_elim
    (λ (q : j ≡ f.form). rw (q, e))
    (λ (q : j < f.form).
    let w = not_fits (form_row j s l) (g j q (omega arith)) in
    rw w.1 (find_from left (j + 1) (max far w.0.0) s l f n (omega arith) (omega arith) (λ k u v. g k u (omega arith)) e))
    (eq-or-lt_of_le x)

lead_short : (d : Due) → short (lead_kind d) ≡ true
lead_short (HeaderDue h) = refl
lead_short WeightDue = refl
lead_short StepDue = refl

due_reads : (d : Due) (f : Fields) (s : List ℕ) (at : ℕ) → Among d f.form → Ranged (lead_kind d) f
    → Stands s at (fields_text (lead_kind d) f)
    → due_row d s at ≡ read f (at + length (fields_text (lead_kind d) f))
unfolding due_row fields_text
due_reads d f s at m r h =
    let k = lead_kind d in
    let t = lead_text k f.lead in
    let u = form_text f.form f.a f.b f.c in
    let n = among_table d f.form m in
    let p = at + length t in
    let g : Stands s p u = stands_right s at t u h in
    let l : Number = record { value = Ok f.lead; next = p } in
    rw (lead_reads k f.lead s at (lead_short d) r.lead (stands_left s at t u h))
    (find_from (form_count d) (first_form d) at s l f (p + length u) m.low m.high
    (λ j x y. others f.form j s l f.a f.b f.c n x g) (row_reads k f s p n r g)
    ∙ ap (read f) (omega (arith, length-append t u)))

-- the text of a line in range is read as that line
pub line_reads : LineReadBack
unfolding read_line line_text line_in_range
line_reads x s at r h =
    rw (due_reads (due_of x) (fields_of x) s at (line_among x) (ranged (lead_kind (due_of x)) (fields_of x) r) h, line_fields x)
