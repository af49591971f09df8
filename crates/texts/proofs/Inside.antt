-- A line that stands in a text ends inside it, since its last byte is the LF. Assumes nothing.
use mathlib.Core.Path.{◌≡◌}
use mathlib.Core.List.{List, [], ◌∷◌, ◌++◌}
use Prim.Native.Nat.{ℕ, ◌+◌, ◌≤◌}
use native.Mathlib.Omega.{arith}
use lib.ListN.{length, get_or, length-append}
use Rattle.form.specs.Line.{lead_kind, due_of, fields_of}
use Rattle.form.specs.Table.{word_of, kind_a, kind_b, kind_c}
use Rattle.form.specs.Text.{operand_text, lead_text, word_text, form_text, fields_text, line_text}
use Rattle.form.specs.declared.Line.{Line}
use Rattle.digits.proofs.Digits.{inside}
use Rattle.number.proofs.Standing.{stands_right}
use Rattle.number.specs.Bytes.{Stands}

form_inside : (s : List ℕ) (at i a b c : ℕ) → Stands s at (form_text i a b c) → at + length (form_text i a b c) ≤ length s
unfolding form_text
form_inside s at i a b c h =
    let tw = word_text (word_of i) in
    let ta = operand_text (kind_a i) a in let tb = operand_text (kind_b i) b in let tc = operand_text (kind_c i) c in
    let rc = tc ++ (10 ∷ []) in let rb = tb ++ rc in let ra = ta ++ rb in
    let p = at + length tw in let q = p + length ta in let r = q + length tb in
    let hc = stands_right s q tb rc (stands_right s p ta rb (stands_right s at tw ra h)) in
    let lf : get_or s (r + length tc) 0 ≡ 10 = (stands_right s r tc (10 ∷ []) hc).0 in
    omega (arith, inside s (r + length tc) (omega (arith, lf)), length-append tw ra, length-append ta rb, length-append tb rc, length-append tc (10 ∷ []))

pub line_inside : (x : Line) (s : List ℕ) (at : ℕ) → Stands s at (line_text x) → at + length (line_text x) ≤ length s
unfolding line_text fields_text
line_inside x s at h =
    let f = fields_of x in
    let tl = lead_text (lead_kind (due_of x)) f.lead in
    let tf = form_text f.form f.a f.b f.c in
    omega (arith, form_inside s (at + length tl) f.form f.a f.b f.c (stands_right s at tl tf h), length-append tl tf)
