-- What is promised of lines that are written holds. Assumes nothing.
use mathlib.Core.Path.{◌≡◌, refl, ◌∙◌}
use mathlib.Core.Bool.{true, false}
use mathlib.Core.List.{List}
use mathlib.Core.Logic.{◌⊎◌, ⊎_elim}
use Prim.Native.Nat.{ℕ, ◌+◌, ◌≤◌, ◌<◌}
use native.Mathlib.Nat.{not-suc-le-zero}
use native.Mathlib.Omega.{arith}
use lib.ListN.{length, get_or}
use lib.Seq.{sets, length-sets}
use Rattle.form.specs.Line.{due_of, line_in_range}
use Rattle.form.specs.Text.{line_text}
use Rattle.form.specs.declared.Line.{Line}
use Rattle.texts.proofs.Apart.{short}
use Rattle.texts.proofs.ReadLines.{line_reads}
use Rattle.line.specs.Row.{read_line}
use Rattle.std.specs.Prelude.{Ok}
use Rattle.laws.proofs.Choice.{either}
use Rattle.number.proofs.Stores.{below_sets, after_sets, stands_sets, room_yes}
use Rattle.number.specs.Buffer.{room, placed, put_at, put_number}
use Rattle.std.specs.Prelude.{Result, Some, None, Ok, Err}
use Rattle.printed.specs.Printed.{answer_line, printed_text}
use Rattle.promises.specs.Writing.{WrittenBack, OnlyItsBytes, RefusedUntouched, PrintedUntouched, SaidPrinted}
use Rattle.step.specs.declared.Answer.TheVariants as answer
use Rattle.writer.specs.Writer.{line_written, line_placed, written_number}
use Rattle.writer.specs.declared.Unwritten.{Unwritten}
use Rattle.writer.specs.declared.Unwritten.TheVariants.{NotInRange, NoRoom}

-- a line in range, with room or not
module _ (l : List ℕ) (at : ℕ) (x : Line) (r : line_in_range x ≡ true) where
  written_room : room l at (length (line_text x)) ≡ true
      → (line_written l at x ≡ Ok (at + length (line_text x))) × (line_placed l at x ≡ sets l at (line_text x))
  unfolding line_written line_placed placed
  written_room e = (rw (r, e), rw (r, e))

  written_short : room l at (length (line_text x)) ≡ false → (line_written l at x ≡ Err NoRoom) × (line_placed l at x ≡ l)
  unfolding line_written line_placed placed
  written_short e = (rw (r, e), rw (r, e))

written_out : (l : List ℕ) (at : ℕ) (x : Line) → line_in_range x ≡ false → (line_written l at x ≡ Err NotInRange) × (line_placed l at x ≡ l)
unfolding line_written line_placed
written_out l at x e = (rw e, rw e)

-- what holds in each of the three cases holds
by_answer : (P : Result ℕ Unwritten → List ℕ → Type 0) (l : List ℕ) (at : ℕ) (x : Line)
    → (line_in_range x ≡ true → at + length (line_text x) ≤ length l → P (Ok (at + length (line_text x))) (sets l at (line_text x)))
    → P (Err NoRoom) l → P (Err NotInRange) l → P (line_written l at x) (line_placed l at x)
by_answer P l at x fits short out =
    ⊎_elim
    (λ (r : line_in_range x ≡ true). ⊎_elim
    (λ (e : room l at (length (line_text x)) ≡ true). let w = written_room l at x r e in rw (w.0, w.1) (fits r (room_yes l at (length (line_text x)) e)))
    (λ (e : room l at (length (line_text x)) ≡ false). let w = written_short l at x r e in rw (w.0, w.1) short)
    (either (room l at (length (line_text x)))))
    (λ (e : line_in_range x ≡ false). let w = written_out l at x e in rw (w.0, w.1) out)
    (either (line_in_range x))

pub written_back : WrittenBack
written_back l at x p =
    by_answer (λ w m. w ≡ Ok p → read_line (due_of x) m at ≡ Ok (record { value = x; next = p })) l at x
    (λ r h e.
    let q : at + length (line_text x) ≡ p = cc in
    line_reads x (sets l at (line_text x)) at r (stands_sets (line_text x) l at h) ∙ (λ i. Ok (record { value = x; next = q i })))
    (λ e. cc)
    (λ e. cc)

pub only_its_bytes : OnlyItsBytes
only_its_bytes l at x =
    by_answer
    (λ w m. (length m ≡ length l) × ((k : ℕ) → (k < at) ⊎ (at + length (line_text x) ≤ k) → get_or m k 0 ≡ get_or l k 0)) l at x
    (λ r h. (length-sets l at (line_text x), λ k o. ⊎_elim (below_sets (line_text x) l at k) (after_sets (line_text x) l at k) o))
    (refl, λ k o. refl)
    (refl, λ k o. refl)

pub refused_untouched : RefusedUntouched
refused_untouched l at x =
    by_answer (λ w m. 0 < written_number w → m ≡ l) l at x (λ r h n. absurd (not-suc-le-zero n)) (λ n. refl) (λ n. refl)

-- a text that has no room
put_short : (l : List ℕ) (at : ℕ) (t : List ℕ) → put_number (put_at l at t) ≡ 15 → placed l at t ≡ l
unfolding put_at placed
put_short l at t n =
    ⊎_elim
    (λ (e : room l at (length t) ≡ true). absurd (omega (arith, rw e at n)))
    (λ (e : room l at (length t) ≡ false). rw e)
    (either (room l at (length t)))

pub printed_untouched : PrintedUntouched
printed_untouched l (Some p) x n = put_short l p (printed_text x) n
printed_untouched l None x n = refl

pub said_printed : SaidPrinted
unfolding answer_line
said_printed n answer.Dash = refl
said_printed n answer.Ok = refl
said_printed n (answer.Value v) = refl
said_printed n answer.Yes = refl
said_printed n answer.No = refl
said_printed n answer.None = refl
said_printed n (answer.Got w) = refl
said_printed n (answer.Refused k) = refl
