-- Reports are short, so a buffer of 131,072 bytes holds every one whole. Assumes nothing.
use Prim.Native.Nat.{◌+◌, ◌*◌, ◌-◌, ◌<◌, ◌≤◌, suc, zero, ℕ}
use lib.ListN.{length, length-append}
use lib.Seq.{sets}
use mathlib.Core.Bool.{true}
use mathlib.Core.List.{List, [], ◌++◌, map}
use mathlib.Core.Path.{◌∙◌, ◌≡◌, ap, refl}
use native.Mathlib.Omega.{arith}
use Rattle.std.specs.Prelude.{Option, Some, None}
use Rattle.fault.specs.Refusal.{number_of, place_of}
use Rattle.fault.specs.declared.Refusal.{Refusal}
use Rattle.fault.specs.declared.Refusal.TheVariants as refused_as
use Rattle.rules.specs.Step.{content_of}
use Rattle.number.proofs.Decimal.{length_pow}
use Rattle.number.specs.Buffer.{Wrote}
use Rattle.opening.specs.Opening.{opened_of}
use Rattle.printed.proofs.Fits.{answer_short, heading_short, lines_append, put_whole, three_width, two_width}
use Rattle.printed.proofs.Laws.{spelled_short}
use Rattle.printed.specs.Printed.{Page, answer_line, field_text, lines_text, printed_text}
use Rattle.printed.specs.declared.Field.TheVariants.{Counts, Says}
use Rattle.printed.specs.declared.Printed.TheVariants.{Two}
use Rattle.printed.specs.declared.Word.TheVariants as word
use Rattle.reported.proofs.Answers.{content_in}
use Rattle.step.specs.Refused.{number_in}
use Rattle.reported.proofs.Comes.{Few, Listed, few, listed, refused_small}
use Rattle.fresh.proofs.Lines.{front}
use Rattle.reported.specs.Promise.{ReportShort, ReportWhole, rest_text}
use Rattle.reported.specs.Report.{Lines, heading, queue_lines, rank_lines, refused_lines, report_on, report_text, reported, run_lines, run_of, text_line}
use Rattle.run.specs.Ends.{told_line}
use Rattle.run.specs.Run.{Run, ran}
use Rattle.texts.proofs.Places.{refusal_placed}
use Rattle.texts.specs.Schedule.{Outcome, Schedule, reads, refusal, schedule}
use Rattle.standing.specs.Stands.{stands}
use Rattle.state.specs.declared.Machine.{Machine}
use Rattle.writes.specs.declared.Write.{Write}

-- so many ranks, none above 4,096, of a state that stands
ranks_short : (m : Machine) (ws : List Write) (n k : ℕ) → (0 < n → (k + n ≤ 4096) × (stands m ws ≡ true))
    → length (lines_text (rank_lines m ws n k)) ≤ 21 * n
unfolding rank_lines lines_text
ranks_short m ws zero k h = omega arith
ranks_short m ws (suc n) k h =
    let g = h (omega arith) in
    omega (
      arith,
      length-append (printed_text (answer_line k (content_of m ws k))) (lines_text (rank_lines m ws n (suc k))),
      answer_short k 4 (length_pow 3 k (omega (arith, g.0))) (content_of m ws k) (content_in m ws k g.1),
      ranks_short m ws n (suc k) (λ l. (omega (arith, g.0), g.1)),
    )

queue_short : (m : Machine) (ws : List Write) → Listed m ws → length (lines_text (queue_lines m ws)) ≤ 400
unfolding queue_lines lines_text
queue_short m ws h =
    let count = m.head.value - m.tail.value in
    let few : count ≤ 16 = omega (arith, h.0) in
    omega (
      arith,
      length-append (printed_text (heading word.Queue count)) (lines_text (rank_lines m ws count m.tail.value)),
      heading_short word.Queue count 2 (length_pow 1 count (omega arith)),
      ranks_short m ws count m.tail.value (λ l. (omega (arith, h.1), h.2 (omega arith))),
    )

refused_short : (taken : ℕ) (o : Option ℕ) → taken ≤ 4096 → number_in o ≤ 14 → length (lines_text (refused_lines taken o)) ≤ 40
unfolding refused_lines lines_text field_text
refused_short taken None h g =
    omega (arith, length-append (printed_text (heading word.Refused 0)) [], heading_short word.Refused 0 1 (length_pow 0 0 (omega arith)))
refused_short taken (Some n) h g =
    let last = Two (Counts (taken + 1)) (Counts n) in
    omega (
      arith,
      length-append (printed_text (heading word.Refused 1)) (printed_text last ++ []),
      length-append (printed_text last) [],
      heading_short word.Refused 1 1 (length_pow 0 1 (omega arith)),
      two_width (Counts (taken + 1)) (Counts n),
      length_pow 3 (taken + 1) (omega arith),
      length_pow 1 n (omega arith),
    )

abbrev LinesShort : Lines → Type 0
LinesShort x = (length (printed_text x.first) ≤ 64) × (length (lines_text x.rest) ≤ 131072)

-- the lines of a run
run_short : (r : Run) (n : ℕ) → n ≤ 4096 → Few n r.answers → Listed r.machine r.writes → number_in r.refused ≤ 14 → LinesShort (run_lines r)
unfolding run_lines
run_short r n l f q h =
    let taken = length r.answers in
    let told = map told_line r.answers in
    let queue = queue_lines r.machine r.writes in
    let last = refused_lines taken r.refused in (
      omega (arith, heading_short word.Answers taken 4 (length_pow 3 taken (omega (arith, f.0)))),
      omega (
        arith,
        lines_append told (queue ++ last),
        lines_append queue last,
        f.1,
        queue_short r.machine r.writes q,
        refused_short taken r.refused (omega (arith, f.0)) h,
      ),
    )

number_least : (r : Refusal) → number_of r < 10
number_least refused_as.TooLong = omega arith
number_least (refused_as.BadForm line stop) = omega arith
number_least (refused_as.BadRange line number) = omega arith
number_least (refused_as.Extra at) = omega arith

text_short : (r : Refusal) → place_of r ≤ 65536 → length (printed_text (text_line r)) ≤ 64
unfolding field_text
text_short r h =
    omega (
      arith,
      three_width (Says word.Text) (Counts (number_of r)) (Counts (place_of r)),
      spelled_short word.Text,
      length_pow 0 (number_of r) (omega (arith, number_least r)),
      length_pow 4 (place_of r) (omega arith),
    )

-- a run from an opening, whatever records are lent
opened_short : (x : Schedule) (ws : List Write)
    → LinesShort (run_lines (ran (opened_of x.threads x.slots x.plain x.flag).machine ws x.steps))
opened_short x ws =
    let m = (opened_of x.threads x.slots x.plain x.flag).machine in
    run_short (ran m ws x.steps) (4096 - m.steps) (omega arith) (few m ws x.steps)
    (listed x.threads x.slots x.plain x.flag ws x.steps) (refused_small m ws x.steps)

pub report_short : ReportShort
unfolding reported run_of lines_text
report_short s = go (reads s) refl
  where
    go : (x : Outcome) → reads s ≡ x → LinesShort (report_on x)
    go (schedule x) e = opened_short x _
    go (refusal r) e = (text_short r (refusal_placed s r e), omega arith)

pub report_whole : ReportWhole
unfolding report_text lines_text
report_whole s before after r o h =
    let fits = (report_short s).1 in
    let whole = o.rest ∙ put_whole (reported s).rest before 0 (omega (arith, fits)) in
    let list : after ≡ sets before 0 (rest_text s) = ap (λ (p : Page). p.buffer) whole in
    let wrote : Wrote before 0 (rest_text s) (length (rest_text s)) after = record { next = omega arith; list = list } in (
      ap (λ (p : Page). p.upto) whole ∙ ap Some (omega arith),
      list,
      rw (o.first, front wrote (omega (arith, fits))),
    )
