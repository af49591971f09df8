-- A report from its parts. Assumes nothing.
use Prim.Native.Nat.{◌≤◌, ℕ}
use lib.ListN.{length, replicate, take}
use lib.Seq.{take_all}
use mathlib.Core.List.{List, ◌++◌, map}
use mathlib.Core.Path.{◌∙◌, ◌≡◌, ap, refl, sym}
use Rattle.std.specs.Prelude.{Option, Some}
use Rattle.fault.specs.declared.Refusal.{Refusal}
use Rattle.printed.specs.Printed.{Page, page, put_lines}
use Rattle.printed.specs.declared.Printed.{Printed}
use Rattle.reported.proofs.Page.{put_append}
use Rattle.reported.specs.Buffer.{Reports}
use Rattle.run.specs.Ends.{Ends}
use Rattle.reported.specs.Report.{heading, queue_lines, refused_lines, reported, run_lines, run_of, text_line}
use Rattle.run.specs.Ends.{told_line}
use Rattle.run.specs.Run.{ran}
use Rattle.turn.specs.declared.Ended.{Ended}
use Rattle.reported.specs.declared.Reported.{Reported}
use Rattle.opening.specs.Opening.{opened_of}
use Rattle.reported.proofs.Comes.{counts}
use Rattle.state.specs.declared.Machine.{Machine}
use Rattle.texts.specs.Schedule.{Schedule, reads, schedule_of, steps_at, weights_at}
use Rattle.writes.specs.Records.{no_write}
use Rattle.schedule.specs.Sections.{judged}
use Rattle.schedule.specs.declared.Sections.{Sections}
use Rattle.std.specs.Prelude.{Ok, Err}
use Rattle.printed.specs.declared.Word.TheVariants as word

-- where a text is refused
pub refused_report : (s : List ℕ) (r : Refusal) (before : List ℕ) {p : Printed} → judged s ≡ Err r → p ≡ text_line r
    → Reports (reported s) before (record { first = p; upto = Some 0 }) before
unfolding reported reads put_lines
refused_report s r before e f = rw e (record { first = f; rest = refl })

-- where it is taken
pub taken_report : (s : List ℕ) (x : Sections) {before after : List ℕ} {r : Reported} → judged s ≡ Ok x
    → Reports (run_lines (run_of (schedule_of s x))) before r after → Reports (reported s) before r after
unfolding reported reads
taken_report s x e o = rw e o

-- the run that a text asks for
pub run_is : (s : List ℕ) (x : Sections) {m : Machine} → (length (weights_at s x.plain) ≤ 16) × (length (weights_at s x.flag) ≤ 8)
    → m ≡ (opened_of x.threads x.slots (take 16 (weights_at s x.plain)) (take 8 (weights_at s x.flag))).machine
    → ran m (replicate 1024 no_write) (steps_at s x.steps) ≡ run_of (schedule_of s x)
unfolding run_of schedule_of
run_is s x f e = rw (e, take_all 16 (weights_at s x.plain) f.0, take_all 8 (weights_at s x.flag) f.1)

-- its lines: its answers, as many as the machine has steps, its queue, its refusal
pub run_report : (x : Schedule) (b : List ℕ) {e : Ended} {l m k : List ℕ} {q u : Option ℕ} {p : Printed}
    → Ends (run_of x) b e l → page q m ≡ put_lines (page e.upto l) (queue_lines e.machine e.writes)
    → page u k ≡ put_lines (page q m) (refused_lines e.machine.steps e.refused) → p ≡ heading word.Answers e.machine.steps
    → Reports (run_lines (run_of x)) b (record { first = p; upto = u }) k
unfolding run_lines run_of
run_report x b {e} {l} o f g h =
    let r = run_of x in
    let start = page (Some 0) b in
    let told = map told_line r.answers in
    let queue = queue_lines e.machine e.writes in
    let last = refused_lines e.machine.steps e.refused in
    let taken : e.machine.steps ≡ length r.answers
    = ap (λ (m : Machine). m.steps) o.machine ∙ counts x.threads x.slots x.plain x.flag _ x.steps in
    record {
      first = h ∙ ap (heading word.Answers) taken;
      rest =
          g
          ∙ ap (λ (a : Page). put_lines a last) (f ∙ ap (λ (a : Page). put_lines a queue) o.answers)
          ∙ sym (put_append (put_lines start told) queue last)
          ∙ sym (put_append start told _)
          ∙ (λ i. put_lines start (told ++ (queue_lines (o.machine i) (o.writes i) ++ refused_lines (taken i) (o.refused i))));
    }
