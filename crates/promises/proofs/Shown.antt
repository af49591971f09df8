-- The report of a text that is taken, told by the log of its run. Assumes nothing.
use Prim.Native.Nat.{ℕ, suc, ◌+◌, ◌-◌, ◌<◌}
use mathlib.Core.Path.{◌≡◌, refl, sym, subst}
use mathlib.Core.List.{List, [], ◌∷◌}
use mathlib.Core.Option.{Option, some}
use native.Mathlib.Omega.{arith}
use lib.ListN.{length, replicate, get_elem?, drop}
use Rattle.opening.specs.Opening.{opened_of}
use Rattle.promises.specs.Shown.{after_steps, weight_lines, inside_lines, Shows, ReportShows}
use Rattle.reported.specs.Report.{rank_lines, queue_lines, run_lines, run_of, reported}
use Rattle.rules.proofs.Holds.{queue_holds}
use Rattle.rules.specs.Log.{Point, start, seen}
use Rattle.rules.specs.Queue.{showing, Queue}
use Rattle.rules.specs.Step.{content_of}
use Rattle.run.proofs.Prefix.{ran_through}
use Rattle.run.specs.Prefix.{told_in, AllTaken, refused_next}
use Rattle.run.specs.Run.{Run}
use Rattle.state.specs.declared.Machine.{Machine}
use Rattle.step.specs.Refused.{number_in}
use Rattle.step.specs.declared.Step.{Step}
use Rattle.view.specs.declared.View.{View}
use Rattle.writes.specs.Records.{no_write}
use Rattle.writes.specs.declared.Write.{Write}

module _ (m : Machine) (ws : List Write) (told : ℕ → Option View) where
  -- what a report shows at rank k is weight w, told or not
  abbrev Shown : ℕ → ℕ → Type 0
  Shown k w = content_of m ws k ≡ showing (told k) w

  ranks : (k : ℕ) (xs : List ℕ) → ((j w : ℕ) → get_elem? xs j ≡ some w → Shown (k + j) w)
      → rank_lines m ws (length xs) k ≡ weight_lines told k xs
  unfolding rank_lines weight_lines
  ranks k [] f = refl
  ranks k (x ∷ xs) f =
      let first : Shown k x = subst (λ (z : ℕ). Shown z x) (omega arith) (f 0 x refl) in
      rw (first, ranks (suc k) xs (λ j w e. subst (λ (z : ℕ). Shown z w) (omega arith) (f (suc j) w e)))

-- at a point where demand 3 holds
inside : (b c : ℕ) (p : Point) → (Q : Queue b c p) → queue_lines p.machine p.writes ≡ inside_lines (seen p.log) Q.line.inside
unfolding queue_lines
inside b c p Q =
    let m = p.machine in
    let count : m.head.value - m.tail.value ≡ length Q.line.inside = omega (arith, Q.reaches) in
    rw (count, ranks m p.writes (seen p.log).published m.tail.value Q.line.inside Q.contents, Q.takes)

-- a run that has come to such a point
shows : (b c : ℕ) (p : Point) (left : List Step) (r : Run) → Queue b c p → r.machine ≡ p.machine → r.writes ≡ p.writes → told_in p.log ≡ r.answers
    → AllTaken r.answers → r.refused ≡ refused_next p left → (0 < length left → 0 < number_in r.refused) → Shows c p left (run_lines r)
unfolding run_lines
shows b c p left r Q m ws told taken refused stops =
    record {
      taken = subst AllTaken (sym told) taken;
      stops = λ h. rw refused at (stops h);
      line = Q.line;
      plain_list = Q.plain_list;
      first = rw told;
      rest = rw (m, ws, inside b c p Q, told, refused);
    }

pub report_shows : ReportShows
unfolding reported run_of start told_in
report_shows s x e opened =
    let u = ran_through (start (opened_of x.threads x.slots x.plain x.flag).machine (replicate 1024 no_write)) x.steps in
    let k = length (run_of x).answers in
    rw e (record {
      upto = k;
      shows = shows _ _ (after_steps x k) (drop k x.steps) (run_of x)
          (queue_holds x.threads x.slots x.plain x.flag (replicate 1024 no_write) _ opened)
          u.machine u.writes u.answers u.taken u.refused u.stops;
    })
