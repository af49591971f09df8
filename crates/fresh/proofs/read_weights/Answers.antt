use Prim.Native.Nat.{◌+◌, ◌-◌}
use lib.ListN.{length}
use mathlib.Core.List.{List, ◌∷◌, map}
use mathlib.Core.Path.{◌∙◌, ◌≡◌, ap, refl, sym}
use native.Mathlib.Omega.{arith}
use Rattle.form.specs.declared.Due.TheVariants.{WeightDue}
use Rattle.form.specs.declared.Line.{Line}
use Rattle.fresh.proofs.Lines.{from_end, from_line, stored}
use Rattle.texts.specs.Schedule.{lines_from, weight_in}
use Rattle.fresh.proofs.read_weights.Goals as goal

pub loop-n-init : goal.loop-n-init
loop-n-init c = let all : c.args.s.count - 0 ≡ c.args.s.count = omega arith in rw all (refl, omega arith)

pub returns-in-Err : goal.returns-in-Err
returns-in-Err c =
    let read = sym c.line_of.ensures ∙ c.in-Err.is in
    let none = from_line c.args.s.count c.loop-n.n WeightDue c.args.text.now c.loop-n.at _ c.loop-n-test.true read in
    let e = ap (λ (xs : List Line). map weight_in xs) none in
    record { next = omega (arith, ap length e, c.loop-n.invariant.1); list = rw e at c.loop-n.invariant.0 }

pub loop-n-preserved : goal.loop-n-preserved
loop-n-preserved c =
    let left = map weight_in (lines_from (c.args.s.count - (c.loop-n.n + 1)) WeightDue c.args.text.now c.in-Ok.x.next) in
    let read = sym c.line_of.ensures ∙ c.in-Ok.is in
    let line = from_line c.args.s.count c.loop-n.n WeightDue c.args.text.now c.loop-n.at _ c.loop-n-test.true read in
    let e : map weight_in (lines_from (c.args.s.count - c.loop-n.n) WeightDue c.args.text.now c.loop-n.at) ≡ c.weight_in.result ∷ left
    = rw (line, c.weight_in.ensures) refl in
    let held = stored c.loop-n.room c.loop-n.n c.weight_in.result left ∙ rw e at c.loop-n.invariant.0 in
    (held, omega (arith, ap length e, c.loop-n.invariant.1))

pub returns : goal.returns
returns c =
    let none = from_end (c.args.s.count - c.loop-n.n) WeightDue c.args.text.now c.loop-n.at (omega arith) in
    let e = ap (λ (xs : List Line). map weight_in xs) none in
    let all : c.loop-n.n ≡ c.args.s.count = omega arith in
    record { next = omega (arith, ap length e, c.loop-n.invariant.1); list = rw e at c.loop-n.invariant.0 }
