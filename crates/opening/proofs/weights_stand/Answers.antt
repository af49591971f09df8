use mathlib.Core.Path.{◌∙◌}
use Prim.Native.Nat.{ℕ}
use borrow.Author.Rules.{rules}
use borrow.Author.Tests.{tests}
use denote.Ref.{Bor}
use lib.Dec.{leb}
use Rattle.std.proofs.iter.Yields.{fronts}
use Rattle.std.proofs.lemmas.Iterator.{YieldsList-from_slice}
use Rattle.std.proofs.lemmas.Iterator.Search.{all_from_yields_List}
use Rattle.laws.proofs.Below.{below_list}
use Rattle.opening.specs.Opening.{weights_stand}
use Rattle.step.specs.Limit.{most}
use Rattle.opening.proofs.weights_stand.Goals as goal

pub returns : goal.returns
unfolding weights_stand
returns c =
    all_from_yields_List {A = Bor ℕ} {steps = fronts} {v = λ (w : Bor ℕ). w.now} (λ w. leb w most) _ _ c.all.result c.all.ensures.ran
    (YieldsList-from_slice c.args.s.now cc) (λ x b q k. search (rules, tests)) ∙ below_list (λ w. leb w most) c.args.s.now 0
