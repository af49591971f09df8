use mathlib.Core.Path.{◌≡◌, refl, ap}
use native.Mathlib.Omega.{arith}
use borrow.Author.Rules.{rules}
use Rattle.words.proofs.Words.{turn, no_turn}
use Rattle.image.specs.Image.{atomic_words}
use Rattle.state.specs.State.{atomic_at}
use Rattle.state.specs.declared.Name.{Name}
use Rattle.words.proofs.write_atomics.Goals as goal

pub loop-i-init : goal.loop-i-init
loop-i-init g c = (search rules, refl, λ h k. no_turn _ _ _)

pub loop-i-preserved : goal.loop-i-preserved
loop-i-preserved g c = (
  omega (arith, c.write_cell-q.ensures.value),
  search rules,
  λ h k.
      turn _ c.loop-i.i (c.loop-i.invariant.2 h k) c.write_cell-q.ensures.wrote
      (ap (λ (a : Name). atomic_words (atomic_at c.args.m a)) (k _ _ c.name.ensures)),
)

pub returns : goal.returns
returns g c =
    let e : c.loop-i.i ≡ c.args.n = omega arith in
    record { wrote = λ h k. rw e at (c.loop-i.invariant.2 h k); value = omega arith }
