use mathlib.Core.Path.{refl}
use native.Mathlib.Nat.{mod-zero}
use Rattle.rank.specs.Rank.{slot_of}
use Rattle.rank.proofs.slot_of.Goals as goal

pub returns-then-slots-eq0 : goal.returns-then-slots-eq0
unfolding slot_of
returns-then-slots-eq0 c = rw (c.if-slots-eq0.true, mod-zero)

pub returns : goal.returns
unfolding slot_of
returns c = refl
