use mathlib.Core.Path.{◌≡◌}
use Prim.Native.Nat.{◌+◌}
use native.Mathlib.Omega.{arith}
use borrow.Author.Rules.{rules}
use lib.ListN.{length}
use Rattle.number.proofs.Stores.{wrote_then}
use Rattle.words.proofs.write_heading.Goals as goal
use Rattle.words.proofs.write_heading.Goals.{Start}

long : (c : Start) → length c.args.m.firsts ≡ 16
long c = search rules

pub write_words-requires : goal.write_words-requires
write_words-requires c =
    omega (arith, long (goal.at.write_words-requires c).Start, c.write_words-p.ensures.next)

pub returns : goal.returns
returns c =
    let e : c.write_words-p.result ≡ 6 = c.write_words-p.ensures.next in
    let f : c.write_words.result ≡ c.write_words-p.result + length c.args.m.firsts = c.write_words.ensures.next in
    record { wrote = wrote_then c.write_words-p.ensures c.write_words.ensures; value = omega (arith, long (goal.at.returns c).Start) }
