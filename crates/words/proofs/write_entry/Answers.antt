use mathlib.Core.Path.{◌≡◌}
use Prim.Native.Nat.{◌+◌}
use native.Mathlib.Omega.{arith}
use borrow.Author.Rules.{rules}
use lib.ListN.{length}
use Rattle.number.proofs.Stores.{wrote_then}
use Rattle.words.proofs.write_entry.Goals as goal
use Rattle.words.proofs.write_entry.Goals.{Start}

long : (c : Start) → length c.args.view.at ≡ 32
long c = search rules

pub write_words-requires : goal.write_words-requires
write_words-requires c =
    omega (arith, long (goal.at.write_words-requires c).Start, c.write_words-q.ensures.next)

pub returns : goal.returns
returns c =
    let e : c.write_words-q.result ≡ c.args.p + length c.args.words.now = c.write_words-q.ensures.next in
    let f : c.write_words.result ≡ c.write_words-q.result + length c.args.view.at = c.write_words.ensures.next in
    record { wrote = wrote_then c.write_words-q.ensures c.write_words.ensures; value = omega (arith, long (goal.at.returns c).Start) }
