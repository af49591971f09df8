use mathlib.Core.Path.{◌≡◌, refl}
use mathlib.Core.List.{◌++◌}
use native.Mathlib.Omega.{arith}
use borrow.Author.Rules.{rules}
use lib.ListN.{length}
use Rattle.image.specs.Image.{thread_words}
use Rattle.words.proofs.Words.{turn, no_turn}
use Rattle.words.proofs.write_threads.Goals as goal

pub loop-i-init : goal.loop-i-init
loop-i-init c = (search rules, refl, no_turn _ _ _)

pub write_entry-q-requires : goal.write_entry-q-requires
write_entry-q-requires c =
    let h : length c.place_words-words.result ≡ 3 = search rules in
    omega arith

pub loop-i-preserved : goal.loop-i-preserved
loop-i-preserved c =
    let h : length c.place_words-words.result ≡ 3 = search rules in
    let e : (c.place_words-words.result ++ c.row_of.result.at) ≡ thread_words c.args.m c.loop-i.i = rw (c.place_words-words.ensures, c.place_of.ensures, c.row_of.ensures) in
    (omega (arith, c.write_entry-q.ensures.value), search rules, turn _ c.loop-i.i c.loop-i.invariant.2 c.write_entry-q.ensures.wrote e)

pub returns : goal.returns
returns c =
    let e : c.loop-i.i ≡ 8 = omega arith in
    record { wrote = rw e at c.loop-i.invariant.2; value = omega arith }
