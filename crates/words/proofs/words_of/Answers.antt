use borrow.Author.Rules.{rules}
use native.Mathlib.Omega.{arith}
use Rattle.number.proofs.Stores.{wrote_then}
use Rattle.words.proofs.Words.{all_written}
use Rattle.image.specs.Image.{words_of}
use Rattle.state.specs.declared.Name.TheVariants.{Flag, Status}
use Rattle.words.proofs.words_of.Goals as goal

pub returns : goal.returns
unfolding words_of
returns c =
    all_written
    (wrote_then (wrote_then (wrote_then (wrote_then (wrote_then c.write_heading-p.ensures.wrote c.write_threads-p.ensures.wrote) c.write_cell-p.ensures.wrote) c.write_cell-p-2.ensures.wrote) (c.write_atomics-p.ensures.wrote Flag (λ i a h. search rules))) (c.write_atomics.ensures.wrote Status (λ i a h. search rules)))
    (omega (arith, c.write_atomics.ensures.value, c.write_atomics-p.ensures.value, c.write_cell-p-2.ensures.value, c.write_cell-p.ensures.value, c.write_threads-p.ensures.value, c.write_heading-p.ensures.value))
