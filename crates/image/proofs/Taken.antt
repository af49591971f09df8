-- The image of a machine is taken for one. Assumes nothing.
use mathlib.Core.Path.{◌≡◌, sym, ap, ◌∙◌}
use mathlib.Core.List.{◌++◌}
use Prim.Native.Nat.{◌≤◌}
use native.Mathlib.Omega.{arith}
use borrow.Author.Tests.{le-leb, eq-eqb}
use lib.ListN.{length, length-append}
use Rattle.laws.proofs.Tests.{together, every}
use Rattle.image.proofs.Faithful.{place_has, image_long}
use Rattle.image.proofs.Inside.{has_front, place_length, place_back}
use Rattle.image.specs.Image.{place_words, words_of, thread_at, word, place_from, is_place, is_image}
use Rattle.image.specs.Promise.{ImageTaken}
use Rattle.state.specs.State.{place}
use Rattle.state.specs.declared.Place.{Place}

pub image_taken : ImageTaken
unfolding is_image is_place
image_taken m rest w =
    let l : 1160 ≤ length (words_of m ++ rest) = omega (arith, image_long m w, length-append (words_of m) rest) in
    together _ _ (le-leb _ _ l)
    (every _ _ (λ i h.
    let x = has_front rest (place_has m w i h) in
    let e : place_from (words_of m ++ rest) (thread_at i) ≡ place m i = place_back _ _ _ x in
    every _ _ (λ j k. eq-eqb _ _ (x.same j (omega (arith, place_length (place m i))) ∙ ap (λ (p : Place). word (place_words p) j) (sym e)))))
