-- What is promised of the image. Assumes nothing.
use Rattle.std.specs.Prelude.{◌≡◌, true, List, ◌++◌, ℕ, length, take}
use Rattle.image.specs.Image.{words_of, machine_of, is_image}
use Rattle.state.specs.State.{Whole}
use Rattle.state.specs.declared.Machine.{Machine}

-- An image has 1,160 words and says its machine in full, whatever follows it, where the machine's lists are as long as its arrays.
abbrev pub ImageLong : Type 0
ImageLong = (m : Machine) → Whole m → length (words_of m) ≡ 1160

abbrev pub ImageFaithful : Type 0
ImageFaithful = (m : Machine) (rest : List ℕ) → Whole m → machine_of (words_of m ++ rest) ≡ m

-- Whatever image is read, the machine's lists are as long as its arrays.
abbrev pub ImageWhole : Type 0
ImageWhole = (s : List ℕ) → Whole (machine_of s)

-- The image of a machine is one by the test, and whatever is one by the test is the image of the machine that it says: no state has two.
abbrev pub ImageTaken : Type 0
ImageTaken = (m : Machine) (rest : List ℕ) → Whole m → is_image (words_of m ++ rest) ≡ true

abbrev pub ImageOnly : Type 0
ImageOnly = (s : List ℕ) → is_image s ≡ true → take 1160 s ≡ words_of (machine_of s)
