-- Laws of a cell's history: what it reads of the records, and the record added last. Assumes nothing.
use mathlib.Core.Path.{◌≡◌, refl, ap, ◌∙◌}
use mathlib.Core.Bool.{true}
use mathlib.Core.List.{List}
use Prim.Native.Nat.{ℕ, zero, suc, ◌<◌}
use native.Mathlib.Omega.{arith}
use lib.ListN.{length, set}
use Rattle.laws.proofs.Lists.{set_here, set_else}
use Rattle.laws.proofs.Tests.{together}
use Rattle.laws.specs.Tests.{all_below}
use Rattle.writes.specs.History.{earlier, shown_by, found, newest, record_stands, records_stand}
use Rattle.writes.specs.Records.{no_write, nth}
use Rattle.writes.specs.declared.Write.{Write}

-- only the first n records count
pub found_same : (first : ℕ) (ws us : List Write) (c t n : ℕ) → ((i : ℕ) → i < n → nth us i ≡ nth ws i) → found first us c t n ≡ found first ws c t n
unfolding found
found_same first ws us c t zero same = refl
found_same first ws us c t (suc n) same = rw (found_same first ws us c t n (λ i l. same i (omega arith)), same n (omega arith))

pub newest_same : (first : ℕ) (ws us : List Write) (c n : ℕ) → ((i : ℕ) → i < n → nth us i ≡ nth ws i) → newest first us c n ≡ newest first ws c n
unfolding newest
newest_same first ws us c zero same = refl
newest_same first ws us c (suc n) same = rw (newest_same first ws us c n (λ i l. same i (omega arith)), same n (omega arith))

pub records_stand_same : (k : ℕ) (ws us : List Write) (n : ℕ) → ((i : ℕ) → i < n → nth us i ≡ nth ws i) → records_stand k us n ≡ records_stand k ws n
unfolding records_stand all_below
records_stand_same k ws us zero same = refl
records_stand_same k ws us (suc n) same = rw (records_stand_same k ws us n (λ i l. same i (omega arith)), same n (omega arith))

-- the records before one that is set
before : (ws : List Write) (w : Write) (n i : ℕ) → i < n → nth (set ws n w) i ≡ nth ws i
before ws w n i l = set_else ws n i w no_write (λ e. omega arith)

-- the record set at n is the last that counts
pub found_more : (first : ℕ) (ws : List Write) (w : Write) (c t n : ℕ) → n < length ws
    → found first (set ws n w) c t (suc n) ≡ earlier (found first ws c t n) (shown_by w c t)
unfolding found
found_more first ws w c t n h = rw (found_same first ws (set ws n w) c t n (before ws w n), set_here ws n w no_write h)

-- a record that stands, set after records that stand
pub records_stand_more : (k : ℕ) (ws : List Write) (w : Write) (n : ℕ) → n < length ws → records_stand k ws n ≡ true → record_stands k w ≡ true
    → records_stand k (set ws n w) (suc n) ≡ true
unfolding records_stand all_below
records_stand_more k ws w n h p q =
    together _ _ (records_stand_same k ws (set ws n w) n (before ws w n) ∙ p) (ap (record_stands k) (set_here ws n w no_write h) ∙ q)
