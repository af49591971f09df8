-- Laws of a cell's newest stamp. Assumes nothing.
use mathlib.Core.Path.{◌≡◌, refl}
use mathlib.Core.Bool.{Bool, true, false}
use mathlib.Core.List.{List}
use mathlib.Core.Logic.{◌≢◌}
use Prim.Native.Nat.{ℕ, zero, suc, ◌<◌, ◌≤◌}
use native.Mathlib.Omega.{arith}
use borrow.Author.Tests.{eqb-true, eqb-false, ltb-true, ltb-false, eq-eqb, ne_eqb, lt-ltb}
use lib.Dec.{eqb, ltb}
use lib.ListN.{length, set}
use Rattle.std.specs.Prelude.{Option, Some, None}
use Rattle.std.specs.Bool.{then_some}
use Rattle.laws.proofs.Lists.{set_here, set_else}
use Rattle.laws.specs.Tests.{◌and◌}
use Rattle.writes.proofs.History.{newest_same}
use Rattle.writes.specs.History.{earlier, shown_by, found, newest_if, newer, newest}
use Rattle.writes.specs.Records.{no_write, nth, write}
use Rattle.writes.specs.declared.Newest.{Newest}
use Rattle.writes.specs.declared.Write.{Write}

-- the record set at n is the last that counts
pub newest_more : (first : ℕ) (ws : List Write) (w : Write) (c n : ℕ) → n < length ws
    → newest first (set ws n w) c (suc n) ≡ newer (newest first ws c n) w c
unfolding newest
newest_more first ws w c n h = rw (newest_same first ws (set ws n w) c n (λ i l. set_else ws n i w no_write (λ e. omega arith)), set_here ws n w no_write h)

-- a record of another cell
pub newer_else : (s : Newest) (w : Write) (c : ℕ) → w.cell ≢ c → newer s w c ≡ s
unfolding newer ◌and◌
newer_else s w c d = rw (ne_eqb w.cell c d)

-- a record of the cell with a greater stamp
pub newer_here : (s : Newest) (c t v : ℕ) → s.stamp < t → newer s (write c t v) c ≡ record { stamp = t; value = v }
unfolding newer ◌and◌
newer_here s c t v h = rw (eq-eqb c c refl, lt-ltb s.stamp t h)

-- a record never lowers the newest stamp, and one of the cell is not above it afterwards
newer_up : (s : Newest) (w : Write) (c : ℕ) → (s.stamp ≤ (newer s w c).stamp) × (w.cell ≡ c → w.stamp ≤ (newer s w c).stamp)
unfolding newer ◌and◌
newer_up s w c = go (eqb w.cell c) (ltb s.stamp w.stamp) refl refl
  where
    go : (a b : Bool) → eqb w.cell c ≡ a → ltb s.stamp w.stamp ≡ b
        → (s.stamp ≤ (newest_if (a and b) w s).stamp) × (w.cell ≡ c → w.stamp ≤ (newest_if (a and b) w s).stamp)
    go true true d e = (omega (arith, ltb-true s.stamp w.stamp e), λ _. omega arith)
    go true false d e = (omega arith, λ _. ltb-false _ _ e)
    go false b d e = (omega arith, λ h. absurd (eqb-false _ _ d h))

-- a record that shows a value is of the cell and the stamp
shown_is : (w : Write) (c t v : ℕ) → shown_by w c t ≡ Some v → (w.cell ≡ c) × (w.stamp ≡ t)
unfolding shown_by ◌and◌
shown_is w c t v = go (eqb w.cell c) (eqb w.stamp t) refl refl
  where
    go : (a b : Bool) → eqb w.cell c ≡ a → eqb w.stamp t ≡ b → then_some (a and b) w.value ≡ Some v → (w.cell ≡ c) × (w.stamp ≡ t)
    go true true d e h = (eqb-true _ _ d, eqb-true _ _ e)
    go true false d e h = absurd cc
    go false b d e h = absurd cc

-- no stamp of the history is above the newest
pub found_under : (first : ℕ) (ws : List Write) (c t v n : ℕ) → found first ws c t n ≡ Some v → t ≤ (newest first ws c n).stamp
unfolding found newest
found_under first ws c t v zero h = go (eqb t 0) refl h
  where
    go : (b : Bool) → eqb t 0 ≡ b → then_some b first ≡ Some v → t ≤ 0
    go true e h = omega (arith, eqb-true t 0 e)
    go false e h = absurd cc
found_under first ws c t v (suc n) h = go (found first ws c t n) (λ u. found_under first ws c t u n) h
  where
    w : Write
    w = nth ws n

    s : Newest
    s = newest first ws c n

    go : (f : Option ℕ) → ((u : ℕ) → f ≡ Some u → t ≤ s.stamp) → earlier f (shown_by w c t) ≡ Some v → t ≤ (newer s w c).stamp
    go None r e = let k = shown_is w c t v e in omega (arith, (newer_up s w c).1 k.0, k.1)
    go (Some u) r e = omega (arith, r u refl, (newer_up s w c).0)

-- the newest stamp is in the history, with the newest value
pub newest_shown : (first : ℕ) (ws : List Write) (c n : ℕ) → found first ws c (newest first ws c n).stamp n ≡ Some (newest first ws c n).value
unfolding found newest newer shown_by ◌and◌
newest_shown first ws c zero = refl
newest_shown first ws c (suc n) =
    go (eqb w.cell c) (ltb s.stamp w.stamp) refl refl (λ v e. found_under first ws c w.stamp v n e)
    (newest_shown first ws c n)
  where
    w : Write
    w = nth ws n

    s : Newest
    s = newest first ws c n

    go : (a b : Bool) → eqb w.cell c ≡ a → ltb s.stamp w.stamp ≡ b
        → ((v : ℕ) → found first ws c w.stamp n ≡ Some v → w.stamp ≤ s.stamp)
        → found first ws c s.stamp n ≡ Some s.value
        → earlier (found first ws c (newest_if (a and b) w s).stamp n) (shown_by w c (newest_if (a and b) w s).stamp)
        ≡ Some (newest_if (a and b) w s).value
    go true true d e r h = last (found first ws c w.stamp n) refl
      where
        last : (g : Option ℕ) → found first ws c w.stamp n ≡ g → earlier g (shown_by w c w.stamp) ≡ Some w.value
        last None k = rw (d, eq-eqb w.stamp w.stamp refl)
        last (Some v) k = absurd (omega (arith, r v k, ltb-true s.stamp w.stamp e))
    go true false d e r h = rw h
    go false b d e r h = rw h
