-- A text is refused at a place inside it, and not for its length, if it is not too long. Assumes nothing.
use Prim.Native.Nat.{ℕ, zero, suc, ◌≤◌}
use mathlib.Core.Bool.{true, false}
use mathlib.Core.List.{List, [], ◌∷◌}
use mathlib.Core.Logic.{⊎_elim}
use mathlib.Core.Path.{◌≡◌, refl, ap}
use native.Mathlib.Omega.{arith}
use borrow.Author.Tests.{ltb-false}
use lib.Dec.{ltb}
use lib.ListN.{length}
use Rattle.form.specs.declared.Due.{Due}
use Rattle.form.specs.declared.Due.TheVariants.{HeaderDue}
use Rattle.form.specs.declared.Header.{Header}
use Rattle.laws.proofs.Choice.{either}
use Rattle.texts.proofs.Inside.{line_inside}
use Rattle.texts.proofs.OnlyLines.{line_is}
use Rattle.fault.specs.Refusal.{number_of, place_of}
use Rattle.digits.specs.declared.Read.{Read}
use Rattle.digits.specs.Reading.{◌>>=◌}
use Rattle.std.specs.Prelude.{Result, Ok, Err}
use Rattle.form.specs.declared.Line.{Line}
use Rattle.form.specs.declared.Fields.{Fields}
use Rattle.line.specs.Row.{Row, due_row, line_of_row, line_read, read_line}
use Rattle.operand.specs.declared.OutOfRange.{OutOfRange}
use Rattle.digits.specs.declared.Stopped.{Stopped}
use Rattle.fault.specs.declared.Refusal.{Refusal}
use Rattle.texts.specs.Schedule.{reads, refusal}
use Rattle.schedule.specs.Sections.{count_in, headers, judged, line_due, lines_past, lines_under, noted, nothing_found, sections, through}
use Rattle.schedule.specs.declared.Sections.{Sections}

-- a refusal of one of the lines of n bytes, or of what follows them
abbrev pub Inside : ℕ → Refusal → Type 0
Inside n r = (place_of r ≤ n) × (2 ≤ number_of r)

-- what is read up to a place, or refused inside
abbrev In : {A : Type 0} → (A → Type 0) → ℕ → Result A Refusal → Type 0
In P n (Ok x) = P x
In P n (Err r) = Inside n r

then_in : {A B : Type 0} (P : A → Type 0) (Q : B → Type 0) (n : ℕ) (m : Result A Refusal) (go : A → Result B Refusal) → In P n m
    → ((x : A) → P x → In Q n (go x)) → In Q n (m >>= go)
then_in P Q n (Ok x) go h f = f x h
then_in P Q n (Err r) go h f = h

abbrev pub JudgedIn : ℕ → Result Sections Refusal → Type 0
JudgedIn = In (λ x. Unit {0})

module _ (s : List ℕ) where
  abbrev ReadIn : Result (Read Line) Refusal → Type 0
  ReadIn = In (λ (x : Read Line). x.next ≤ length s) (length s)

  line_in : (d : Due) (at : ℕ) → at ≤ length s → ReadIn (read_line d s at)
  unfolding read_line
  line_in d at h = go (due_row d s at) refl
    where
      value : (v : Result Fields OutOfRange) (p : ℕ) → read_line d s at ≡ line_of_row d at v p → ReadIn (line_of_row d at v p)
      value (Ok f) p e = let t = line_is d s at _ p e in omega (arith, t.here.next, line_inside _ s at t.here.stands)
      value (Err n) p e = (h, omega arith)

      go : (r : Result Row Stopped) → due_row d s at ≡ r → ReadIn (line_read d at r)
      go (Ok r) e = value r.value r.next (ap (line_read d at) e)
      go (Err x) e = (h, omega arith)

  past_in : (n : ℕ) (d : Due) (at : ℕ) → at ≤ length s → In (λ (p : ℕ). p ≤ length s) (length s) (lines_past n d s at)
  unfolding lines_past
  past_in zero d at h = h
  past_in (suc n) d at h = then_in _ _ (length s) (read_line d s at) _ (line_in d at h) (λ x l. past_in n d x.next l)

  through_in : (hs : List Header) (at : ℕ) (f : Sections) → at ≤ length s → JudgedIn (length s) (through hs s at f)
  unfolding through
  through_in [] at f h =
      ⊎_elim
      (λ (l : ltb at (length s) ≡ true). rw l (h, omega arith))
      (λ (l : ltb at (length s) ≡ false). rw l tt)
      (either (ltb at (length s)))
  through_in (g ∷ hs) at f h =
      then_in _ _ (length s) (read_line (HeaderDue g) s at) _ (line_in (HeaderDue g) at h)
      (λ x l. then_in _ _ (length s) (lines_past (lines_under g (count_in x.value)) (line_due g) s x.next) _
      (past_in (lines_under g (count_in x.value)) (line_due g) x.next l)
      (λ p k. through_in hs p (noted g (count_in x.value) x.next f) k))

  pub sections_in : JudgedIn (length s) (sections s)
  unfolding sections
  sections_in = through_in headers 0 nothing_found (omega arith)

abbrev PlacedIn : ℕ → Result Sections Refusal → Type 0
PlacedIn n (Ok x) = Unit {0}
PlacedIn n (Err r) = place_of r ≤ n

judged_placed : (s : List ℕ) → PlacedIn 65536 (judged s)
unfolding judged
judged_placed s =
    ⊎_elim
    (λ (l : ltb 65536 (length s) ≡ true). rw l (omega arith))
    (λ (l : ltb 65536 (length s) ≡ false). rw l (go (sections s) (sections_in s) (ltb-false _ _ l)))
    (either (ltb 65536 (length s)))
  where
    go : (j : Result Sections Refusal) → JudgedIn (length s) j → length s ≤ 65536 → PlacedIn 65536 j
    go (Ok x) h b = tt
    go (Err r) h b = omega (arith, h.0)

-- the place of a refusal
pub refusal_placed : (s : List ℕ) (r : Refusal) → reads s ≡ refusal r → place_of r ≤ 65536
unfolding reads
refusal_placed s r e = go (judged s) refl (judged_placed s)
  where
    go : (j : Result Sections Refusal) → judged s ≡ j → PlacedIn 65536 j → place_of r ≤ 65536
    go (Ok x) q h = let z : ◌≡◌ {A = ℕ} 0 1 = cc (rw q at e) in absurd (omega arith)
    go (Err f) q h = let g : f ≡ r = cc (rw q at e) in rw (← g) h
