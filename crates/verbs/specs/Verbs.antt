-- Tests of what a line asks. Assumes nothing.
use Rattle.std.specs.Prelude.{Bool, true, false, ℕ, zero, suc, max, leb}
use Rattle.state.specs.declared.Shape.{Shape}
use Rattle.step.specs.declared.LineKind.{LineKind}
use Rattle.step.specs.declared.LineKind.TheVariants.{Begins, Goes, GoesAt}
use Rattle.step.specs.declared.Verb.{Verb}
use Rattle.step.specs.declared.Verb.TheVariants.{Get, Set, Load, Store, Swap, Put, Take, Go, GoAt}

-- 1 to n
unfoldable pub among : ℕ → ℕ → Bool
among zero n = false
among (suc k) n = leb (suc k) n

-- which kind of line a verb is: it begins a call or is an access, or it is a go, or a go with a stamp
abbrev pub asks : Verb → LineKind
asks (Get c t) = Begins
asks (Set c v t) = Begins
asks (Load f) = Begins
asks (Store f v) = Begins
asks (Swap f u v) = Begins
asks (Put w) = Begins
asks Take = Begins
asks Go = Goes
asks (GoAt t) = GoesAt

-- the cell or flag that an access names is one of this machine's
abbrev pub named : Shape → Verb → Bool
named s (Get c t) = among c s.plain
named s (Set c v t) = among c s.plain
named s (Load f) = among f s.flags
named s (Store f v) = among f s.flags
named s (Swap f u v) = among f s.flags
named s (Put w) = true
named s Take = true
named s Go = true
named s (GoAt t) = true

-- the greatest weight or stamp of a line, 0 where it has none
abbrev pub greatest : Verb → ℕ
greatest (Get c t) = t
greatest (Set c v t) = max v t
greatest (Load f) = 0
greatest (Store f v) = v
greatest (Swap f u v) = max u v
greatest (Put w) = w
greatest Take = 0
greatest Go = 0
greatest (GoAt t) = t
