-- Tests of a plain access. Assumes nothing.
use Rattle.std.specs.Prelude.{Bool, false, not, ℕ, ◌-◌, leb, ltb, Option, is_some}
use Rattle.laws.specs.Tests.{◌or◌}
use Rattle.view.specs.View.{stamp_of}
use Rattle.view.specs.declared.View.{View}
use Rattle.writes.specs.declared.Access.{Access}
use Rattle.writes.specs.declared.Access.TheVariants.{NoAccess, Reads, Writes}

-- a plain write with no record free: held writes equal the records lent, or 1,024
abbrev pub full : Access → ℕ → ℕ → Bool
full NoAccess held lent = false
full (Reads c t) held lent = false
full (Writes c t v) held lent = leb 1024 held or leb lent held

-- read: stamp below the thread's view; write: not above it
abbrev pub outdated : Access → View → Bool
outdated NoAccess v = false
outdated (Reads c t) v = ltb t (stamp_of v (c - 1))
outdated (Writes c t x) v = leb t (stamp_of v (c - 1))

-- read: no write with that stamp; write: that stamp in the history
abbrev pub amiss : Access → Option ℕ → Bool
amiss NoAccess f = false
amiss (Reads c t) f = not (is_some f)
amiss (Writes c t v) f = is_some f
