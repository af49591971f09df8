use borrow.Author.Tests.{lt-ltb, le-ltb}
use Rattle.outside.specs.Call.{refused_call}
use Rattle.outside.proofs.refused_call.Goals as goal

pub returns-then-room-lt2 : goal.returns-then-room-lt2
unfolding refused_call
returns-then-room-lt2 c = rw (lt-ltb _ _ c.if-room-lt2.true)

pub returns-then-not-is_asked : goal.returns-then-not-is_asked
unfolding refused_call
returns-then-not-is_asked c = rw (le-ltb _ _ c.if-room-lt2.false, ← c.is_asked.ensures, c.if-not-is_asked.true)

pub returns-then-not-is_image : goal.returns-then-not-is_image
unfolding refused_call
returns-then-not-is_image c =
    rw (le-ltb _ _ c.if-room-lt2.false, ← c.is_asked.ensures, c.if-not-is_asked.false, ← c.is_image.ensures, c.if-not-is_image.true)

pub returns : goal.returns
unfolding refused_call
returns c = rw (le-ltb _ _ c.if-room-lt2.false, ← c.is_asked.ensures, c.if-not-is_asked.false, ← c.is_image.ensures, c.if-not-is_image.false)
