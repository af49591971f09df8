-- What a place in a call notes and waits for. Assumes nothing.
use Rattle.std.specs.Prelude.{Bool, ℕ, leb}
use Rattle.laws.specs.Tests.{◌and◌}
use Rattle.state.specs.declared.Place.{Place}
use Rattle.state.specs.declared.Place.TheVariants.{Idle, PutStatus, PutSwap, PutWrite, PutPublish, TakeStatus, TakeSwap, TakeRead, TakeFree}
use Rattle.step.specs.Limit.{most}
use Rattle.step.specs.declared.LineKind.{LineKind}
use Rattle.step.specs.declared.LineKind.TheVariants.{Begins, Goes, GoesAt}

-- the rank that a place notes, 0 where it notes none
abbrev pub rank_of : Place → ℕ
rank_of Idle = 0
rank_of (PutStatus h w) = h
rank_of (PutSwap h w) = h
rank_of (PutWrite h w) = h
rank_of (PutPublish h) = h
rank_of (TakeStatus t) = t
rank_of (TakeSwap t) = t
rank_of (TakeRead t) = t
rank_of (TakeFree t w) = t

-- the weight that a place notes, 0 where it notes none
abbrev pub weight_of : Place → ℕ
weight_of Idle = 0
weight_of (PutStatus h w) = w
weight_of (PutSwap h w) = w
weight_of (PutWrite h w) = w
weight_of (PutPublish h) = 0
weight_of (TakeStatus t) = 0
weight_of (TakeSwap t) = 0
weight_of (TakeRead t) = 0
weight_of (TakeFree t w) = w

-- every noted rank at most the steps taken, every noted weight in range
unfoldable pub place_stands : ℕ → Place → Bool
place_stands steps p = leb (rank_of p) steps and leb (weight_of p) most

-- which kind of line is due at a place
abbrev pub due_at : Place → LineKind
due_at Idle = Begins
due_at (PutStatus h w) = Goes
due_at (PutSwap h w) = Goes
due_at (PutWrite h w) = GoesAt
due_at (PutPublish h) = Goes
due_at (TakeStatus t) = Goes
due_at (TakeSwap t) = Goes
due_at (TakeRead t) = GoesAt
due_at (TakeFree t w) = Goes
