-- Which line is due at a place is what the rest of its call waits for, place by place. Assumes nothing.
use mathlib.Core.Path.{refl}
use Rattle.published.specs.Follows.{DueByCode}
use Rattle.state.specs.declared.Place.TheVariants.{Idle, PutStatus, PutSwap, PutWrite, PutPublish, TakeStatus, TakeSwap, TakeRead, TakeFree}

pub due_by_code : DueByCode
due_by_code s Idle = refl
due_by_code s (PutStatus h w) = refl
due_by_code s (PutSwap h w) = refl
due_by_code s (PutWrite h w) = refl
due_by_code s (PutPublish h) = refl
due_by_code s (TakeStatus t) = refl
due_by_code s (TakeSwap t) = refl
due_by_code s (TakeRead t) = refl
due_by_code s (TakeFree t w) = refl
