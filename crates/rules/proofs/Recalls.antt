-- What a step leaves of the histories that views' stamps stay in. Assumes nothing.
use mathlib.Core.List.{List}
use Prim.Native.Nat.{ℕ}
use native.Mathlib.Omega.{arith}
use Rattle.rules.specs.Access.{slot_cell}
use Rattle.rules.specs.Calls.{status_name}
use Rattle.rules.proofs.Moves.{Moves}
use Rattle.rules.proofs.Ranks.{slot_in}
use Rattle.rank.specs.Rank.{next_rank, free_status, full_status, lapped}
use Rattle.standing.proofs.Bounds.{Bounds}
use Rattle.state.specs.State.{cells_of, first_of, Whole}
use Rattle.state.specs.declared.Machine.{Machine}
use Rattle.state.specs.declared.Name.TheVariants.{Head, Tail, Flag}
use Rattle.state.specs.declared.Place.TheVariants.{Idle, PutStatus, PutSwap, PutWrite, PutPublish, TakeStatus, TakeSwap, TakeRead, TakeFree}
use Rattle.writes.specs.declared.Write.{Write}
use Rattle.rules.proofs.Recalled.{Recalled, reads, looks, stores, writes}

module _ (m : Machine) (ws : List Write) (i : ℕ) (W : Whole m) (B : Bounds m.shape) (K : Recalled (cells_of m) (first_of m) m ws) where
  pub recall_moves : Moves m ws i (λ v a o us. Recalled (cells_of m) (first_of m) o us)
  unfolding cells_of slot_cell
  recall_moves =
      record {
        gets = λ b t v o e _ x. reads m ws i W B K b t v Idle o x;
        sets = λ b t v o us e r x. writes m ws i W B K b t v Idle o us (r.0, omega (arith, r.1)) x;
        loads = λ b f o e x. looks m ws i W B K (Flag f) Idle o x;
        stores = λ b f v o e x. stores m ws i W B K (Flag f) v Idle o x;
        swap_wins = λ b f u v o e x. stores m ws i W B K (Flag f) v Idle o x;
        swap_loses = λ b f u v o e x. looks m ws i W B K (Flag f) Idle o x;
        put_begins = λ w o e x. looks m ws i W B K Head (PutStatus m.head.value w) o x;
        put_sees = λ h w o e d x. looks m ws i W B K (status_name m h) (PutSwap h w) o x;
        put_stops = λ h w o e x. looks m ws i W B K (status_name m h) Idle o x;
        put_wins = λ h w o e d x. stores m ws i W B K Head (next_rank h) (PutWrite h w) o x;
        put_loses = λ h w o e x. looks m ws i W B K Head Idle o x;
        put_writes = λ h w t o us e x. writes m ws i W B K _ t w (PutPublish h) o us (omega (arith, slot_in m.shape.slots h B.some_slot)) x;
        put_ends = λ h o e x. stores m ws i W B K (status_name m h) (full_status h) Idle o x;
        take_begins = λ o e x. looks m ws i W B K Tail (TakeStatus m.tail.value) o x;
        take_sees = λ t o e d x. looks m ws i W B K (status_name m t) (TakeSwap t) o x;
        take_stops = λ t o e x. looks m ws i W B K (status_name m t) Idle o x;
        take_wins = λ t o e d x. stores m ws i W B K Tail (next_rank t) (TakeRead t) o x;
        take_loses = λ t o e x. looks m ws i W B K Tail Idle o x;
        take_reads = λ t s w o e x. reads m ws i W B K _ s w (TakeFree t w) o x;
        take_ends = λ t w o e x. stores m ws i W B K (status_name m t) (free_status (lapped m.shape.slots t)) Idle o x;
      }
