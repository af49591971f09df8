-- Rank arithmetic. Assumes nothing.
use Rattle.std.specs.Prelude.{ℕ, ◌+◌, ◌*◌, ◌%◌}

-- Rank k uses slot k mod C.
unfoldable pub slot_of : ℕ → ℕ → ℕ
slot_of slots k = k % slots

unfoldable pub next_rank : ℕ → ℕ
next_rank k = k + 1

-- the status of a slot that is free for rank k: 2k
unfoldable pub free_status : ℕ → ℕ
free_status k = 2 * k

-- the status of a slot that holds the weight of rank k: 2k + 1
unfoldable pub full_status : ℕ → ℕ
full_status k = 2 * k + 1

-- the next rank that uses the slot of rank k: k + C
unfoldable pub lapped : ℕ → ℕ → ℕ
lapped slots k = k + slots
