-- The opening. Assumes nothing.
use Rattle.std.specs.Prelude.{Bool, true, false, List, ℕ, leb, length, get_or, replicate}
use Rattle.laws.specs.Lists.{filled}
use Rattle.laws.specs.Tests.{◌and◌, all_below}
use Rattle.opening.specs.declared.Opened.{Opened}
use Rattle.rank.specs.Rank.{free_status}
use Rattle.standing.specs.Stands.{in_shape}
use Rattle.state.specs.State.{atomic, zero_atomic, at}
use Rattle.state.specs.declared.Atomic.{Atomic}
use Rattle.state.specs.declared.Machine.{Machine}
use Rattle.state.specs.declared.Place.TheVariants.{Idle}
use Rattle.state.specs.declared.Shape.{Shape}
use Rattle.step.specs.Limit.{most}
use Rattle.step.specs.declared.Answer.TheVariants.{Ok, Refused}
use Rattle.step.specs.Reason.{number}
use Rattle.step.specs.declared.Reason.{Reason}
use Rattle.step.specs.declared.Reason.TheVariants.{OutOfRange, TooGreat}
use Rattle.view.specs.View.{zero_view}

-- every weight at most 1,000,000,000
unfoldable pub weights_stand : List ℕ → Bool
weights_stand vs = all_below (λ i. leb (get_or vs i 0) most) (length vs)

-- The given values of the plain cells; room past them is zero.
unfoldable pub given_room : List ℕ → List ℕ
given_room vs = filled (λ i. get_or vs i 0) (length vs) (replicate 16 0)

-- The flags with their given values, views at zero.
unfoldable pub flags_room : List ℕ → List Atomic
flags_room vs = filled (λ i. atomic (get_or vs i 0) zero_view) (length vs) (replicate 8 zero_atomic)

-- Status of slot i (from 0) at 2i.
unfoldable pub statuses_room : ℕ → List Atomic
statuses_room c = filled (λ i. atomic (free_status i) zero_view) c (replicate 16 zero_atomic)

-- no step taken, no write held, every thread idle, every view at zero, head and tail at 0
unfoldable pub unmoved : Shape → List ℕ → List Atomic → List Atomic → Machine
unmoved s given flags statuses =
    record {
      shape = s;
      steps = 0;
      held = 0;
      firsts = given;
      views = replicate 8 zero_view;
      threads = replicate 8 (at Idle);
      flags = flags;
      head = zero_atomic;
      tail = zero_atomic;
      statuses = statuses;
    }

abbrev pub shape : ℕ → ℕ → ℕ → ℕ → Shape
shape t c n f = record { threads = t; slots = c; plain = n; flags = f }

-- a fresh machine
unfoldable pub fresh : ℕ → ℕ → List ℕ → List ℕ → Machine
fresh t c plain flags = unmoved (shape t c (length plain) (length flags)) (given_room plain) (flags_room flags) (statuses_room c)

-- A refused opening gives no machine: all is zero, and that does not stand.
unfoldable pub refused_opening : Reason → Opened
refused_opening r =
    record { answer = Refused (number r); machine = unmoved (shape 0 0 0 0) (replicate 16 0) (replicate 8 zero_atomic) (replicate 16 zero_atomic) }

abbrev pub opened_if : Bool → Bool → Machine → Opened
opened_if false b m = refused_opening OutOfRange
opened_if true false m = refused_opening TooGreat
opened_if true true m = record { answer = Ok; machine = m }

-- Opening: 5, then 10.
unfoldable pub opened_of : ℕ → ℕ → List ℕ → List ℕ → Opened
opened_of t c plain flags =
    opened_if (in_shape t c (length plain) (length flags)) (weights_stand plain and weights_stand flags) (fresh t c plain flags)
