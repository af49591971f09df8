-- Room is not judged: machines that agree outside it stand alike, and a step of either has the same number. Assumes nothing.
use mathlib.Core.Path.{◌≡◌, refl, sym, ap, ◌∙◌}
use mathlib.Core.Bool.{Bool, true, false, not}
use mathlib.Core.List.{List}
use Prim.Native.Nat.{ℕ, zero, suc, ◌+◌, ◌-◌, ◌*◌, ◌<◌, ◌≤◌}
use native.Mathlib.Omega.{arith}
use native.Mathlib.Decide.{dec_lt}
use borrow.Author.Tests.{not-false, le-ltb}
use lib.Dec.{leb, ltb}
use lib.ListN.{length}
use Rattle.std.specs.Prelude.{Option, None}
use Rattle.accesses.specs.Accesses.{full, outdated, amiss}
use Rattle.laws.specs.Tests.{◌and◌, all_below}
use Rattle.parts.specs.Parts.{thread_stands, threads_stand, firsts_stand, atomic_stands, atomics_stand, cells_stand, parts_stand}
use Rattle.places.specs.Places.{due_at, place_stands}
use Rattle.refusal.proofs.Passed.{among_some}
use Rattle.refusal.specs.Refusal.{same_kind, refuse, refusal_by}
use Rattle.rules.proofs.Parts.{Known}
use Rattle.rules.proofs.Refused.{numbered}
use Rattle.rules.proofs.RoomSteps.{lacks_none}
use Rattle.rules.proofs.Unstuck.{Ranged, ranged}
use Rattle.rules.specs.Access.{access_of, cell_asked, found_by}
use Rattle.rules.specs.Kept.{Alike, RoomUnjudged}
use Rattle.rules.specs.Step.{asked, refusal_of}
use Rattle.standing.proofs.Bounds.{bounds}
use Rattle.standing.specs.Stands.{sizes_stand, stands}
use Rattle.state.specs.State.{cells_of, row, place, atomic_at, first_of}
use Rattle.state.specs.declared.Machine.{Machine}
use Rattle.state.specs.declared.Name.{Name}
use Rattle.state.specs.declared.Name.TheVariants.{Head, Tail, Flag, Status}
use Rattle.state.specs.declared.Shape.{Shape}
use Rattle.step.specs.Limit.{most}
use Rattle.step.specs.Reason.{number_by}
use Rattle.step.specs.declared.Reason.{Reason}
use Rattle.step.specs.declared.Reason.TheVariants.{StepsTaken, NoSuchThread, NotDue, NoSuchCell, TooGreat, NoRecordFree, Outdated, Amiss, CannotStand}
use Rattle.step.specs.declared.Step.{Step}
use Rattle.verbs.specs.Verbs.{among, asks, named, greatest}
use Rattle.view.specs.View.{stamp_of, view_stands}
use Rattle.view.specs.declared.View.{View}
use Rattle.writes.specs.History.{records_stand}
use Rattle.writes.specs.declared.Access.{Access}
use Rattle.writes.specs.declared.Access.TheVariants.{NoAccess, Reads, Writes}
use Rattle.writes.specs.declared.Write.{Write}

ap2 : {A B C : Type 0} (f : A → B → C) {x y : A} {u v : B} → x ≡ y → u ≡ v → f x u ≡ f y v
ap2 f p q = rw (p, q)

-- both tests agree
and_same : {a b c d : Bool} → a ≡ b → c ≡ d → (a and c) ≡ (b and d)
and_same p q = rw (p, q)

-- tests agree below n
all_same : (p q : ℕ → Bool) (j n : ℕ) → j ≡ n → ((i : ℕ) → i < n → p i ≡ q i) → all_below p j ≡ all_below q n
unfolding all_below
all_same p q j n e f = rw e (go n f)
  where
    go : (k : ℕ) → ((i : ℕ) → i < k → p i ≡ q i) → all_below p k ≡ all_below q k
    go zero f = refl
    go (suc k) f = and_same (go k (λ i l. f i (omega arith))) (f k (omega arith))

-- views that agree in k stamps
view_same : (j k : ℕ) (v w : View) → j ≡ k → ((e : ℕ) → e < k → stamp_of v e ≡ stamp_of w e) → view_stands j v ≡ view_stands k w
unfolding view_stands
view_same j k v w h f = all_same _ _ j k h (λ e l. rw (f e l))

-- one test more of a chain
refuse_same : (b c : Bool) (k : Reason) (r t : Option Reason) → b ≡ c → (c ≡ false → r ≡ t) → refuse b k r ≡ refuse c k t
refuse_same b true k r t e f = rw e
refuse_same b false k r t e f = rw e (f refl)

module _ (m n : Machine) (A : Alike m n) where
  cells_same : cells_of n ≡ cells_of m
  unfolding cells_of
  cells_same = rw A.shape

  thread_same : (i : ℕ) → i < m.shape.threads → thread_stands n i ≡ thread_stands m i
  unfolding thread_stands
  thread_same i l = and_same (ap2 place_stands A.steps (A.places i l)) (view_same _ _ (row n i) (row m i) cells_same (λ e h. A.rows i e l h))

  atomic_same : (a : Name) (j high : ℕ) → j ≡ high → Known m.shape a
      → atomic_stands (cells_of n) j (atomic_at n a) ≡ atomic_stands (cells_of m) high (atomic_at m a)
  unfolding atomic_stands
  atomic_same a j high e k =
      let has = lacks_none m.shape a k in
      and_same (ap2 leb (A.values a has) e) (view_same _ _ (atomic_at n a).view (atomic_at m a).view cells_same (λ e h. A.seen a e has h))

  -- twice the steps and the slots
  high_same : 2 * (n.steps + n.shape.slots) + 1 ≡ 2 * (m.steps + m.shape.slots) + 1
  high_same = rw (A.steps, A.shape)

  parts_same : parts_stand n ≡ parts_stand m
  unfolding parts_stand threads_stand firsts_stand cells_stand atomics_stand atomic_at
  parts_same =
      and_same (all_same _ _ _ _ (ap (λ (s : Shape). s.threads) A.shape) thread_same)
      (and_same (all_same _ _ _ _ (ap (λ (s : Shape). s.plain) A.shape) (λ e l. rw (A.firsts e l)))
      (and_same (all_same _ _ _ _ (ap (λ (s : Shape). s.flags) A.shape) (λ i l. atomic_same (Flag i) most most refl l))
      (and_same (atomic_same Head _ _ A.steps tt)
      (and_same (atomic_same Tail _ _ A.steps tt)
      (all_same _ _ _ _ (ap (λ (s : Shape). s.slots) A.shape) (λ i l. atomic_same (Status i) _ _ high_same l))))))

  sizes_same : (lent : ℕ) → sizes_stand n lent ≡ sizes_stand m lent
  unfolding sizes_stand
  sizes_same lent = rw (A.shape, A.steps, A.held)

  stands_same : (ws : List Write) → stands n ws ≡ stands m ws
  unfolding stands
  stands_same ws =
      and_same (sizes_same (length ws)) (and_same parts_same (records ∙ ap (records_stand (cells_of m) ws) A.held))
    where
      records : records_stand (cells_of n) ws n.held ≡ records_stand (cells_of m) ws n.held
      records = ap (λ (k : ℕ). records_stand k ws n.held) cells_same

  -- first values, those of slots too
  pub first_same : (e : ℕ) → first_of n e ≡ first_of m e
  unfolding first_of
  first_same e = go (dec_lt e m.shape.plain)
    where
      past : (x : Machine) → x.shape.plain ≤ e → first_of x e ≡ 0
      past x h = rw (le-ltb e x.shape.plain h)

      go : Dec (e < m.shape.plain) → first_of n e ≡ first_of m e
      go (yes l) = A.firsts e l
      go (no l) = past n (rw A.shape (omega arith)) ∙ sym (past m (omega arith))

  -- what an access finds
  found_same : (ws : List Write) (a : Access) → found_by n ws a ≡ found_by m ws a
  unfolding found_by
  found_same ws a = rw (first_same (cell_asked a - 1), A.held)

  -- an access of one of the machine's cells, by a thread that there is
  outdated_same : (i : ℕ) (a : Access) → i < m.shape.threads → Ranged (cells_of m) a → outdated a (row n i) ≡ outdated a (row m i)
  outdated_same i NoAccess l r = refl
  outdated_same i (Reads c t) l r = rw (A.rows i (c - 1) l (omega arith))
  outdated_same i (Writes c t v) l r = rw (A.rows i (c - 1) l (omega arith))

  pub reason_same : (ws : List Write) (s : Step) → refusal_of n ws s ≡ refusal_of m ws s
  unfolding refusal_of refusal_by
  reason_same ws s =
      refuse_same _ _ CannotStand _ _ (ap not (stands_same ws))
      (λ t14. refuse_same _ _ StepsTaken _ _ (ap (leb 4096) A.steps)
      (λ t6. refuse_same _ _ NoSuchThread _ _ (ap (λ (z : Shape). not (among s.thread z.threads)) A.shape)
      (λ t7.
      let l : s.thread - 1 < m.shape.threads = omega (arith, among_some _ _ (not-false _ t7)) in
      let p = A.places (s.thread - 1) l in
      let a : asked n s ≡ asked m s = ap2 (λ z q. access_of z s.verb q) A.shape p in
      refuse_same _ _ NotDue _ _ (ap (λ q. not (same_kind (asks s.verb) (due_at q))) p)
      (λ t8. refuse_same _ _ NoSuchCell _ _ (ap (λ (z : Shape). not (named z s.verb)) A.shape)
      (λ t9. ap (refuse (ltb most (greatest s.verb)) TooGreat)
      (refuse_same _ _ NoRecordFree _ _ (ap2 (λ x h. full x h (length ws)) a A.held)
      (λ t11. refuse_same _ _ Outdated _ _
      (ap (λ x. outdated x (row n (s.thread - 1))) a
      ∙ outdated_same (s.thread - 1) (asked m s) l (ranged m (bounds m ws (not-false _ t14)) s.verb (place m (s.thread - 1)) (not-false _ t9)))
      (λ t12. ap (λ b. refuse b Amiss None) (ap2 amiss a (ap (found_by n ws) a ∙ found_same ws (asked m s)))))))))))

pub room_unjudged : RoomUnjudged
room_unjudged m n ws s A = (stands_same m n A ws, numbered n ws s ∙ ap number_by (reason_same m n A ws s) ∙ sym (numbered m ws s))
