-- Two outcomes that perform the same step are equal. Assumes nothing.
use mathlib.Core.Path.{◌≡◌, refl, sym, ap, ◌∙◌}
use mathlib.Core.Logic.{⊎_elim}
use Prim.Native.Nat.{ℕ, ◌+◌, ◌-◌, ◌<◌, ◌≤◌}
use native.Mathlib.Omega.{arith}
use native.Mathlib.Decide.{dec_lt, ℕ_discrete}
use lib.ListN.{length}
use lib.Seq.{ext_get_or}
use Rattle.rules.proofs.Whole.{whole_kept}
use Rattle.published.proofs.OneRule.{has_or_lacks}
use Rattle.published.proofs.OneStep.{Same, same}
use Rattle.published.proofs.Follows.{taken_follows, allowed_taken}
use Rattle.published.specs.Follows.{after, OneOutcome, OnlyOutcome}
use Rattle.published.specs.Memory.{Loc, Has}
use Rattle.rules.specs.Kept.{Lacks}
use Rattle.rules.specs.Step.{Outcome, step_of}
use Rattle.state.specs.State.{zero_atomic, at, cells_of, row, place, atomic_at, Whole}
use Rattle.state.specs.declared.Atomic.{Atomic}
use Rattle.state.specs.declared.Machine.{Machine}
use Rattle.state.specs.declared.Name.{Name}
use Rattle.state.specs.declared.Name.TheVariants.{Head, Tail, Flag, Status}
use Rattle.state.specs.declared.Place.TheVariants.{Idle}
use Rattle.state.specs.declared.Shape.{Shape}
use Rattle.view.specs.View.{view_of, zero_view, stamp_of}
use Rattle.view.specs.declared.View.{View}

-- views by their stamps
same_view : (v w : View) → length v.at ≡ 32 → length w.at ≡ 32 → ((e : ℕ) → stamp_of v e ≡ stamp_of w e) → v ≡ w
unfolding stamp_of
same_view v w p q f = ap view_of (ext_get_or 0 v.at w.at (p ∙ sym q) (λ e _. f e))

-- atomic cells by their values and views
same_atomic : (a b : Atomic) → a.value ≡ b.value → a.view ≡ b.view → a ≡ b
same_atomic a b p q = rw (p, q)

-- machines by their fields
same_fields : (m n : Machine) → m.shape ≡ n.shape → m.steps ≡ n.steps → m.held ≡ n.held → m.firsts ≡ n.firsts → m.views ≡ n.views
    → m.threads ≡ n.threads → m.flags ≡ n.flags → m.head ≡ n.head → m.tail ≡ n.tail → m.statuses ≡ n.statuses → m ≡ n
same_fields m n a b c d e f g h i j = rw (a, b, c, d, e, f, g, h, i, j)

-- and whole ones by their rows, places and cells
same_machine : (m n : Machine) → Whole m → Whole n → m.shape ≡ n.shape → m.steps ≡ n.steps → m.held ≡ n.held → m.firsts ≡ n.firsts
    → ((i : ℕ) → row m i ≡ row n i) → ((i : ℕ) → place m i ≡ place n i) → ((A : Name) → atomic_at m A ≡ atomic_at n A) → m ≡ n
unfolding row place atomic_at
same_machine m n W X a b c d rows places cells =
    same_fields m n a b c d
    (ext_get_or zero_view m.views n.views (W.views ∙ sym X.views) (λ i _. rows i))
    (ext_get_or (at Idle) m.threads n.threads (W.threads ∙ sym X.threads) (λ i _. ap at (places i)))
    (ext_get_or zero_atomic m.flags n.flags (W.flags ∙ sym X.flags) (λ i _. cells (Flag i)))
    (cells Head) (cells Tail)
    (ext_get_or zero_atomic m.statuses n.statuses (W.statuses ∙ sym X.statuses) (λ i _. cells (Status i)))

-- views by the stamps of the cells that there are and the room past them
by_cells : (D : Shape) (u v w : View) → length v.at ≡ 32 → length w.at ≡ 32 → ((a : ℕ) → Loc D a → stamp_of v (a - 1) ≡ stamp_of w (a - 1))
    → ((e : ℕ) → D.plain + D.slots ≤ e → stamp_of v e ≡ stamp_of u e) → ((e : ℕ) → D.plain + D.slots ≤ e → stamp_of w e ≡ stamp_of u e) → v ≡ w
by_cells D u v w p q here past-v past-w = same_view v w p q (λ e. go e (dec_lt e (D.plain + D.slots)))
  where
    go : (e : ℕ) → Dec (e < D.plain + D.slots) → stamp_of v e ≡ stamp_of w e
    go e (yes l) =
        let d : e + 1 - 1 ≡ e = omega arith in
        rw d at (here (e + 1) (omega arith))
    go e (no l) = past-v e (omega arith) ∙ sym (past-w e (omega arith))

pub one_outcome : OneOutcome
unfolding cells_of
one_outcome m ws s o p W X P Q = whole o p machine (sym S.answer) (sym S.writes)
  where
    i : ℕ
    i = s.thread - 1

    S : Same m.shape i o p
    S = same m m ws s o p P Q refl refl refl (record { history = λ a t l. refl; value = λ A h. refl })
        (record { value = λ A h. refl; seen = λ A h a l. refl; view = λ a l. refl })

    rows : (j : ℕ) → Dec (j ≡ i) → row (after o) j ≡ row (after p) j
    rows j (yes e) = rw e (by_cells m.shape (row m i) _ _ (W.rows i) (X.rows i) S.store.view (P.room.rows i) (Q.room.rows i))
    rows j (no n) = (P.others j n).0 ∙ sym (Q.others j n).0

    places : (j : ℕ) → Dec (j ≡ i) → place (after o) j ≡ place (after p) j
    places j (yes e) = rw e (sym S.stands_at)
    places j (no n) = (P.others j n).1 ∙ sym (Q.others j n).1

    cells : (A : Name) → atomic_at (after o) A ≡ atomic_at (after p) A
    cells A =
        ⊎_elim
        (λ (h : Has m.shape A). same_atomic _ _ (S.store.value A h)
        (by_cells m.shape (atomic_at m A).view _ _ (W.seen A) (X.seen A) (S.store.seen A h) (P.room.seen A) (Q.room.seen A)))
        (λ (h : Lacks m.shape A). P.room.cells A h ∙ sym (Q.room.cells A h))
        (has_or_lacks m.shape A)

    machine : after o ≡ after p
    machine = same_machine (after o) (after p) W X (P.room.shape ∙ sym Q.room.shape) (P.steps ∙ sym Q.steps) (sym S.held)
        (P.room.firsts ∙ sym Q.room.firsts) (λ j. rows j (ℕ_discrete j i)) (λ j. places j (ℕ_discrete j i)) cells

    whole : (x y : Outcome) → after x ≡ after y → x.done.answer ≡ y.done.answer → x.writes ≡ y.writes → x ≡ y
    whole x y a b c = rw (a, b, c)

pub only_outcome : OnlyOutcome
only_outcome m ws s o W X A P =
    let n = allowed_taken m ws s A (record { event = P.event; left = P.left; store = _; view = _; makes = P.makes; rule = P.rule }) in
    one_outcome m ws s (step_of m ws s) o (whole_kept m ws s W) X (taken_follows m ws s W n).1 P
