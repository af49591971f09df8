-- What a report shows of a rank is what the log has of it. Assumes nothing.
use mathlib.Core.Path.{◌≡◌, sym, ap, subst, ◌∙◌}
use mathlib.Core.Bool.{true}
use mathlib.Core.List.{List}
use mathlib.Core.Option.{Option, none, some}
use Prim.Native.Nat.{ℕ, ◌+◌, ◌<◌, ◌≤◌}
use native.Mathlib.Omega.{arith}
use borrow.Author.Tests.{eq-eqb, ne_eqb}
use lib.Dec.{eqb}
use lib.ListN.{get_elem?}
use Rattle.rules.specs.Access.{slot_cell}
use Rattle.rules.specs.Step.{content_if, content_of}
use Rattle.rules.proofs.Learnt.{Picture, Knows}
use Rattle.rules.proofs.Listed.{behind, in_list}
use Rattle.rules.proofs.Remembered.{newest_of, picture}
use Rattle.rules.proofs.Ring.{Stage, aside, saw_free, filling, filled, saw_full, emptying, emptied, fills, Form, is_filling, is_full, is_emptying, is_free}
use Rattle.rules.proofs.Ringed.{stages, status}
use Rattle.rules.proofs.Sound.{Sound}
use Rattle.rules.specs.Log.{Point, Seen, ins, seen}
use Rattle.rules.specs.Queue.{CoversNoted, showing}
use Rattle.rank.specs.Rank.{slot_of, free_status, full_status}
use Rattle.state.specs.State.{row, first_of}
use Rattle.state.specs.declared.Machine.{Machine}
use Rattle.view.specs.declared.View.{View}

-- a put that has won is not told
untold : (c n : ℕ) (p : Picture) (v : View) (g : Stage) (k : ℕ) → fills g k → Knows c n p v g → p.published k ≡ none
untold c n p v aside k f x = absurd f
untold c n p v (saw_free h) k f x = absurd f
untold c n p v (filling h w) k f x = subst (λ (y : ℕ). p.published y ≡ none) f x.2
untold c n p v (filled h) k f x = subst (λ (y : ℕ). p.published y ≡ none) f x.2
untold c n p v (saw_full t) k f x = absurd f
untold c n p v (emptying t) k f x = absurd f
untold c n p v (emptied t w) k f x = absurd f

-- a full slot shows the weight of a put that is told
told : (k : ℕ) (u : Option View) (v : View) (x w : ℕ) → CoversNoted k u v → some x ≡ some w → content_if true true x ≡ showing u w
told k none v x w f e = absurd f
told k (some y) v x w f e = cc

module _ (p : Point) (S : Sound p) where
  abbrev m : Machine
  m = p.machine

  abbrev n : Seen
  n = seen p.log

  abbrev c : ℕ
  c = m.shape.slots

  abbrev pl : ℕ
  pl = m.shape.plain

  -- a rank is being filled, and its putter is not told, or it is full
  shows : (k w : ℕ) → m.tail.value ≤ k → get_elem? (ins n.ops) k ≡ some w → content_of m p.writes k ≡ showing (n.published k) w
  unfolding content_of slot_cell free_status full_status
  shows k w a e = rw S.stand (go (S.ring.forms k a (omega (arith, below, S.ring.high))))
    where
      below : k < m.head.value
      below = omega (arith, S.list.put, in_list (ins n.ops) k w e)

      go : Form c m.head.value (status m) (stages m) k
          → content_if true (eqb (status m (slot_of c k)) (full_status k)) (newest_of pl (first_of m) p.writes m.held (slot_of c k)).value
          ≡ showing (n.published k) w
      go (is_filling l st i o) =
          rw (
            untold c pl (picture pl (first_of m) m p.writes n) (row m i) (stages m i) k o (S.memory.knows i),
            ne_eqb (status m (slot_of c k)) (full_status k) (λ d. omega (arith, st, d)),
          )
      go (is_full l st) =
          let f = S.memory.full k a l st in
          rw (eq-eqb (status m (slot_of c k)) (full_status k) st) (told (pl + c) (n.published k) _ _ w f.0.1 (sym f.1 ∙ e))
      go (is_emptying l j b st i o) = absurd (omega (arith, below))
      go (is_free l st) = absurd (omega (arith, below))

  -- what is inside the plain list
  pub contents : (j w : ℕ) → get_elem? S.list.line.inside j ≡ some w
      → content_of m p.writes (m.tail.value + j) ≡ showing (n.published (m.tail.value + j)) w
  contents j w e =
      let L = S.list in
      shows (m.tail.value + j) w (omega arith)
      (sym (ap (λ (l : List ℕ). get_elem? l (m.tail.value + j)) L.all) ∙ behind L.line.handed L.line.inside m.tail.value j L.handed ∙ e)
