-- Every step keeps the memory's part of the ring. Assumes nothing.
use mathlib.Core.Path.{◌≡◌, refl, sym, ap, subst, fun_ext, ◌∙◌}
use mathlib.Core.List.{List}
use mathlib.Core.Logic.{◌≢◌}
use mathlib.Core.Option.{some}
use Prim.Native.Nat.{ℕ, suc, ◌+◌, ◌-◌, ◌≤◌}
use native.Mathlib.Nat.{le_of_eq}
use native.Mathlib.Omega.{arith}
use lib.ListN.{length, get_elem?}
use Rattle.std.specs.Prelude.{Some}
use Rattle.atomic.specs.Atomic.{met, told}
use Rattle.rules.specs.Access.{slot_cell}
use Rattle.rules.specs.Calls.{status_name}
use Rattle.rules.specs.Step.{value_of}
use Rattle.rules.proofs.Calm.{status_at, Calm, all_calm, flag_calm, head_stored, tail_stored, status_stored}
use Rattle.rules.proofs.Events.{Goes, Writing, Looking, Storing}
use Rattle.rules.proofs.Handed.{put_ended, take_ended, fill_clear}
use Rattle.rules.proofs.Histories.{newest_more, newer_else, newer_here, found_under, newest_shown}
use Rattle.rules.proofs.Joins.{met_own, met_cell, told_own, told_met}
use Rattle.rules.proofs.Learnt.{Picture, Knows, Memory, newest_up, brings_up, look, head_won, tail_won, slot_written}
use Rattle.rules.proofs.Listed.{Marked, ListedAt, one_more}
use Rattle.rules.proofs.Moves.{Moves}
use Rattle.rules.proofs.Ranks.{slot_in}
use Rattle.rules.proofs.Ring.{aside, filling, filled, emptying, fills}
use Rattle.rules.proofs.Ringed.{stage, stages, status, Ringed}
use Rattle.rules.proofs.Updated.{mapped, changed}
use Rattle.rules.specs.Log.{Seen, putting, taking, ins, under, heard}
use Rattle.rules.specs.Queue.{Covers}
use Rattle.rank.specs.Rank.{slot_of, next_rank, free_status, full_status, lapped}
use Rattle.standing.proofs.Bounds.{Bounds}
use Rattle.state.proofs.Changed.{stamp_here}
use Rattle.state.specs.State.{cells_of, row, place, first_of, Whole}
use Rattle.state.specs.declared.Atomic.{Atomic}
use Rattle.state.specs.declared.Machine.{Machine}
use Rattle.state.specs.declared.Name.{Name}
use Rattle.state.specs.declared.Name.TheVariants.{Head, Tail, Flag}
use Rattle.state.specs.declared.Place.{Place}
use Rattle.state.specs.declared.Place.TheVariants.{Idle, PutStatus, PutSwap, PutWrite, PutPublish, TakeStatus, TakeSwap, TakeRead, TakeFree}
use Rattle.step.specs.declared.Answer.TheVariants.{Dash, Yes}
use Rattle.view.specs.View.{stamp_of, with_stamp}
use Rattle.view.specs.declared.View.{View}
use Rattle.writes.specs.History.{found, newest, newer}
use Rattle.writes.specs.Records.{write}
use Rattle.writes.specs.declared.Newest.{Newest}
use Rattle.writes.specs.declared.Write.{Write}

-- the newest write of slot z, with n plain cells and the given first values
abbrev pub newest_of : ℕ → (ℕ → ℕ) → List Write → ℕ → ℕ → Newest
newest_of n first ws held z = newest (first (n + 1 + z - 1)) ws (n + 1 + z) held

-- the picture by its parts, and that of a machine
abbrev pub picture_of : ℕ → (ℕ → ℕ) → List Write → ℕ → ℕ → ℕ → (ℕ → ℕ) → Seen → Picture
picture_of n first ws held h t st nt =
    record {
      head = h;
      tail = t;
      st = st;
      top = λ z. (newest_of n first ws held z).stamp;
      val = λ z. (newest_of n first ws held z).value;
      put = get_elem? (ins nt.ops);
      published = nt.published;
    }

abbrev pub picture : ℕ → (ℕ → ℕ) → Machine → List Write → Seen → Picture
picture n first m ws nt = picture_of n first ws m.held m.head.value m.tail.value (status m) nt

-- the view that the status of a slot has
abbrev pub left_by : Machine → ℕ → View
left_by m z = (status_at m z).view

-- the memory of a machine with c slots, n plain cells and the given first values
abbrev pub Remembered : ℕ → ℕ → (ℕ → ℕ) → Machine → List Write → Seen → Type 0
Remembered c n first m ws nt = Memory c n (picture n first m ws nt) (stages m) (row m) (left_by m)

-- the same over what a machine is known to have
memory_as : (c n : ℕ) (first : ℕ → ℕ) (o : Machine) (ws : List Write) (nt : Seen) (held h t : ℕ) (cells : ℕ → Atomic)
    → o.held ≡ held → o.head.value ≡ h → o.tail.value ≡ t → ((z : ℕ) → status_at o z ≡ cells z)
    → Memory c n (picture_of n first ws held h t (λ z. (cells z).value) nt) (stages o) (row o) (λ z. (cells z).view) → Remembered c n first o ws nt
memory_as c n first o ws nt held h t cells e f g s r =
    subst (λ (x : ℕ). Memory c n (picture_of n first ws x o.head.value o.tail.value (status o) nt) (stages o) (row o) (left_by o)) (sym e)
    (subst (λ (x : ℕ). Memory c n (picture_of n first ws held x o.tail.value (status o) nt) (stages o) (row o) (left_by o)) (sym f)
    (subst (λ (x : ℕ). Memory c n (picture_of n first ws held h x (status o) nt) (stages o) (row o) (left_by o)) (sym g)
    (subst (λ (x : ℕ → Atomic). Memory c n (picture_of n first ws held h t (λ z. (x z).value) nt) (stages o) (row o) (λ z. (x z).view)) (sym (fun_ext s)) r)))

module _ (m : Machine) (ws : List Write) (nt : Seen) (i : ℕ) (W : Whole m) (B : Bounds m.shape) (R : Ringed m.shape.slots m)
    (M : Remembered m.shape.slots m.shape.plain (first_of m) m ws nt) where
  abbrev c : ℕ
  c = m.shape.slots

  abbrev pl : ℕ
  pl = m.shape.plain

  -- the machine before the step
  abbrev pic : Picture
  pic = picture pl (first_of m) m ws nt

  -- the memory after it
  abbrev Now : Machine → List Write → Seen → Type 0
  Now o us nt' = Remembered c pl (first_of m) o us nt'

  -- the newest write of a slot, before and after one record more
  abbrev newest_now : ℕ → Newest
  newest_now z = newest_of pl (first_of m) ws m.held z

  abbrev newest_in : List Write → ℕ → Newest
  newest_in us z = newest_of pl (first_of m) us (suc m.held) z

  -- what a thread knows at its place
  pub knew_at : (p : Place) → place m i ≡ p → Knows c pl pic (row m i) (stage p)
  knew_at p e = subst (λ (x : Place). Knows c pl pic (row m i) (stage x)) e (M.knows i)

  -- a take's read: the newest stamp and no other, and so the newest value
  pub one_stamp : (t s w : ℕ) → place m i ≡ TakeRead t → stamp_of (row m i) (slot_cell m.shape t - 1) ≤ s
      → found (first_of m (slot_cell m.shape t - 1)) ws (slot_cell m.shape t) s m.held ≡ Some w
      → (s ≡ (newest_now (slot_of c t)).stamp) × (w ≡ (newest_now (slot_of c t)).value)
  unfolding slot_cell
  one_stamp t s w e low shown = (
    same,
    ap value_of (sym shown ∙ ap (λ (y : ℕ). found (first_of m (z - 1)) ws z y m.held) same ∙ newest_shown (first_of m (z - 1)) ws z m.held),
  )
    where
      z : ℕ
      z = pl + 1 + slot_of c t

      spot : z - 1 ≡ pl + slot_of c t
      spot = omega arith

      same : s ≡ (newest_now (slot_of c t)).stamp
      same =
          let below : s ≤ (newest_now (slot_of c t)).stamp = found_under (first_of m (z - 1)) ws z s w m.held shown in
          omega (arith, rw spot at low, (knew_at (TakeRead t) e).0.0)

  -- a join covers the thread's own view
  own : (a : Name) → Covers (pl + c) (met m i a) (row m i)
  unfolding cells_of
  own a = met_own m i a W B

  -- an event that leaves head, tail, statuses and list: on to place q with view v
  quiet : (q : Place) (v : View) (o : Machine) → Goes m o i q v → Calm m o → o.held ≡ m.held
      → Knows c pl pic v (stage q) → Now o ws nt
  quiet q v o g k h f =
      memory_as c pl (first_of m) o ws nt _ _ _ (status_at m) h k.head k.tail k.statuses
      (look c pl pic (stages m) (row m) (left_by m) M i (stage q) v (stages o) (mapped stage g.places) (row o) g.rows f)

  -- an atomic read, and an atomic write of a flag
  looks : (a : Name) (q : Place) (o : Machine) → Looking m i a q o → Knows c pl pic (met m i a) (stage q) → Now o ws nt
  looks a q o x f = quiet q (met m i a) o x.goes (all_calm m o x.cells) x.held f

  flags : (f x : ℕ) (o : Machine) → Storing m i (Flag f) x Idle o → Now o ws nt
  flags f x o s = quiet Idle (met m i (Flag f)) o s.goes (flag_calm m i x Idle o f s) s.held tt

  -- a plain write to cell b: what becomes of the newest write of slot z
  filed : (b t v : ℕ) (q : Place) (o : Machine) (us : List Write) → Writing m ws i b t v q o us → (z : ℕ)
      → newest_in us z ≡ newer (newest_now z) (write b t v) (pl + 1 + z)
  filed b t v q o us x z = rw x.filed (newest_more (first_of m (pl + 1 + z - 1)) ws (write b t v) (pl + 1 + z) m.held x.room)

  filed_else : (b t v : ℕ) (q : Place) (o : Machine) (us : List Write) → Writing m ws i b t v q o us → (z : ℕ) → b ≢ pl + 1 + z
      → newest_in us z ≡ newest_now z
  filed_else b t v q o us x z d = filed b t v q o us x z ∙ newer_else _ (write b t v) (pl + 1 + z) d

  -- a plain write to a plain cell touches no slot
  sets : (b t v : ℕ) (o : Machine) (us : List Write) → (1 ≤ b) × (b ≤ pl) → Writing m ws i b t v Idle o us → Now o us nt
  sets b t v o us r x =
      let k = all_calm m o x.cells in
      memory_as c pl (first_of m) o us nt _ _ _ (status_at m) x.held k.head k.tail k.statuses
      (slot_written c pl pic (stages m) (row m) (left_by m) M i aside _ (stages o) (mapped stage x.goes.places)
      (row o) x.goes.rows c (λ z. (newest_in us z).stamp) (λ z. (newest_in us z).value) _ _
      (record { here = refl; else = λ j _. ap (λ (y : Newest). y.stamp) (same j) })
      (record { here = refl; else = λ j _. ap (λ (y : Newest). y.value) (same j) })
      (record { free = λ j _ _. none j; full = λ j _ _. none j; filling = λ _ j _ _. none j; emptying = λ _ j _ _. none j }) tt)
    where
      same : (z : ℕ) → newest_in us z ≡ newest_now z
      same z = filed_else b t v Idle o us x z (λ e. omega arith)

      none : (j : ℕ) → slot_of c j ≢ c
      none j e = omega (arith, slot_in c j R.some)

  -- a put's write is the newest of its slot
  put_write : (h w t : ℕ) (o : Machine) (us : List Write) → place m i ≡ PutWrite h w
      → Writing m ws i (slot_cell m.shape h) t w (PutPublish h) o us → Now o us nt
  unfolding slot_cell
  put_write h w t o us e x =
      let k = all_calm m o x.cells in
      memory_as c pl (first_of m) o us nt _ _ _ (status_at m) x.held k.head k.tail k.statuses
      (slot_written c pl pic (stages m) (row m) (left_by m) M i (filled h) _ (stages o) (mapped stage x.goes.places)
      (row o) x.goes.rows z (λ j. (newest_in us j).stamp) (λ j. (newest_in us j).value) t w
      (record { here = ap (λ (y : Newest). y.stamp) here; else = λ j d. ap (λ (y : Newest). y.stamp) (far j d) })
      (record { here = ap (λ (y : Newest). y.value) here; else = λ j d. ap (λ (y : Newest). y.value) (far j d) })
      (fill_clear c pic (stages m) R i h (subst (λ (y : Place). fills (stage y) h) (sym e) refl))
      (le_of_eq (ap (λ (y : Newest). y.stamp) here ∙ sym seen), (knew_at (PutWrite h w) e).1 ∙ ap some (sym (ap (λ (y : Newest). y.value) here)), (knew_at (PutWrite h w) e).2))
    where
      z : ℕ
      z = slot_of c h

      spot : pl + 1 + z - 1 ≡ pl + z
      spot = omega arith

      here : newest_in us z ≡ record { stamp = t; value = w }
      here =
          filed (pl + 1 + z) t w (PutPublish h) o us x z
          ∙ newer_here _ (pl + 1 + z) t w (omega (arith, (knew_at (PutWrite h w) e).0, rw spot at x.above))

      far : (j : ℕ) → j ≢ z → newest_in us j ≡ newest_now j
      far j d = filed_else (pl + 1 + z) t w (PutPublish h) o us x j (λ f. d (omega arith))

      seen : stamp_of (with_stamp (row m i) (pl + 1 + z - 1) t) (pl + z) ≡ t
      seen = rw spot (stamp_here (row m i) (pl + z) t (omega (arith, W.rows i, slot_in c h R.some, B.plain, B.slots)))

  -- a put publishes: the status's view covers the putter's
  publishes : (w h : ℕ) (o : Machine) → place m i ≡ PutPublish h → Storing m i (status_name m h) (full_status h) Idle o
      → Now o ws (heard i (row o i) (putting w 4 h) Yes nt)
  unfolding cells_of
  publishes w h o e x =
      let r = status_stored m i (full_status h) Idle o (slot_of c h) x in
      memory_as c pl (first_of m) o ws (heard i (row o i) (putting w 4 h) Yes nt) _ _ _ (status_at o) x.held r.0 r.1 (λ _. refl)
      (put_ended c pl pic (stages m) (row m) (left_by m) M R i (row o i) _ (stages o) (mapped stage x.goes.places)
      (row o) (record { here = refl; else = x.goes.rows.else }) (status o) (left_by o) (told_own m i (status_name m h) W B)
      h (ap stage e) (mapped (λ (y : Atomic). y.value) r.2) (mapped (λ (y : Atomic). y.view) r.2)
      (subst (Covers (pl + c) (told m i (status_name m h))) (sym x.goes.rows.here) (told_met m i (status_name m h) W B))
      _ (changed nt.published h (some (row o i))))

  -- a take frees its slot
  frees : (t w : ℕ) (o : Machine) → place m i ≡ TakeFree t w → Storing m i (status_name m t) (free_status (lapped c t)) Idle o → Now o ws nt
  unfolding cells_of
  frees t w o e x =
      let r = status_stored m i (free_status (lapped c t)) Idle o (slot_of c t) x in
      memory_as c pl (first_of m) o ws nt _ _ _ (status_at o) x.held r.0 r.1 (λ _. refl)
      (take_ended c pl pic (stages m) (row m) (left_by m) M R i (met m i (status_name m t)) _ (stages o)
      (mapped stage x.goes.places) (row o) x.goes.rows (status o) (left_by o) (told_own m i (status_name m t) W B)
      t w (ap stage e) (mapped (λ (y : Atomic). y.value) r.2) (mapped (λ (y : Atomic). y.view) r.2))

  -- a swap is won
  wins_a_head : (h w : ℕ) (o : Machine) → place m i ≡ PutSwap h w → m.head.value ≡ h → length (ins nt.ops) ≡ h → Storing m i Head (next_rank h) (PutWrite h w) o
      → Now o ws (heard i (row o i) (putting w 2 0) Dash nt)
  unfolding ins
  wins_a_head h w o e d n x =
      let r = head_stored m i (next_rank h) (PutWrite h w) o x in
      memory_as c pl (first_of m) o ws (heard i (row o i) (putting w 2 0) Dash nt) _ _ _ (status_at m) x.held r.0 r.1 r.2
      (head_won c pl pic (stages m) (row m) (left_by m) M i (filling h w) _ (stages o) (mapped stage x.goes.places)
      (row o) x.goes.rows h w R (ap stage e) refl d (own Head) _ (one_more (ins nt.ops) h w n))

  wins_a_tail : (t : ℕ) (o : Machine) → place m i ≡ TakeSwap t → m.tail.value ≡ t → Storing m i Tail (next_rank t) (TakeRead t) o
      → Now o ws (heard i (row o i) (taking 2 0) Dash nt)
  unfolding ins
  wins_a_tail t o e d x =
      let r = tail_stored m i (next_rank t) (TakeRead t) o x in
      memory_as c pl (first_of m) o ws (heard i (row o i) (taking 2 0) Dash nt) _ _ _ (status_at m) x.held r.0 r.1 r.2
      (tail_won c pl pic (stages m) (row m) (left_by m) M i (emptying t) _ (stages o) (mapped stage x.goes.places)
      (row o) x.goes.rows t R (ap stage e) refl d (own Tail))

  pub memory_moves : ListedAt c m nt → Moves m ws i (λ v a o us. Now o us (heard i (row o i) (under (nt.calls i) v) a nt))
  unfolding cells_of
  memory_moves L =
      record {
        gets = λ b t v o e _ x. quiet Idle (row m i) o x.goes (all_calm m o x.cells) x.held tt;
        sets = λ b t v o us e r x. sets b t v o us r x;
        loads = λ b f o e x. looks (Flag f) Idle o x tt;
        stores = λ b f v o e x. flags f v o x;
        swap_wins = λ b f u v o e x. rw (mark Idle e) (flags f v o x);
        swap_loses = λ b f u v o e x. looks (Flag f) Idle o x tt;
        put_begins = λ w o e x. rw (mark Idle e) (looks Head (PutStatus m.head.value w) o x tt);
        put_sees = λ h w o e d x. rw (mark (PutStatus h w) e) (looks (status_name m h) (PutSwap h w) o x
            (λ a f. newest_up c pl pic.top h _ _ R.some (met_cell m i (status_name m h) W B) (M.free h a f)));
        put_stops = λ h w o e x. looks (status_name m h) Idle o x tt;
        put_wins = λ h w o e d x. rw (mark (PutSwap h w) e) (wins_a_head h w o e d (L.put ∙ d) x);
        put_loses = λ h w o e x. looks Head Idle o x tt;
        put_writes = λ h w t o us e x. rw (mark (PutWrite h w) e) (put_write h w t o us e x);
        put_ends = λ h o e x. let y = mark (PutPublish h) e in rw y.1 (publishes y.0 h o e x);
        take_begins = λ o e x. rw (mark Idle e) (looks Tail (TakeStatus m.tail.value) o x tt);
        take_sees = λ t o e d x. rw (mark (TakeStatus t) e) (looks (status_name m t) (TakeSwap t) o x
            (λ a f l. brings_up c pl pic t _ _ R.some (met_cell m i (status_name m t) W B) (M.full t f l a).0));
        take_stops = λ t o e x. looks (status_name m t) Idle o x tt;
        take_wins = λ t o e d x. rw (mark (TakeSwap t) e) (wins_a_tail t o e d x);
        take_loses = λ t o e x. looks Tail Idle o x tt;
        take_reads = λ t s w o e x.
            let k = knew_at (TakeRead t) e in
            rw (mark (TakeRead t) e) (quiet (TakeFree t w) (row m i) o x.goes (all_calm m o x.cells) x.held
            (k.0, k.1 ∙ ap some (sym (one_stamp t s w e x.low x.shown).1)));
        take_ends = λ t w o e x. frees t w o e x;
      }
    where
      mark : (p : Place) → place m i ≡ p → Marked (nt.calls i) p
      mark p e = subst (Marked (nt.calls i)) e (L.marks i)
