-- What the log says is right at each step, and every step keeps it beside the machine. Assumes nothing.
use mathlib.Core.Path.{◌≡◌, refl, sym, ap, subst, ◌∙◌}
use mathlib.Core.List.{List, ◌∷◌}
use mathlib.Core.Option.{bind}
use Prim.Native.Nat.{ℕ, ◌<◌}
use native.Mathlib.Omega.{arith}
use lib.ListN.{length, get_elem?}
use Rattle.rules.specs.Calls.{status_name}
use Rattle.rules.proofs.Calm.{Calm, all_calm, flag_calm, head_stored, tail_stored, status_stored}
use Rattle.rules.proofs.Events.{Storing}
use Rattle.rules.proofs.Joins.{met_own}
use Rattle.rules.proofs.Listed.{Marked, Listed, ListedAt, in_front, moved, joined, taken}
use Rattle.rules.proofs.Learnt.{noted_up}
use Rattle.rules.proofs.Moves.{Moves}
use Rattle.rules.proofs.Remembered.{Remembered, knew_at}
use Rattle.rules.proofs.Ring.{saw_free, saw_full, empties}
use Rattle.rules.proofs.Ringed.{stage, stages, status, Ringed}
use Rattle.rules.proofs.Swapped.{room, full_now}
use Rattle.rules.proofs.Updated.{Updated, changed}
use Rattle.rules.specs.Log.{Call, Op, Seen, no_call, putting, taking, goes_in, comes_out, ins, outs, with, under, heard}
use Rattle.rules.specs.Queue.{CoversNoted, Gets, Says, access_ok, access_value, access_yes, access_no, put_goes_on, put_yes, put_no, take_goes_on, take_got, take_none, due}
use Rattle.rank.specs.Rank.{slot_of, next_rank, free_status, lapped}
use Rattle.standing.proofs.Bounds.{Bounds}
use Rattle.state.specs.State.{cells_of, row, place, first_of, Whole}
use Rattle.state.specs.declared.Machine.{Machine}
use Rattle.state.specs.declared.Name.TheVariants.{Head, Tail}
use Rattle.state.specs.declared.Place.{Place}
use Rattle.state.specs.declared.Place.TheVariants.{Idle, PutStatus, PutSwap, PutWrite, PutPublish, TakeStatus, TakeSwap, TakeRead, TakeFree}
use Rattle.step.specs.Answer.{number_of}
use Rattle.step.specs.declared.Answer.{Answer}
use Rattle.step.specs.declared.Verb.{Verb}
use Rattle.verbs.specs.Verbs.{asks}
use Rattle.view.specs.declared.View.{View}
use Rattle.writes.specs.declared.Write.{Write}

-- with c slots and k cells, of a thread in call q that has view x after its step
abbrev pub Owed : ℕ → ℕ → Seen → View → Call → Verb → Answer → Type 0
Owed c k n x q v a = Says c k n x (under q v) a × (number_of a ≡ 0 → asks v ≡ due q)

-- the list over what a machine is known to have
list_as : (c : ℕ) (o : Machine) (calls : ℕ → Call) (os : List Op) (h t : ℕ) → o.head.value ≡ h → o.tail.value ≡ t
    → Listed c h t (place o) calls os → Listed c o.head.value o.tail.value (place o) calls os
list_as c o calls os h t e f l =
    subst (λ (x : ℕ). Listed c x o.tail.value (place o) calls os) (sym e) (subst (λ (x : ℕ). Listed c h x (place o) calls os) (sym f) l)

module _ (m : Machine) (ws : List Write) (n : Seen) (i : ℕ) (W : Whole m) (B : Bounds m.shape) (R : Ringed m.shape.slots m)
    (M : Remembered m.shape.slots m.shape.plain (first_of m) m ws n) (L : ListedAt m.shape.slots m n) where
  abbrev c : ℕ
  c = m.shape.slots

  -- what is owed and kept at a step of a thread in call q
  abbrev Leaves : Call → Verb → Answer → Machine → Type 0
  Leaves q v a o = Owed c (cells_of m) n (row o i) q v a × ListedAt c o (heard i (row o i) (under q v) a n)

  by_call : (q : Call) (v : Verb) (a : Answer) (o : Machine) → n.calls i ≡ q → Leaves q v a o → Leaves (n.calls i) v a o
  by_call q v a o e = subst (λ (y : Call). Leaves y v a o) (sym e)

  mark : (p : Place) → place m i ≡ p → Marked (n.calls i) p
  mark p e = subst (Marked (n.calls i)) e (L.marks i)

  -- nothing counts: on to place q and call k
  quiet : (q : Place) (k : Call) (o : Machine) → Calm m o → Updated (place m) i q (place o) → Marked k q
      → Listed c o.head.value o.tail.value (place o) (with n.calls i k) n.ops
  quiet q k o s u f = list_as c o _ _ _ _ s.head s.tail (moved c _ _ (place m) n.calls n.ops L i q (place o) u k _ (changed n.calls i k) f)

  -- a status is written
  closes : (k x : ℕ) (o : Machine) → Storing m i (status_name m k) x Idle o
      → Listed c o.head.value o.tail.value (place o) (with n.calls i no_call) n.ops
  closes k x o s =
      let r = status_stored m i x Idle o (slot_of c k) s in
      list_as c o _ _ _ _ r.0 r.1 (moved c _ _ (place m) n.calls n.ops L i Idle (place o) s.goes.places no_call _ (changed n.calls i no_call) refl)

  head_won : (h w : ℕ) (o : Machine) → place m i ≡ PutSwap h w → m.head.value ≡ h → Storing m i Head (next_rank h) (PutWrite h w) o
      → Listed c o.head.value o.tail.value (place o) (with n.calls i (putting w 3 (length (ins n.ops)))) (goes_in w ∷ n.ops)
  head_won h w o e d x =
      let r = head_stored m i (next_rank h) (PutWrite h w) o x in
      let free = room c m.head.value m.tail.value (status m) (stages m) R i (ap stage e ∙ ap saw_free (sym d)) in
      list_as c o _ _ _ _ r.0 r.1
      (joined c h _ (place m) n.calls n.ops (subst (λ (y : ℕ). Listed c y m.tail.value (place m) n.calls n.ops) d L) i (PutWrite h w) (place o)
      x.goes.places _ _ (changed n.calls i _) (ap (putting w 3) (L.put ∙ d)) w (omega arith))

  tail_won : (t : ℕ) (o : Machine) → place m i ≡ TakeSwap t → m.tail.value ≡ t → Storing m i Tail (next_rank t) (TakeRead t) o
      → Listed c o.head.value o.tail.value (place o) (with n.calls i (taking 3 (outs n.ops))) (comes_out ∷ n.ops)
  tail_won t o e d x =
      let r = tail_stored m i (next_rank t) (TakeRead t) o x in
      let some = (full_now c m.head.value m.tail.value (status m) (stages m) R i (ap stage e ∙ ap saw_full (sym d))).0 in
      list_as c o _ _ _ _ r.0 r.1
      (taken c _ t (place m) n.calls n.ops (subst (λ (y : ℕ). Listed c m.head.value y (place m) n.calls n.ops) d L) i (TakeRead t) (place o)
      x.goes.places _ _ (changed n.calls i _) (ap (taking 3) (L.out ∙ d)) (omega arith))

  -- a take that ends has taken the weight that it answers, and its view covers the putter's
  got : (t w : ℕ) (o : Machine) → place m i ≡ TakeFree t w → Storing m i (status_name m t) (free_status (lapped c t)) Idle o
      → Gets c (cells_of m) n (row o i) 4 t w
  unfolding cells_of bind
  got t w o e x =
      let k = knew_at m ws n i W B R M (TakeFree t w) e in
      record {
        won = omega arith;
        handed = rw L.is (sym (in_front L.line.handed L.line.inside t past) ∙ ap (λ (l : List ℕ). get_elem? l t) L.all ∙ k.1);
        as_put = k.1;
        covers = subst (CoversNoted _ (n.published t)) (sym x.goes.rows.here)
            (noted_up _ (n.published t) (row m i) _ (met_own m i (status_name m t) W B) k.0.1);
      }
    where
      past : t < length L.line.handed
      past = omega (arith, L.handed, (R.taking i t (subst (λ (s : Place). empties (stage s) t) (sym e) refl)).past)

  pub list_moves : Moves m ws i (λ v a o us. Leaves (n.calls i) v a o)
  list_moves =
      record {
        gets = λ b t v o e _ x. idle _ _ o e (access_value, λ _. refl) (quiet Idle no_call o (all_calm m o x.cells) x.goes.places refl);
        sets = λ b t v o us e _ x. idle _ _ o e (access_ok, λ _. refl) (quiet Idle no_call o (all_calm m o x.cells) x.goes.places refl);
        loads = λ b f o e x. idle _ _ o e (access_value, λ _. refl) (quiet Idle no_call o (all_calm m o x.cells) x.goes.places refl);
        stores = λ b f v o e x. idle _ _ o e (access_ok, λ _. refl) (quiet Idle no_call o (flag_calm m i v Idle o f x) x.goes.places refl);
        swap_wins = λ b f u v o e x. idle _ _ o e (access_yes, λ _. refl) (quiet Idle no_call o (flag_calm m i v Idle o f x) x.goes.places refl);
        swap_loses = λ b f u v o e x. idle _ _ o e (access_no, λ _. refl) (quiet Idle no_call o (all_calm m o x.cells) x.goes.places refl);
        put_begins = λ w o e x. idle _ _ o e (put_goes_on (omega arith), λ _. refl) (quiet (PutStatus _ _) (putting w 1 0) o (all_calm m o x.cells) x.goes.places refl);
        put_sees = λ h w o e d x. by_call (putting w 1 0) _ _ o (mark (PutStatus h w) e)
            ((put_goes_on (omega arith), λ _. refl), quiet (PutSwap h w) (putting w 2 0) o (all_calm m o x.cells) x.goes.places refl);
        put_stops = λ h w o e x. by_call (putting w 1 0) _ _ o (mark (PutStatus h w) e)
            ((put_no (omega arith), λ _. refl), quiet Idle no_call o (all_calm m o x.cells) x.goes.places refl);
        put_wins = λ h w o e d x. by_call (putting w 2 0) _ _ o (mark (PutSwap h w) e) ((put_goes_on (omega arith), λ _. refl), head_won h w o e d x);
        put_loses = λ h w o e x. by_call (putting w 2 0) _ _ o (mark (PutSwap h w) e)
            ((put_no (omega arith), λ _. refl), quiet Idle no_call o (all_calm m o x.cells) x.goes.places refl);
        put_writes = λ h w t o us e x. by_call (putting w 3 h) _ _ o (mark (PutWrite h w) e)
            ((put_goes_on (omega arith), λ _. refl), quiet (PutPublish h) (putting w 4 h) o (all_calm m o x.cells) x.goes.places (w, refl));
        put_ends = λ h o e x. let y = mark (PutPublish h) e in by_call (putting y.0 4 h) _ _ o y.1 ((put_yes (omega arith), λ _. refl), closes h _ o x);
        take_begins = λ o e x. idle _ _ o e (take_goes_on (omega arith), λ _. refl) (quiet (TakeStatus _) (taking 1 0) o (all_calm m o x.cells) x.goes.places refl);
        take_sees = λ t o e d x. by_call (taking 1 0) _ _ o (mark (TakeStatus t) e)
            ((take_goes_on (omega arith), λ _. refl), quiet (TakeSwap t) (taking 2 0) o (all_calm m o x.cells) x.goes.places refl);
        take_stops = λ t o e x. by_call (taking 1 0) _ _ o (mark (TakeStatus t) e)
            ((take_none (omega arith), λ _. refl), quiet Idle no_call o (all_calm m o x.cells) x.goes.places refl);
        take_wins = λ t o e d x. by_call (taking 2 0) _ _ o (mark (TakeSwap t) e) ((take_goes_on (omega arith), λ _. refl), tail_won t o e d x);
        take_loses = λ t o e x. by_call (taking 2 0) _ _ o (mark (TakeSwap t) e)
            ((take_none (omega arith), λ _. refl), quiet Idle no_call o (all_calm m o x.cells) x.goes.places refl);
        take_reads = λ t s w o e x. by_call (taking 3 t) _ _ o (mark (TakeRead t) e)
            ((take_goes_on (omega arith), λ _. refl), quiet (TakeFree t w) (taking 4 t) o (all_calm m o x.cells) x.goes.places refl);
        take_ends = λ t w o e x. by_call (taking 4 t) _ _ o (mark (TakeFree t w) e) ((take_got (got t w o e x), λ _. refl), closes t _ o x);
      }
    where
      idle : (v : Verb) (a : Answer) (o : Machine) → place m i ≡ Idle → Owed c (cells_of m) n (row o i) no_call v a
          → ListedAt c o (heard i (row o i) (under no_call v) a n) → Leaves (n.calls i) v a o
      idle v a o e x y = by_call no_call v a o (mark Idle e) (x, y)
