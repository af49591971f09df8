-- The log beside the machine: where each thread's call stands, and the plain list, which has the weights put at the ranks from tail to head.
-- Assumes nothing.
use mathlib.Core.Path.{◌≡◌, refl, sym, ap, subst, ◌∙◌}
use mathlib.Core.List.{List, [], ◌∷◌, ◌++◌, append_assoc}
use mathlib.Core.Logic.{◌≢◌}
use mathlib.Core.Option.{some, bind}
use Prim.Native.Nat.{ℕ, zero, suc, ◌+◌, ◌<◌}
use native.Mathlib.Omega.{arith}
use borrow.Author.Tests.{lt-ltb}
use lib.ListN.{length, get_elem?, length-append}
use Rattle.rules.proofs.Updated.{Updated, at_both}
use Rattle.rules.specs.Log.{Call, Op, Seen, no_call, putting, taking, goes_in, comes_out, ins, outs}
use Rattle.rules.specs.Queue.{Line, plain}
use Rattle.rank.specs.Rank.{next_rank}
use Rattle.state.specs.State.{place}
use Rattle.state.specs.declared.Machine.{Machine}
use Rattle.state.specs.declared.Place.{Place}
use Rattle.state.specs.declared.Place.TheVariants.{Idle, PutStatus, PutSwap, PutWrite, PutPublish, TakeStatus, TakeSwap, TakeRead, TakeFree}

-- a thread's call, by its place
abbrev pub Marked : Call → Place → Type 0
Marked c Idle = c ≡ no_call
Marked c (PutStatus h w) = c ≡ putting w 1 0
Marked c (PutSwap h w) = c ≡ putting w 2 0
Marked c (PutWrite h w) = c ≡ putting w 3 h
Marked c (PutPublish h) = (w : ℕ) × (c ≡ putting w 4 h)
Marked c (TakeStatus t) = c ≡ taking 1 0
Marked c (TakeSwap t) = c ≡ taking 2 0
Marked c (TakeRead t) = c ≡ taking 3 t
Marked c (TakeFree t w) = c ≡ taking 4 t

-- with C slots, head, tail and the places by thread: the calls and the won swaps
pub record Listed (c h t : ℕ) (at : ℕ → Place) (calls : ℕ → Call) (os : List Op) : Type 0 where
  pub line : Line
  pub is : plain c os ≡ some line
  pub all : line.handed ++ line.inside ≡ ins os
  pub handed : length line.handed ≡ t
  pub put : length (ins os) ≡ h
  pub out : outs os ≡ t
  pub marks : (i : ℕ) → Marked (calls i) (at i)

-- what is inside has the ranks from tail to head
pub reaches : {c h t : ℕ} {at : ℕ → Place} {calls : ℕ → Call} {os : List Op} (L : Listed c h t at calls os) → h ≡ t + length L.line.inside
reaches L = omega (arith, L.handed, L.put, length-append L.line.handed L.line.inside, ap length L.all)

abbrev pub ListedAt : ℕ → Machine → Seen → Type 0
ListedAt c m n = Listed c m.head.value m.tail.value (place m) n.calls n.ops

-- one more at the end
pub one_more : (xs : List ℕ) (k w : ℕ) → length xs ≡ k → Updated (get_elem? xs) k (some w) (get_elem? (xs ++ (w ∷ [])))
one_more xs k w e = subst (λ (y : ℕ). Updated (get_elem? xs) y (some w) (get_elem? (xs ++ (w ∷ [])))) e (record { here = here xs; else = else xs })
  where
    here : (ys : List ℕ) → get_elem? (ys ++ (w ∷ [])) (length ys) ≡ some w
    here [] = refl
    here (y ∷ ys) = here ys

    else : (ys : List ℕ) (j : ℕ) → j ≢ length ys → get_elem? (ys ++ (w ∷ [])) j ≡ get_elem? ys j
    else [] zero n = absurd (n refl)
    else [] (suc j) n = refl
    else (y ∷ ys) zero n = refl
    else (y ∷ ys) (suc j) n = else ys j (λ e. n (ap suc e))

-- what stands in front stays there
pub in_front : (xs ys : List ℕ) (k : ℕ) → k < length xs → get_elem? (xs ++ ys) k ≡ get_elem? xs k
in_front [] ys k l = absurd (omega arith)
in_front (x ∷ xs) ys zero l = refl
in_front (x ∷ xs) ys (suc k) l = in_front xs ys k (omega arith)

-- and what stands behind comes after it
pub behind : (xs ys : List ℕ) (t j : ℕ) → length xs ≡ t → get_elem? (xs ++ ys) (t + j) ≡ get_elem? ys j
behind [] ys t j e = ap (get_elem? ys) (omega arith)
behind (x ∷ xs) ys t j e =
    let d : t + j ≡ suc (length xs + j) = omega arith in
    rw d (behind xs ys (length xs) j refl)

pub in_list : (xs : List ℕ) (k w : ℕ) → get_elem? xs k ≡ some w → k < length xs
in_list [] k w e = absurd (let z : ◌≡◌ {A = ℕ} 0 1 = cc in omega arith)
in_list (x ∷ xs) zero w e = omega arith
in_list (x ∷ xs) (suc k) w e = omega (arith, in_list xs k w e)

module _ (c h t : ℕ) (at : ℕ → Place) (calls : ℕ → Call) (os : List Op) (L : Listed c h t at calls os) (i : ℕ) (q : Place) (at' : ℕ → Place)
    (u : Updated at i q at') (k : Call) (calls' : ℕ → Call) (v : Updated calls i k calls') (f : Marked k q) where
  marked : (j : ℕ) → Marked (calls' j) (at' j)
  marked j = at_both v u Marked j (λ _. f) (λ _. L.marks j)

  -- nothing counts
  pub moved : Listed c h t at' calls' os
  moved = record { line = L.line; is = L.is; all = L.all; handed = L.handed; put = L.put; out = L.out; marks = marked }

  -- a put joins the list
  pub joined : (w : ℕ) → h < t + c → Listed c (next_rank h) t at' calls' (goes_in w ∷ os)
  unfolding next_rank plain ins outs bind
  joined w l =
      let a : length L.line.handed + length L.line.inside ≡ length (ins os) =
      sym (length-append L.line.handed L.line.inside) ∙ ap length L.all in
      record {
        line = record { inside = L.line.inside ++ (w ∷ []); handed = L.line.handed };
        is = rw (L.is, lt-ltb (length L.line.inside) c (omega (arith, L.handed, L.put)));
        all = sym (append_assoc L.line.handed L.line.inside (w ∷ [])) ∙ ap (λ (x : List ℕ). x ++ (w ∷ [])) L.all;
        handed = L.handed;
        put = rw (length-append (ins os) (w ∷ [])) (omega (arith, L.put));
        out = L.out;
        marks = marked;
      }

  -- a take takes from its front
  pub taken : t < h → Listed c h (next_rank t) at' calls' (comes_out ∷ os)
  unfolding next_rank plain ins outs bind
  taken l = go L.line.inside refl
    where
      go : (ws : List ℕ) → L.line.inside ≡ ws → Listed c h (next_rank t) at' calls' (comes_out ∷ os)
      go [] e = absurd (omega (arith, L.handed, L.put, length-append L.line.handed L.line.inside, ap length L.all, ap length e))
      go (w ∷ ws) e =
          record {
            line = record { inside = ws; handed = L.line.handed ++ (w ∷ []) };
            is = rw (L.is, e);
            all = append_assoc L.line.handed (w ∷ []) ws ∙ ap (λ (x : List ℕ). L.line.handed ++ x) (sym e) ∙ L.all;
            handed = rw (length-append L.line.handed (w ∷ [])) (omega (arith, L.handed));
            put = L.put;
            out = omega (arith, L.out);
            marks = marked;
          }
