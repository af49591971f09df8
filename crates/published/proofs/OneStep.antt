-- Outcomes that perform the same step from machines that agree outside their room: the same answer, place and list, and stores and views that
-- agree. Assumes nothing.
use mathlib.Core.Path.{◌≡◌, sym, ap, subst, ◌∙◌}
use mathlib.Core.List.{List}
use Prim.Native.Nat.{ℕ, ◌-◌}
use native.Mathlib.Decide.{ℕ_discrete}
use lib.Seq.{ext_get_or}
use Rattle.published.proofs.OneRule.{Agree, agree}
use Rattle.published.proofs.OneEvent.{Shared, same_event}
use Rattle.published.proofs.Rest.{one_left}
use Rattle.published.specs.Calls.{Code, Makes, code_of, stamp_in}
use Rattle.published.specs.Follows.{store_of, stamps_of, Left, running, Listed, after, Performed}
use Rattle.published.specs.Memory.{Event, Rule, rd, wr, rd_a, wr_a, rdwr_a}
use Rattle.rules.specs.Step.{Outcome}
use Rattle.state.specs.State.{place}
use Rattle.state.specs.declared.Machine.{Machine}
use Rattle.state.specs.declared.Shape.{Shape}
use Rattle.step.specs.declared.Step.{Step}
use Rattle.writes.specs.Records.{no_write}
use Rattle.writes.specs.declared.Write.{Write}

-- a list of records has one event's write
one_list : (e : Event) (h : ℕ) (ws : List Write) (h' : ℕ) (us : List Write) (h'' : ℕ) (vs : List Write) → Listed e h ws h' us → Listed e h ws h'' vs
    → (h' ≡ h'') × (us ≡ vs)
one_list (rd a t v) h ws h' us h'' vs p q = (p.0 ∙ sym q.0, p.1 ∙ sym q.1)
one_list (wr a t v) h ws h' us h'' vs p q =
    (p.0 ∙ sym q.0, ext_get_or no_write us vs (p.1 ∙ sym q.1) (λ n _. elim (ℕ_discrete n h) [ yes e ↦ rw e (p.2 ∙ sym q.2) | no d ↦ p.3 n d ∙ sym (q.3 n d) ]))
one_list (rd_a A v) h ws h' us h'' vs p q = (p.0 ∙ sym q.0, p.1 ∙ sym q.1)
one_list (wr_a A v) h ws h' us h'' vs p q = (p.0 ∙ sym q.0, p.1 ∙ sym q.1)
one_list (rdwr_a A v v') h ws h' us h'' vs p q = (p.0 ∙ sym q.0, p.1 ∙ sym q.1)

-- what two outcomes of a step of thread i share
pub record Same (D : Shape) (i : ℕ) (o p : Outcome) : Type 0 where
  pub stands_at : place (after p) i ≡ place (after o) i
  pub answer : p.done.answer ≡ o.done.answer
  pub held : (after p).held ≡ (after o).held
  pub writes : p.writes ≡ o.writes
  pub store : Agree D (store_of (after o) o.writes) (store_of (after p) p.writes) (stamps_of (after o) i) (stamps_of (after p) i)

-- outcomes of the same step of two machines of one shape, whose stores agree, the thread at the same place, as many writes held
module _ (m n : Machine) (ws : List Write) (s : Step) (o p : Outcome) (P : Performed m ws s o) (Q : Performed n ws s p) (shape : n.shape ≡ m.shape)
    (here : place n (s.thread - 1) ≡ place m (s.thread - 1)) (held : n.held ≡ m.held) (S : Shared m.shape (store_of m ws) (store_of n ws))
    (G : Agree m.shape (store_of m ws) (store_of n ws) (stamps_of m (s.thread - 1)) (stamps_of n (s.thread - 1))) where
  pub same : Same m.shape (s.thread - 1) o p
  same = record { stands_at = sym left.0; answer = sym left.1; held = sym list.0; writes = sym list.1; store = store }
    where
      code : running n s ≡ running m s
      code = ap (code_of n.shape s.verb) here ∙ ap (λ (D : Shape). code_of D s.verb (place m (s.thread - 1))) shape

      rule : Rule m.shape (store_of n ws) (stamps_of n (s.thread - 1)) Q.event (store_of (after p) p.writes) (stamps_of (after p) (s.thread - 1))
      rule = subst (λ (D : Shape). Rule D (store_of n ws) (stamps_of n (s.thread - 1)) Q.event (store_of (after p) p.writes) (stamps_of (after p) (s.thread - 1))) shape Q.rule

      events : (P.event ≡ Q.event) × (P.left ≡ Q.left)
      events = same_event S P.makes P.rule (subst (λ (c : Code). Makes c (stamp_in s.verb) Q.event Q.left) code Q.makes) rule

      store : Agree m.shape (store_of (after o) o.writes) (store_of (after p) p.writes) (stamps_of (after o) (s.thread - 1)) (stamps_of (after p) (s.thread - 1))
      store = agree _ _ _ _ _ G Q.event _ _ _ _ (rw events.0 at P.rule) rule

      left : (place (after o) (s.thread - 1) ≡ place (after p) (s.thread - 1)) × (o.done.answer ≡ p.done.answer)
      left =
          one_left m.shape Q.left _ _ _ _ (rw events.1 at P.rest)
          (subst (λ (D : Shape). Left D (place (after p) (s.thread - 1)) p.done.answer Q.left) shape Q.rest)

      list : ((after o).held ≡ (after p).held) × (o.writes ≡ p.writes)
      list =
          one_list Q.event m.held ws _ _ _ _ (rw events.0 at P.list)
          (subst (λ (h : ℕ). Listed Q.event h ws (after p).held p.writes) held Q.list)
