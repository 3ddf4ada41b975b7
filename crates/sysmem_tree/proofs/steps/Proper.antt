-- Nodes stay proper.
use Rattle.std.proofs.Common.{◌≡◌, ℕ, List, zero, suc, ◌<◌, ◌==◌, true, false, Option, Some, slice_get, refl, sym, ◌∙◌, ap, subst, arith, rules, tests, inl, inr}
use Rattle.std.specs.Prelude.{Ok}
use Rattle.std.proofs.lemmas.Option.{same_Some}
use Rattle.list_lemmas.proofs.CallerLemmas.{and_parts}
use Rattle.sysmem_tree.specs.declared.action.ActionKind.{ActionKind}
use Rattle.sysmem_tree.specs.declared.action.ActionKind.TheVariants.{Duplicate, CreateGroup, Bind, CreateChild, AllChildrenPresent, SetConstraints, AttachToken, Release, Close}
use Rattle.sysmem_tree.specs.declared.state.NodeKind.{NodeKind}
use Rattle.sysmem_tree.specs.declared.state.NodeKind.TheVariants.{Token, Group, Collection}
use Rattle.sysmem_tree.specs.declared.state.NodeState.{NodeState}
use Rattle.sysmem_tree.specs.ActionKind.{Deed, kind_of, sets, duplicates, creates_group, binds, creates_child, has_all_children, attaches_token, releases, closes}
use Rattle.sysmem_tree.specs.Domain.{TreeFacts}
use Rattle.sysmem_tree.specs.Node.{fresh, NodeFacts}
use Rattle.sysmem_tree.specs.Nodes.{IsProper, AreProper}
use Rattle.sysmem_tree.specs.Table.{suits_node, wants_child, state_after, constraints_after, makes}
use Rattle.sysmem_tree.specs.Tree.{first_node, first_tree, Applied, applied, decided}
use Rattle.sysmem_tree.proofs.steps.Accepted.{accepted}
use Rattle.sysmem_tree.proofs.nodes.Alike.{decided_alike}
use Rattle.sysmem_tree.proofs.steps.Growing.{stands}

set_suits : (k : NodeKind) (s : NodeState) → suits_node SetConstraints k s ≡ true → k ≡ Collection
set_suits Token s h = absurd (cc)
set_suits Group s h = absurd (cc)
set_suits Collection s h = refl

complete_suits : (k : NodeKind) (s : NodeState) → suits_node AllChildrenPresent k s ≡ true → k ≡ Group
complete_suits Token s h = absurd (cc)
complete_suits Group s h = refl
complete_suits Collection s h = absurd (cc)

bind_suits : (k : NodeKind) (s : NodeState) → suits_node Bind k s ≡ true → k ≡ Token
bind_suits Token s h = refl
bind_suits Group s h = absurd (cc)
bind_suits Collection s h = absurd (cc)

some_child : (c : ℕ) → (c == 0) ≡ false → 0 < c
some_child c h = search (rules, tests, arith)

proper_own : (deed : Deed) (n : NodeFacts) → IsProper n → suits_node (kind_of deed) n.state.kind n.state ≡ true → wants_child (kind_of deed) n.state ≡ false
    → IsProper (record n { state = state_after (kind_of deed) n.state; constraints = constraints_after deed n.constraints })
proper_own duplicates n p suit content = record { set = p.set; constrained = p.constrained; complete = λ e. let was = p.complete e in (was.0, omega (arith, was.1)) }
proper_own creates_group n p suit content = record { set = p.set; constrained = p.constrained; complete = λ e. let was = p.complete e in (was.0, omega (arith, was.1)) }
proper_own creates_child n p suit content = record { set = p.set; constrained = p.constrained; complete = λ e. let was = p.complete e in (was.0, omega (arith, was.1)) }
proper_own attaches_token n p suit content = record { set = p.set; constrained = p.constrained; complete = λ e. let was = p.complete e in (was.0, omega (arith, was.1)) }
proper_own binds n p suit content = record {
  set = λ e. refl;
  constrained = p.constrained;
  complete = λ e. absurd (let bad : Token ≡ Group = sym (bind_suits n.state.kind n.state suit) ∙ (p.complete e).0 in cc);
}
proper_own has_all_children n p suit content = record {
  set = p.set;
  constrained = p.constrained;
  complete = λ e. (complete_suits n.state.kind n.state suit, some_child n.state.children content);
}
proper_own (sets asked) n p suit content = record { set = λ e. set_suits n.state.kind n.state suit; constrained = λ e. absurd (cc); complete = p.complete }
proper_own releases n p suit content = record { set = p.set; constrained = p.constrained; complete = p.complete }
proper_own closes n p suit content = record { set = p.set; constrained = p.constrained; complete = p.complete }

-- a new node is fresh
made_fresh : (c : ActionKind) (s : NodeState) → makes c ≡ Some s → (s.is_set ≡ false) × (s.is_complete ≡ false)
made_fresh Duplicate s e = let is = same_Some (fresh Token) s e in (sym (ap (λ (x : NodeState). x.is_set) is), sym (ap (λ (x : NodeState). x.is_complete) is))
made_fresh CreateGroup s e = let is = same_Some (fresh Group) s e in (sym (ap (λ (x : NodeState). x.is_set) is), sym (ap (λ (x : NodeState). x.is_complete) is))
made_fresh CreateChild s e = let is = same_Some (fresh Token) s e in (sym (ap (λ (x : NodeState). x.is_set) is), sym (ap (λ (x : NodeState). x.is_complete) is))
made_fresh AttachToken s e = let is = same_Some (fresh Token) s e in (sym (ap (λ (x : NodeState). x.is_set) is), sym (ap (λ (x : NodeState). x.is_complete) is))
made_fresh Bind s e = absurd (cc)
made_fresh AllChildrenPresent s e = absurd (cc)
made_fresh SetConstraints s e = absurd (cc)
made_fresh Release s e = absurd (cc)
made_fresh Close s e = absurd (cc)

pub stays_proper : (t : TreeFacts) (i : ℕ) (deed : Deed) (after : Applied) → AreProper t.nodes → applied t i deed ≡ Ok after → AreProper after.tree.nodes
stays_proper t i deed after proper is k x read =
    let (n, a) = accepted t i deed after is in
    let (_, suit) = and_parts n.state.is_open _ a.allowed in
    elim (stands t.nodes i n deed a.there k x (ap (λ (u : TreeFacts). slice_get u.nodes k) a.tree ∙ read)) [
      | inl own ↦ subst IsProper own.1 (proper_own deed n (proper i n a.there) suit a.content)
      | inr rest ↦ elim rest [
        | inl other ↦ proper k x other.1
        | inr new ↦
            let (unset, incomplete) = made_fresh (kind_of deed) new.1 new.2 in
            subst IsProper new.3 (record {
              set = λ e. absurd (let bad : true ≡ false = sym e ∙ unset in cc);
              constrained = λ e. refl;
              complete = λ e. absurd (let bad : true ≡ false = sym e ∙ incomplete in cc);
            })
      ]
    ]

-- and so does a decision
pub decided_proper : (t : TreeFacts) (r : ℕ) (choices : Option (List ℕ)) → AreProper t.nodes → AreProper (decided t r choices).nodes
decided_proper t r choices proper k y read =
    let (x, at, same) = (decided_alike t r choices).back k y read in
    let was = proper k x at in
    record {
      set = λ e. ap (λ (s : NodeState). s.kind) (sym same.2) ∙ was.set (ap (λ (s : NodeState). s.is_set) same.2 ∙ e);
      constrained = λ e. sym same.3 ∙ was.constrained (ap (λ (s : NodeState). s.is_set) same.2 ∙ e);
      complete = λ e. (let (kind, some) = was.complete (ap (λ (s : NodeState). s.is_complete) same.2 ∙ e) in
          (ap (λ (s : NodeState). s.kind) (sym same.2) ∙ kind, subst (λ (s : NodeState). 0 < s.children) same.2 some));
    }

-- the first tree's node is proper
pub first_proper : AreProper first_tree.nodes
first_proper zero n read = subst IsProper (same_Some first_node n read) (record { set = λ e. absurd (cc); constrained = λ e. refl; complete = λ e. absurd (cc) })
first_proper (suc k) n read = absurd (cc)
