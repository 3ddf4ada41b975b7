-- The members that choices settle in a domain, as its layout tells them.
use Rattle.std.proofs.Common.{◌≡◌, ◌<◌, ℕ, ◌==◌, Bool, true, false, List, [], ◌∷◌, Option, Some, None, length, slice_get, refl, sym, ◌∙◌, ap, subst}
use Rattle.std.specs.Prelude.{◌||◌, ◌&&◌, map, is_some, option_map, option_and_then, unwrap_or, IsSome, IfSome}
use Rattle.std.specs.List.{list_any}
use Rattle.std.proofs.lemmas.Bool.{eqb-true}
use Rattle.std.proofs.lemmas.Map.Views.{any-filter_same}
use Rattle.negotiation_inputs.specs.Participant.{Participant}
use Rattle.sysmem_tree.specs.declared.domain.Domain.{Domain}
use Rattle.sysmem_tree.specs.declared.layout.Layout.{Layout}
use Rattle.sysmem_tree.specs.Domain.{TreeFacts}
use Rattle.sysmem_tree.specs.Forest.{Forest, settled, relabel}
use Rattle.sysmem_tree.specs.Layout.{Spot, IsLayout}
use Rattle.sysmem_tree.specs.Node.{NodeFacts}
use Rattle.sysmem_tree.specs.Selection.{IsPrefix, after}
use Rattle.sysmem_tree.specs.Shape.{by_number, forest_of, members_of, participants_of}
use Rattle.sysmem_tree.proofs.layouts.NextGroups.{node_of, after_spots, prefix_of_places}
use Rattle.sysmem_tree.proofs.forests.Numbers.{front}
use Rattle.sysmem_tree.proofs.selections.Selections.{settled_relabel}
use Rattle.sysmem_tree.proofs.layouts.Settling.{is_at}
use Rattle.list_lemmas.proofs.CallerLemmas.{of_some}

any_map : (node : ℕ) (ss : List Spot) → list_any (λ i. i == node) (map node_of ss) ≡ list_any (is_at node) ss
any_map node [] = refl
any_map node (s ∷ ss) = ap (λ b. (s.node == node) || b) (any_map node ss)

-- what the layout tells of a node, told of the domain's members
pub told_member : (layout : Layout) (nodes : List NodeFacts) (r node : ℕ) (as' cs : List ℕ) (found : Bool) (laid : IsLayout layout (forest_of by_number nodes r [])) → as' ≡ cs
    → IsPrefix (forest_of by_number nodes r []) cs → IfSome (after laid.spots as') (λ e. found ≡ list_any (is_at node) (settled e)) → found ≡ list_any (λ i. i == node) (members_of nodes r cs)
told_member layout nodes r node as' cs found laid same h told = by (after laid.spots cs) (prefix_of_places layout (forest_of by_number nodes r []) laid cs cs refl h) (subst (λ x. IfSome (after laid.spots x) Told) same told) ∙ sym members where
  Told : Forest Spot → Type 0
  Told e = found ≡ list_any (is_at node) (settled e)

  shown : Option (Forest Spot) → List ℕ
  shown o = unwrap_or (option_map settled (option_map (relabel node_of) o)) []

  members : list_any (λ i. i == node) (members_of nodes r cs) ≡ list_any (λ i. i == node) (shown (after laid.spots cs))
  members = ap (λ o. list_any (λ i. i == node) (unwrap_or (option_map settled o) [])) (after_spots layout (forest_of by_number nodes r []) laid cs)

  by : (o : Option (Forest Spot)) → IsSome o → IfSome o Told → found ≡ list_any (λ i. i == node) (shown o)
  by None h t = absurd (cc)
  by (Some e) h t = t ∙ sym (ap (list_any (λ i. i == node)) (settled_relabel node_of e) ∙ any_map node (settled e))

-- a node is a participant where it is a member with constraints
pub told_participant : (nodes : List NodeFacts) (r node : ℕ) (cs : List ℕ)
    → list_any (λ i. i == node) (participants_of nodes r cs) ≡ (is_some (option_and_then (λ n. n.constraints) (slice_get nodes node)) && list_any (λ i. i == node) (members_of nodes r cs))
told_participant nodes r node cs = any-filter_same (λ i. i == node) (λ i. is_some (option_and_then (λ n. n.constraints) (slice_get nodes i))) _
    (λ i is. ap (λ j. is_some (option_and_then (λ n. n.constraints) (slice_get nodes j))) (eqb-true i node is)) (members_of nodes r cs)

same_asked : {X : Type 0} (view : X → Participant) (asked : Option X) → is_some (option_map view asked) ≡ is_some asked
same_asked view None = refl
same_asked view (Some x) = refl

-- a node by whether it has constraints
module _ {X : Type 0} (view : X → Participant) (asked : Option X) (nodes : List NodeFacts) (r node : ℕ) (cs : List ℕ) (there : node < length nodes)
    (is_asked : IfSome (slice_get nodes node) (λ n. option_map view asked ≡ n.constraints)) where
  participant_by : list_any (λ i. i == node) (participants_of nodes r cs) ≡ (is_some asked && list_any (λ i. i == node) (members_of nodes r cs))
  participant_by =
      let (n, at, _) = front nodes node there in
      told_participant nodes r node cs ∙ ap (λ b. b && list_any (λ i. i == node) (members_of nodes r cs))
      (ap (λ o. is_some (option_and_then (λ n. n.constraints) o)) at
      ∙ (ap is_some (sym (of_some (λ (n : NodeFacts). option_map view asked ≡ n.constraints) (slice_get nodes node) n at is_asked)) ∙ same_asked view asked))

  -- with constraints it is a participant where it is a member
  pub with_constraints : (found : Bool) → true ≡ is_some asked → found ≡ list_any (λ i. i == node) (members_of nodes r cs) → found ≡ list_any (λ i. i == node) (participants_of nodes r cs)
  with_constraints found some is = is ∙ sym (participant_by ∙ ap (λ b. b && list_any (λ i. i == node) (members_of nodes r cs)) (sym some))

  -- without, it is none
  pub without : (b : Bool) → b ≡ false → false ≡ is_some asked → b ≡ list_any (λ i. i == node) (participants_of nodes r cs)
  without b is none = is ∙ sym (participant_by ∙ ap (λ b. b && list_any (λ i. i == node) (members_of nodes r cs)) (sym none))

-- what is found among the members of a tree that was read is found among those of the tree
pub read_members : (t : TreeFacts) (ns ms : List NodeFacts) (ds : List Domain) (r s i node : ℕ) (cs : List ℕ) (found : Bool) → found ≡ list_any (λ m. m == i) (members_of ns r cs)
    → ns ≡ ms → ◌≡◌ {A = TreeFacts} (record { nodes = ms; domains = ds }) t → r ≡ s → i ≡ node → found ≡ list_any (λ m. m == node) (members_of t.nodes s cs)
read_members t ns ms ds r s i node cs found is read whole domain number =
    is ∙ (ap (λ z. list_any (λ m. m == i) (members_of z r cs)) read ∙ (ap (λ (z : TreeFacts). list_any (λ m. m == i) (members_of z.nodes r cs)) whole
    ∙ (ap (λ z. list_any (λ m. m == i) (members_of t.nodes z cs)) domain ∙ ap (λ z. list_any (λ m. m == z) (members_of t.nodes s cs)) number)))
