-- Which node an accepted action answers.
use Rattle.std.proofs.Common.{◌≡◌, ℕ, ◌++◌, List, [], ◌∷◌, length, Option, Some, None, Ok, slice_get, refl, sym, ◌∙◌, ap, subst}
use Rattle.std.proofs.lemmas.Option.{same_Some}
use Rattle.std.specs.Prelude.{is_some, if◌then◌else◌}
use Rattle.sysmem_tree.specs.declared.state.NodeState.{NodeState}
use Rattle.sysmem_tree.specs.ActionKind.{Deed, kind_of}
use Rattle.sysmem_tree.specs.Domain.{TreeFacts}
use Rattle.sysmem_tree.specs.LayoutLaws.{answered_path}
use Rattle.sysmem_tree.specs.Node.{NodeFacts}
use Rattle.sysmem_tree.specs.Nodes.{IsTree}
use Rattle.sysmem_tree.specs.Path.{node_at}
use Rattle.sysmem_tree.specs.Table.{makes}
use Rattle.sysmem_tree.specs.Tree.{Applied, applied, nodes_after, number_after}
use Rattle.sysmem_tree.proofs.steps.Accepted.{accepted}
use Rattle.sysmem_tree.proofs.steps.Growing.{still_tree}
use Rattle.sysmem_tree.proofs.steps.Steps.{still, made_leads}

module _ (nodes : List NodeFacts) (i : ℕ) (n : NodeFacts) (deed : Deed) (here : slice_get nodes i ≡ Some n) (tree : IsTree nodes) (after : IsTree (nodes_after nodes i n deed)) (path : List ℕ)
    (leads : node_at nodes path ≡ Some i) where
  answered : (o : Option NodeState) → makes (kind_of deed) ≡ o → node_at (nodes_after nodes i n deed) (answered_path path n (kind_of deed)) ≡ Some (number_after nodes i (kind_of deed))
  answered None none =
      ap (λ o. node_at (nodes_after nodes i n deed) (if is_some o then path ++ n.state.children ∷ [] else path)) none
      ∙ (still nodes i n deed here tree after path leads path i leads ∙ sym (ap (λ o. Some (if is_some o then length nodes else i)) none))
  answered (Some s) some =
      ap (λ o. node_at (nodes_after nodes i n deed) (if is_some o then path ++ n.state.children ∷ [] else path)) some
      ∙ (made_leads nodes i n deed here tree after path leads s some ∙ sym (ap (λ o. Some (if is_some o then length nodes else i)) some))

pub action_answers : (t : TreeFacts) (i : ℕ) (n : NodeFacts) (path : List ℕ) (deed : Deed) (after : Applied) → IsTree t.nodes → node_at t.nodes path ≡ Some i
    → slice_get t.nodes i ≡ Some n → applied t i deed ≡ Ok after → node_at after.tree.nodes (answered_path path n (kind_of deed)) ≡ Some after.node
action_answers t i n path deed after tree leads here is =
    let (m, a) = accepted t i deed after is in
    let same : m ≡ n = same_Some m n (sym a.there ∙ here) in
    subst (λ (x : NodeFacts). node_at after.tree.nodes (answered_path path x (kind_of deed)) ≡ Some after.node) same
    (subst (λ (x : TreeFacts). node_at x.nodes (answered_path path m (kind_of deed)) ≡ Some after.node) a.tree
    (answered t.nodes i m deed a.there tree (still_tree t.nodes i m deed a.there tree a.allowed a.room) path leads (makes (kind_of deed)) refl ∙ ap (λ x. Some x) a.node))
