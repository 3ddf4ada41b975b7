-- Actions and decisions leave the numbers of nodes, and with them paths, parents and domains.
use Rattle.std.proofs.Common.{◌≡◌, ◌≤◌, ℕ, zero, suc, List, length, Option, Some, slice_get, refl, sym, ◌∙◌, ap, subst, arith, inl, inr}
use Rattle.std.specs.Prelude.{option_and_then, option_map}
use Rattle.std.proofs.lemmas.Bool.{cases_eq}
use Rattle.std.proofs.lemmas.Option.{same_Some, slice_get_within}
use Rattle.list_lemmas.proofs.CallerLemmas.{slice_get_some}
use Rattle.sysmem_tree.specs.ActionKind.{Deed}
use Rattle.sysmem_tree.specs.Domain.{TreeFacts}
use Rattle.sysmem_tree.specs.History.{HistoryEntry, Acted, Decided, Accepts, after_entry}
use Rattle.sysmem_tree.specs.Laws.{AreStill}
use Rattle.sysmem_tree.specs.Node.{NodeFacts}
use Rattle.sysmem_tree.specs.Nodes.{IsTree}
use Rattle.sysmem_tree.specs.Path.{path_of}
use Rattle.sysmem_tree.specs.Tree.{applied, decided, node_after, nodes_after}
use Rattle.sysmem_tree.proofs.steps.Accepted.{accepted}
use Rattle.sysmem_tree.proofs.nodes.Alike.{decided_alike, decided_tree}
use Rattle.sysmem_tree.proofs.steps.Growing.{own_place, other_place, stays_tree}
use Rattle.sysmem_tree.proofs.histories.Histories.{acted_tree, ok_from}
use Rattle.sysmem_tree.proofs.nodes.Places.{there, put}
use Rattle.sysmem_tree.proofs.steps.Steps.{path_stays, path_leads, path_is}

-- each node that was there has the birth and the domain that it had
abbrev Kept : List NodeFacts → List NodeFacts → Type 0
Kept old new = (k : ℕ) (a : NodeFacts) → slice_get old k ≡ Some a → (b : NodeFacts) × (slice_get new k ≡ Some b) × (b.birth ≡ a.birth) × (b.domain ≡ a.domain)

module _ (old new : List NodeFacts) (kept : Kept old new) where
  long : (many : ℕ) → length old ≡ many → many ≤ length new
  long zero is = omega arith
  long (suc m) is =
      let (a, at) = slice_get_some old m (omega (arith, is)) in
      let (b, now, _, _) = kept m a at in omega (arith, slice_get_within new m b now)

  still : IsTree old → IsTree new → AreStill old new
  still tree after = record {
    grows = long (length old) refl;
    path = λ i own. path_is new after (path_of old i) i
        (path_stays old new after (λ k a read. (let (b, now, birth, _) = kept k a read in (b, now, birth))) (path_of old i) 0 i (path_leads old tree i own));
    birth = λ i own. (let (a, at) = slice_get_some old i own in let (b, now, birth, _) = kept i a at in
        ap (option_and_then (λ (n : NodeFacts). n.birth)) now ∙ (birth ∙ sym (ap (option_and_then (λ (n : NodeFacts). n.birth)) at)));
    domain = λ i own. (let (a, at) = slice_get_some old i own in let (b, now, _, domain) = kept i a at in
        ap (option_map (λ (n : NodeFacts). n.domain)) now ∙ (ap Some domain ∙ sym (ap (option_map (λ (n : NodeFacts). n.domain)) at)));
    root = λ r has. (let (a, at, own) = there (λ (n : NodeFacts). n.domain ≡ r) (slice_get old r) has in let (b, now, _, domain) = kept r a at in
        put (λ (n : NodeFacts). n.domain ≡ r) (slice_get new r) b now (domain ∙ own));
  }

-- an action changes none of this, of its own node either
acted_kept : (nodes : List NodeFacts) (i : ℕ) (n : NodeFacts) (deed : Deed) → slice_get nodes i ≡ Some n → Kept nodes (nodes_after nodes i n deed)
acted_kept nodes i n deed here k a read = elim (cases_eq k i) [
  | inl same ↦
      let is : n ≡ a = same_Some n a (sym here ∙ (ap (slice_get nodes) (sym same) ∙ read)) in (
        node_after deed n,
        subst (λ j. slice_get (nodes_after nodes i n deed) j ≡ Some (node_after deed n)) (sym same) (own_place nodes i n deed here),
        ap (λ (x : NodeFacts). x.birth) is,
        ap (λ (x : NodeFacts). x.domain) is,
      )
  | inr other ↦ (a, other_place nodes i n deed here k a other read, refl, refl)
]

decided_kept : (t : TreeFacts) (r : ℕ) (choices : Option (List ℕ)) → Kept t.nodes (decided t r choices).nodes
decided_kept t r choices k a read =
    let (b, now, same) = (decided_alike t r choices).forth k a read in (b, now, sym same.0, sym same.1)

pub numbers_stay : (t : TreeFacts) (e : HistoryEntry) → IsTree t.nodes → Accepts t e → AreStill t.nodes (after_entry t e).nodes
numbers_stay t (Acted i deed) tree a =
    let (after, is) = ok_from (applied t i deed) a in
    let (n, ok) = accepted t i deed after is in
    let kept = subst (λ (u : TreeFacts). Kept t.nodes u.nodes) ok.tree (acted_kept t.nodes i n deed ok.there) in
    subst (λ (u : TreeFacts). AreStill t.nodes u.nodes) (sym (acted_tree t i deed after is)) (still t.nodes after.tree.nodes kept tree (stays_tree t i deed after tree is))
numbers_stay t (Decided r choices) tree a = still t.nodes (decided t r choices).nodes (decided_kept t r choices) tree (decided_tree t r choices tree)
