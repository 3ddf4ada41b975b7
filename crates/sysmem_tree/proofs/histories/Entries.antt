-- What an entry leaves as it was.
use Rattle.std.proofs.Common.{◌≡◌, ℕ, true, List, [], ◌∷◌, Option, refl, sym, subst}
use Rattle.std.specs.Prelude.{Ok}
use Rattle.sysmem_tree.specs.ActionKind.{Deed}
use Rattle.sysmem_tree.specs.Domain.{TreeFacts, HasDomain, is_undecided, decision_of, is_ready, IsSoundTree}
use Rattle.sysmem_tree.specs.History.{HistoryEntry, Acted, Decided, Accepts, after_entry, AreAccepted, replay_from}
use Rattle.sysmem_tree.specs.Laws.{IsSameDomain, IsMade}
use Rattle.sysmem_tree.specs.Nodes.{IsTree}
use Rattle.sysmem_tree.specs.Tree.{first_tree, Applied, applied, decided}
use Rattle.sysmem_tree.proofs.nodes.Alike.{decided_tree}
use Rattle.sysmem_tree.proofs.steps.Growing.{stays_tree}
use Rattle.sysmem_tree.proofs.histories.Histories.{first_nodes_tree, acted_tree, ok_from, made}
use Rattle.sysmem_tree.proofs.domains.LeftOut.{acted_left_out, decided_left_out, first_left_out}
use Rattle.sysmem_tree.proofs.steps.Proper.{stays_proper, decided_proper, first_proper}
use Rattle.sysmem_tree.proofs.domains.Readiness.{acted_ready, decided_ready, acted_same, decided_forest, acted_decided, decided_decided, first_decided}
use Rattle.sysmem_tree.proofs.domains.Roots.{acted_domains, decided_domains}

-- of the tree of a root token
pub first_sound : IsSoundTree first_tree
first_sound = record { tree = first_nodes_tree; proper = first_proper; domains = refl; decided = first_decided; left_out = first_left_out }

-- after an accepted action
pub acted_sound : (t : TreeFacts) (i : ℕ) (deed : Deed) (after : Applied) → IsSoundTree t → applied t i deed ≡ Ok after → IsSoundTree after.tree
acted_sound t i deed after s is = record {
  tree = stays_tree t i deed after s.tree is;
  proper = stays_proper t i deed after s.proper is;
  domains = acted_domains t i deed after s.tree s.domains is;
  decided = acted_decided t i deed after s.tree s.decided is;
  left_out = acted_left_out t i deed after s.left_out is;
}

-- after a decision of a domain that is ready and undecided
pub decided_sound : (t : TreeFacts) (r : ℕ) (choices : Option (List ℕ)) → IsSoundTree t → HasDomain t.nodes r → is_ready t r ≡ true → is_undecided (decision_of t.domains r) ≡ true
    → IsSoundTree (decided t r choices)
decided_sound t r choices s has ready open' = record {
  tree = decided_tree t r choices s.tree;
  proper = decided_proper t r choices s.proper;
  domains = decided_domains t r choices s.domains;
  decided = decided_decided t r choices s.tree s.decided has ready open';
  left_out = decided_left_out t r s.left_out s.domains has open' choices;
}

-- by each entry
pub sound_stays : (t : TreeFacts) (e : HistoryEntry) → IsSoundTree t → Accepts t e → IsSoundTree (after_entry t e)
sound_stays t (Acted i deed) s a =
    let (after, is) = ok_from (applied t i deed) a in subst IsSoundTree (sym (acted_tree t i deed after is)) (acted_sound t i deed after s is)
sound_stays t (Decided r choices) s a = decided_sound t r choices s a.there a.ready a.undecided

pub ready_stays : (t : TreeFacts) (e : HistoryEntry) (r : ℕ) → IsSoundTree t → Accepts t e → HasDomain t.nodes r → is_ready t r ≡ true → is_ready (after_entry t e) r ≡ true
ready_stays t (Acted i deed) r s a has ready =
    let (after, is) = ok_from (applied t i deed) a in
    subst (λ (u : TreeFacts). is_ready u r ≡ true) (sym (acted_tree t i deed after is)) (acted_ready t i r deed after s.tree s.decided is has ready)
ready_stays t (Decided d choices) r s a has ready = decided_ready t d r choices s.tree s.decided a.undecided has ready

pub forest_stays : (t : TreeFacts) (e : HistoryEntry) (r : ℕ) → IsTree t.nodes → Accepts t e → HasDomain t.nodes r → is_ready t r ≡ true → IsSameDomain t.nodes (after_entry t e).nodes r
forest_stays t (Acted i deed) r tree a has ready =
    let (after, is) = ok_from (applied t i deed) a in
    subst (λ (u : TreeFacts). IsSameDomain t.nodes u.nodes r) (sym (acted_tree t i deed after is)) (acted_same t i r deed after tree is has ready)
forest_stays t (Decided d choices) r tree a has ready = decided_forest t d r choices tree has

-- and by histories
sound_from : (t : TreeFacts) (es : List HistoryEntry) → IsSoundTree t → AreAccepted t es → IsSoundTree (replay_from t es)
sound_from t [] s a = s
sound_from t (e ∷ es) s a = sound_from (after_entry t e) es (sound_stays t e s a.0) a.1

pub maps_of_logs : (es : List HistoryEntry) → AreAccepted first_tree es → IsMade es
maps_of_logs es a = record { sound = sound_from first_tree es first_sound a; map = (made es a).kept.map }
