-- The domains of a tree stand in order of their roots.
use Rattle.std.proofs.Common.{◌≡◌, ℕ, zero, suc, ◌+◌, ◌==◌, Bool, true, false, List, [], ◌∷◌, ◌++◌, length, Option, Some, None, slice_get, slice_set, refl, sym, ◌∙◌, ap, subst, arith, append-nil}
use Rattle.std.specs.Prelude.{Ok, map, if◌then◌else◌}
use Rattle.std.proofs.lemmas.List.{length-set, map-append}
use Rattle.std.proofs.lemmas.Option.{same_Some}
use Rattle.sysmem_tree.specs.declared.action.ActionKind.{ActionKind}
use Rattle.sysmem_tree.specs.declared.action.ActionKind.TheVariants.{Duplicate, CreateGroup, Bind, CreateChild, AllChildrenPresent, SetConstraints, AttachToken, Release, Close}
use Rattle.sysmem_tree.specs.declared.domain.Decision.{Decision}
use Rattle.sysmem_tree.specs.declared.domain.Domain.{Domain}
use Rattle.sysmem_tree.specs.declared.state.NodeState.{NodeState}
use Rattle.sysmem_tree.specs.ActionKind.{Deed, kind_of}
use Rattle.sysmem_tree.specs.Domain.{TreeFacts, is_ready, roots_from, AreDomains}
use Rattle.sysmem_tree.specs.Node.{NodeFacts}
use Rattle.sysmem_tree.specs.Nodes.{IsTree}
use Rattle.sysmem_tree.specs.Shape.{members_of}
use Rattle.sysmem_tree.specs.Table.{makes, makes_root}
use Rattle.sysmem_tree.specs.Tree.{new_domain, node_after, new_node, nodes_made, closed_early, domains_after, decided_domain, left_out_but, Applied, applied, decided}
use Rattle.sysmem_tree.proofs.steps.Accepted.{accepted}
use Rattle.sysmem_tree.proofs.steps.Steps.{new_is_root}

abbrev root_of : Domain → ℕ
root_of d = d.root

roots_set : (xs : List NodeFacts) (s i : ℕ) (n m : NodeFacts) → slice_get xs i ≡ Some n → m.domain ≡ n.domain → roots_from s (slice_set xs i m) ≡ roots_from s xs
roots_set [] s i n m here same = refl
roots_set (x ∷ xs) s zero n m here same =
    ap (λ d. if d == s then s ∷ roots_from (s + 1) xs else roots_from (s + 1) xs) (same ∙ sym (ap (λ (z : NodeFacts). z.domain) (same_Some x n here)))
roots_set (x ∷ xs) s (suc i) n m here same = ap (λ ys. if x.domain == s then s ∷ ys else ys) (roots_set xs (s + 1) i n m here same)

push_if : (b : Bool) (s : ℕ) (xs ys : List ℕ) → (if b then s ∷ (xs ++ ys) else (xs ++ ys)) ≡ (if b then s ∷ xs else xs) ++ ys
push_if true s xs ys = refl
push_if false s xs ys = refl

roots_push : (xs : List NodeFacts) (s : ℕ) (t : NodeFacts) → roots_from s (xs ++ t ∷ []) ≡ roots_from s xs ++ (if t.domain == s + length xs then (s + length xs) ∷ [] else [])
roots_push [] s t = let z : s ≡ s + 0 = omega arith in ap (λ k. if t.domain == k then k ∷ [] else []) z
roots_push (x ∷ xs) s t =
    let z : (s + 1) + length xs ≡ s + suc (length xs) = omega arith in
    ap (λ ys. if x.domain == s then s ∷ ys else ys) (roots_push xs (s + 1) t ∙ ap (λ k. roots_from (s + 1) xs ++ (if t.domain == k then k ∷ [] else [])) z)
    ∙ push_if (x.domain == s) s (roots_from (s + 1) xs) (if t.domain == s + suc (length xs) then (s + suc (length xs)) ∷ [] else [])

roots_left : (members : List ℕ) (r i : ℕ) (nodes : List NodeFacts) (s : ℕ) → roots_from s (left_out_but members r i nodes) ≡ roots_from s nodes
roots_left members r i [] s = refl
roots_left members r i (n ∷ nodes) s = ap (λ ys. if n.domain == s then s ∷ ys else ys) (roots_left members r (i + 1) nodes (s + 1))

closed_roots : (e : ℕ) (ds : List Domain) → map root_of (map (closed_early e) ds) ≡ map root_of ds
closed_roots e [] = refl
closed_roots e (d ∷ ds) = ap (λ ys. d.root ∷ ys) (closed_roots e ds)

root_kept : (r : ℕ) (x : Decision) (d : Domain) (b : Bool) → (d.root == r) ≡ b → (decided_domain r x d).root ≡ d.root
root_kept r x d true e = rw e refl
root_kept r x d false e = rw e refl

decided_roots : (r : ℕ) (x : Decision) (ds : List Domain) → map root_of (map (decided_domain r x) ds) ≡ map root_of ds
decided_roots r x [] = refl
decided_roots r x (d ∷ ds) = ap (λ k. k ∷ map root_of (map (decided_domain r x) ds)) (root_kept r x d _ refl) ∙ ap (λ ys. d.root ∷ ys) (decided_roots r x ds)

-- the root that an action makes
abbrev added : Bool → ℕ → List ℕ
added true k = k ∷ []
added false k = []

if_roots : (b : Bool) (e : ℕ) (ds : List Domain) → map root_of (if b then ds else map (closed_early e) ds) ≡ map root_of ds ++ []
if_roots true e ds = sym (append-nil (map root_of ds))
if_roots false e ds = closed_roots e ds ∙ sym (append-nil (map root_of ds))

domains_added : (t : TreeFacts) (n : NodeFacts) (c : ActionKind) → map root_of (domains_after t n c) ≡ map root_of t.domains ++ added (makes_root c) (length t.nodes)
domains_added t n AttachToken = map-append root_of t.domains (new_domain (length t.nodes) ∷ [])
domains_added t n Close = if_roots (is_ready t n.domain) n.domain t.domains
domains_added t n Duplicate = sym (append-nil (map root_of t.domains))
domains_added t n CreateGroup = sym (append-nil (map root_of t.domains))
domains_added t n Bind = sym (append-nil (map root_of t.domains))
domains_added t n CreateChild = sym (append-nil (map root_of t.domains))
domains_added t n AllChildrenPresent = sym (append-nil (map root_of t.domains))
domains_added t n SetConstraints = sym (append-nil (map root_of t.domains))
domains_added t n Release = sym (append-nil (map root_of t.domains))

makes_none : (c : ActionKind) → makes c ≡ None → makes_root c ≡ false
makes_none AttachToken e = absurd (cc)
makes_none Duplicate e = refl
makes_none CreateGroup e = refl
makes_none Bind e = refl
makes_none CreateChild e = refl
makes_none AllChildrenPresent e = refl
makes_none SetConstraints e = refl
makes_none Release e = refl
makes_none Close e = refl

if_added : (b : Bool) (k : ℕ) → (if b then k ∷ [] else []) ≡ added b k
if_added true k = refl
if_added false k = refl

module _ (nodes : List NodeFacts) (i : ℕ) (n : NodeFacts) (deed : Deed) (here : slice_get nodes i ≡ Some n) (tree : IsTree nodes) where
  nodes_added : (o : Option NodeState) → makes (kind_of deed) ≡ o
      → roots_from 0 (slice_set nodes i (node_after deed n) ++ nodes_made (length nodes) i n (kind_of deed) o) ≡ roots_from 0 nodes ++ added (makes_root (kind_of deed)) (length nodes)
  nodes_added None e =
      ap (roots_from 0) (append-nil (slice_set nodes i (node_after deed n)))
      ∙ (roots_set nodes 0 i n (node_after deed n) here refl ∙ (sym (append-nil (roots_from 0 nodes)) ∙ ap (λ b. roots_from 0 nodes ++ added b (length nodes)) (sym (makes_none (kind_of deed) e))))
  nodes_added (Some s) e =
      let t : NodeFacts = new_node (length nodes) i n (kind_of deed) s in
      let long : 0 + length (slice_set nodes i (node_after deed n)) ≡ length nodes = omega (arith, length-set nodes i (node_after deed n)) in
      roots_push (slice_set nodes i (node_after deed n)) 0 t
      ∙ (ap (λ ys. ys ++ (if t.domain == 0 + length (slice_set nodes i (node_after deed n)) then (0 + length (slice_set nodes i (node_after deed n))) ∷ [] else [])) (roots_set nodes 0 i n (node_after deed n) here refl)
      ∙ (ap (λ k. roots_from 0 nodes ++ (if t.domain == k then k ∷ [] else [])) long
      ∙ (ap (λ b. roots_from 0 nodes ++ (if b then length nodes ∷ [] else [])) (new_is_root nodes i n deed here tree)
      ∙ ap (λ ys. roots_from 0 nodes ++ ys) (if_added (makes_root (kind_of deed)) (length nodes)))))

-- an accepted action keeps the domains in order of their roots
pub acted_domains : (t : TreeFacts) (i : ℕ) (deed : Deed) (after : Applied) → IsTree t.nodes → AreDomains t → applied t i deed ≡ Ok after → AreDomains after.tree
acted_domains t i deed after tree domains is =
    let (n, ok) = accepted t i deed after is in
    subst AreDomains ok.tree (domains_added t n (kind_of deed)
    ∙ (ap (λ ys. ys ++ added (makes_root (kind_of deed)) (length t.nodes)) domains ∙ sym (nodes_added t.nodes i n deed ok.there tree (makes (kind_of deed)) refl)))

-- and so does a decision
pub decided_domains : (t : TreeFacts) (r : ℕ) (choices : Option (List ℕ)) → AreDomains t → AreDomains (decided t r choices)
decided_domains t r None domains = decided_roots r _ t.domains ∙ domains
decided_domains t r (Some cs) domains = decided_roots r _ t.domains ∙ (domains ∙ sym (roots_left (members_of t.nodes r cs) r 0 t.nodes 0))
