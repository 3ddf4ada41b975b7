-- What an action and a decision leave of the nodes and domains of a tree.
use Rattle.std.proofs.Common.{◌≡◌, ◌≢◌, ◌≤◌, ℕ, zero, suc, ◌+◌, ◌==◌, Bool, true, false, not, ◌&&◌, List, [], ◌∷◌, ◌++◌, length, Option, Some, None, slice_get, slice_set, refl, sym, ◌∙◌, ap, subst, arith, rules, tests, append-nil, eq-eqb}
use Rattle.std.specs.Prelude.{IsSomeAnd, map, if◌then◌else◌}
use Rattle.std.proofs.lemmas.List.{map-append}
use Rattle.std.proofs.lemmas.Option.{same_Some}
use Rattle.std.specs.List.{AllByRecursion}
use Rattle.sysmem_tree.specs.declared.action.ActionKind.{ActionKind}
use Rattle.sysmem_tree.specs.declared.action.ActionKind.TheVariants.{Duplicate, CreateGroup, Bind, CreateChild, AllChildrenPresent, SetConstraints, AttachToken, Release, Close}
use Rattle.sysmem_tree.specs.declared.domain.Decision.{Decision}
use Rattle.sysmem_tree.specs.declared.domain.Decision.TheVariants.{Chosen, NoneChosen}
use Rattle.sysmem_tree.specs.declared.domain.Domain.{Domain}
use Rattle.sysmem_tree.specs.declared.state.NodeKind.TheVariants.{Token}
use Rattle.sysmem_tree.specs.ActionKind.{Deed, kind_of, duplicates, creates_group, binds, creates_child, has_all_children, sets, attaches_token, releases, closes}
use Rattle.sysmem_tree.specs.Domain.{TreeFacts, AreDomains, HasDomain, IsSoundTree, has_failed, host_node, is_complete, is_host_selected, is_ready, roots_from}
use Rattle.sysmem_tree.specs.Node.{NodeFacts, fresh, is_awaited}
use Rattle.sysmem_tree.specs.Shape.{members_of}
use Rattle.sysmem_tree.specs.Table.{makes}
use Rattle.sysmem_tree.specs.Tree.{new_domain, node_after, new_node, nodes_made, closed_early, domains_after, tree_after, decided_domain, left_out_but, decided}
use Rattle.sysmem_alloc.specs.Sound.{AreDistinct, roots_of}
use Rattle.sysmem_alloc.proofs.Lists.{all_weaken}

-- node k is of domain d
abbrev pub IsAt : List NodeFacts → ℕ → ℕ → Type 0
IsAt nodes k d = IsSomeAnd (slice_get nodes k) (λ n. n.domain ≡ d)

at_set : (xs : List NodeFacts) (i k d : ℕ) (n m : NodeFacts) → slice_get xs i ≡ Some n → m.domain ≡ n.domain → IsAt xs k d → IsAt (slice_set xs i m) k d
at_set [] i k d n m here same h = h
at_set (x ∷ xs) zero zero d n m here same h = same ∙ (sym (ap (λ (z : NodeFacts). z.domain) (same_Some x n here)) ∙ h)
at_set (x ∷ xs) zero (suc k) d n m here same h = h
at_set (x ∷ xs) (suc i) zero d n m here same h = h
at_set (x ∷ xs) (suc i) (suc k) d n m here same h = at_set xs i k d n m here same h

at_append : (xs ys : List NodeFacts) (k d : ℕ) → IsAt xs k d → IsAt (xs ++ ys) k d
at_append [] ys k d h = absurd h
at_append (x ∷ xs) ys zero d h = h
at_append (x ∷ xs) ys (suc k) d h = at_append xs ys k d h

at_left : (ms : List ℕ) (r i : ℕ) (xs : List NodeFacts) (k d : ℕ) → IsAt xs k d → IsAt (left_out_but ms r i xs) k d
at_left ms r i [] k d h = h
at_left ms r i (x ∷ xs) zero d h = h
at_left ms r i (x ∷ xs) (suc k) d h = at_left ms r (i + 1) xs k d h

-- a domain's root stays one
pub acted_there : (t : TreeFacts) (i : ℕ) (n : NodeFacts) (deed : Deed) (r : ℕ) → slice_get t.nodes i ≡ Some n → HasDomain t.nodes r → HasDomain (tree_after t i n deed).nodes r
acted_there t i n deed r here h =
    at_append (slice_set t.nodes i (node_after deed n)) (nodes_made (length t.nodes) i n (kind_of deed) (makes (kind_of deed))) r r (at_set t.nodes i r r n (node_after deed n) here refl h)

pub decided_there : (t : TreeFacts) (d : ℕ) (choices : Option (List ℕ)) (r : ℕ) → HasDomain t.nodes r → HasDomain (decided t d choices).nodes r
decided_there t d None r h = h
decided_there t d (Some cs) r h = at_left (members_of t.nodes d cs) d 0 t.nodes r r h

-- the root that an action adds
abbrev pub added : ActionKind → ℕ → List ℕ
added AttachToken k = k ∷ []
added _ k = []

abbrev root_of : Domain → ℕ
root_of d = d.root

closed_roots : (e : ℕ) (ds : List Domain) → map root_of (map (closed_early e) ds) ≡ map root_of ds
closed_roots e [] = refl
closed_roots e (d ∷ ds) = ap (λ ys. d.root ∷ ys) (closed_roots e ds)

if_roots : (b : Bool) (e : ℕ) (ds : List Domain) → map root_of (if b then ds else map (closed_early e) ds) ≡ map root_of ds ++ []
if_roots true e ds = sym (append-nil (map root_of ds))
if_roots false e ds = closed_roots e ds ∙ sym (append-nil (map root_of ds))

pub acted_roots : (t : TreeFacts) (n : NodeFacts) (kind : ActionKind) → map root_of (domains_after t n kind) ≡ roots_of t ++ added kind (length t.nodes)
acted_roots t n AttachToken = map-append root_of t.domains (new_domain (length t.nodes) ∷ [])
acted_roots t n Close = if_roots (is_ready t n.domain) n.domain t.domains
acted_roots t n Duplicate = sym (append-nil (roots_of t))
acted_roots t n CreateGroup = sym (append-nil (roots_of t))
acted_roots t n Bind = sym (append-nil (roots_of t))
acted_roots t n CreateChild = sym (append-nil (roots_of t))
acted_roots t n AllChildrenPresent = sym (append-nil (roots_of t))
acted_roots t n SetConstraints = sym (append-nil (roots_of t))
acted_roots t n Release = sym (append-nil (roots_of t))

root_kept : (r : ℕ) (x : Decision) (d : Domain) (b : Bool) → (d.root == r) ≡ b → (decided_domain r x d).root ≡ d.root
root_kept r x d true e = rw e refl
root_kept r x d false e = rw e refl

kept_roots : (r : ℕ) (x : Decision) (ds : List Domain) → map root_of (map (decided_domain r x) ds) ≡ map root_of ds
kept_roots r x [] = refl
kept_roots r x (d ∷ ds) = ap (λ k. k ∷ map root_of (map (decided_domain r x) ds)) (root_kept r x d _ refl) ∙ ap (λ ys. d.root ∷ ys) (kept_roots r x ds)

pub decided_roots : (t : TreeFacts) (d : ℕ) (choices : Option (List ℕ)) → roots_of (decided t d choices) ≡ roots_of t
decided_roots t d None = kept_roots d NoneChosen t.domains
decided_roots t d (Some cs) = kept_roots d Chosen t.domains

-- a domain whose newest node is awaited isn't complete
awaited_last : (xs : List NodeFacts) (n : NodeFacts) (r : ℕ) → n.domain ≡ r → is_awaited n.state ≡ true → is_complete (xs ++ n ∷ []) r ≡ false
awaited_last [] n r own waits = search (rules, tests, own, waits)
awaited_last (x ∷ xs) n r own waits = at (not ((x.domain == r) && is_awaited x.state)) (awaited_last xs n r own waits) where
  at : (b : Bool) → is_complete (xs ++ n ∷ []) r ≡ false → (b && is_complete (xs ++ n ∷ []) r) ≡ false
  at true ih = ih
  at false ih = refl

unready : (t : TreeFacts) (r : ℕ) → is_complete t.nodes r ≡ false → is_ready t r ≡ false
unready t r e = ap (λ b. b && (not (has_failed t r) && is_host_selected t.domains (host_node t.nodes r))) e

-- the root that an action adds isn't ready
pub added_unready : (t : TreeFacts) (i : ℕ) (n : NodeFacts) (deed : Deed) → AllByRecursion (λ r. is_ready (tree_after t i n deed) r ≡ false) (added (kind_of deed) (length t.nodes))
added_unready t i n attaches_token =
    (unready (tree_after t i n attaches_token) (length t.nodes) (awaited_last (slice_set t.nodes i (node_after attaches_token n)) (new_node (length t.nodes) i n AttachToken (fresh Token)) (length t.nodes) refl refl), tt)
added_unready t i n duplicates = tt
added_unready t i n creates_group = tt
added_unready t i n binds = tt
added_unready t i n creates_child = tt
added_unready t i n has_all_children = tt
added_unready t i n (sets asked) = tt
added_unready t i n releases = tt
added_unready t i n closes = tt

-- the domains are roots of the tree's, each once
roots_there : (all : List NodeFacts) (i : ℕ) (nodes : List NodeFacts) → ((m : ℕ) (n : NodeFacts) → slice_get nodes m ≡ Some n → slice_get all (i + m) ≡ Some n) → AllByRecursion (HasDomain all) (roots_from i nodes)
roots_there all i [] front = tt
roots_there all i (n ∷ nodes) front =
    at (roots_there all (i + 1) nodes (λ m x here. let shift : i + suc m ≡ (i + 1) + m = omega arith in subst (λ k. slice_get all k ≡ Some x) shift (front (suc m) x here))) (n.domain == i) refl where
      zeroed : i + 0 ≡ i
      zeroed = omega arith

      at : AllByRecursion (HasDomain all) (roots_from (i + 1) nodes) → (b : Bool) → (n.domain == i) ≡ b → AllByRecursion (HasDomain all) (if b then i ∷ roots_from (i + 1) nodes else roots_from (i + 1) nodes)
      at on false is = on
      at on true is =
          let own : n.domain ≡ i = search (rules, tests, is) in
          let here : slice_get all i ≡ Some n = subst (λ k. slice_get all k ≡ Some n) zeroed (front 0 n refl) in
          (subst (λ o. IsSomeAnd o (λ (x : NodeFacts). x.domain ≡ i)) (sym here) own, on)

late : (i : ℕ) (nodes : List NodeFacts) → AllByRecursion (λ r. i ≤ r) (roots_from i nodes)
late i [] = tt
late i (n ∷ nodes) = at (n.domain == i) (all_weaken (λ r. i + 1 ≤ r) (λ r. i ≤ r) (roots_from (i + 1) nodes) (λ r less. omega (arith, less)) (late (i + 1) nodes)) where
  at : (b : Bool) → AllByRecursion (λ r. i ≤ r) (roots_from (i + 1) nodes) → AllByRecursion (λ r. i ≤ r) (if b then i ∷ roots_from (i + 1) nodes else roots_from (i + 1) nodes)
  at true rest = (omega arith, rest)
  at false rest = rest

apart_from : (i : ℕ) (nodes : List NodeFacts) → AreDistinct (roots_from i nodes)
apart_from i [] = tt
apart_from i (n ∷ nodes) = at (n.domain == i) (apart_from (i + 1) nodes) where
  at : (b : Bool) → AreDistinct (roots_from (i + 1) nodes) → AreDistinct (if b then i ∷ roots_from (i + 1) nodes else roots_from (i + 1) nodes)
  at true rest = (all_weaken (λ r. i + 1 ≤ r) (λ r. i ≢ r) (roots_from (i + 1) nodes) (λ r less same. omega (arith, less, same)) (late (i + 1) nodes), rest)
  at false rest = rest

pub domains_there : (t : TreeFacts) → IsSoundTree t → AllByRecursion (HasDomain t.nodes) (roots_of t)
domains_there t sound = subst (AllByRecursion (HasDomain t.nodes)) (sym sound.domains) (roots_there t.nodes 0 t.nodes (λ m n here. let z : m ≡ 0 + m = omega arith in subst (λ k. slice_get t.nodes k ≡ Some n) z here))

pub domains_apart : (t : TreeFacts) → IsSoundTree t → AreDistinct (roots_of t)
domains_apart t sound = subst AreDistinct (sym sound.domains) (apart_from 0 t.nodes)

few_from : (i : ℕ) (nodes : List NodeFacts) → length (roots_from i nodes) ≤ length nodes
few_from i [] = omega arith
few_from i (n ∷ nodes) = at (n.domain == i) (few_from (i + 1) nodes) where
  at : (b : Bool) → length (roots_from (i + 1) nodes) ≤ length nodes → length (if b then i ∷ roots_from (i + 1) nodes else roots_from (i + 1) nodes) ≤ suc (length nodes)
  at true few = omega (arith, few)
  at false few = omega (arith, few)

-- at most 128
pub few_domains : (t : TreeFacts) → IsSoundTree t → length (roots_of t) ≤ 128
few_domains t sound = omega (arith, ap length sound.domains, few_from 0 t.nodes, sound.tree.few)

-- a root of the tree's is among those of its domains
among_roots : (i : ℕ) (nodes : List NodeFacts) (j : ℕ) (n : NodeFacts) → slice_get nodes j ≡ Some n → n.domain ≡ i + j → (k : ℕ) × (slice_get (roots_from i nodes) k ≡ Some (i + j))
among_roots i [] j n here own = absurd (cc)
among_roots i (x ∷ nodes) zero n here own =
    let z : i + 0 ≡ i = omega arith in
    let root : x.domain ≡ i = ap (λ (y : NodeFacts). y.domain) (same_Some x n here) ∙ (own ∙ z) in
    (0, ap (λ b. slice_get (if b then i ∷ roots_from (i + 1) nodes else roots_from (i + 1) nodes) 0) (eq-eqb x.domain i root) ∙ ap (λ k. Some k) (sym z))
among_roots i (x ∷ nodes) (suc j) n here own =
    let z : (i + 1) + j ≡ i + suc j = omega arith in
    let (k, at) = among_roots (i + 1) nodes j n here (own ∙ sym z) in
    by (x.domain == i) k (at ∙ ap (λ m. Some m) z) where
      by : (b : Bool) (k : ℕ) → slice_get (roots_from (i + 1) nodes) k ≡ Some (i + suc j) → (m : ℕ) × (slice_get (if b then i ∷ roots_from (i + 1) nodes else roots_from (i + 1) nodes) m ≡ Some (i + suc j))
      by true k at = (suc k, at)
      by false k at = (k, at)

pub root_among : (t : TreeFacts) (r : ℕ) → AreDomains t → HasDomain t.nodes r → (k : ℕ) × (slice_get (roots_of t) k ≡ Some r)
root_among t r domains has = by (slice_get t.nodes r) refl has where
  by : (o : Option NodeFacts) → slice_get t.nodes r ≡ o → IsSomeAnd o (λ n. n.domain ≡ r) → (k : ℕ) × (slice_get (roots_of t) k ≡ Some r)
  by None here own = absurd own
  by (Some n) here own =
      let z : 0 + r ≡ r = omega arith in
      let (k, at) = among_roots 0 t.nodes r n here (own ∙ sym z) in
      (k, ap (λ rs. slice_get rs k) domains ∙ (at ∙ ap (λ m. Some m) z))
