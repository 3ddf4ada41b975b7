-- The domains of a sound tree.
use Rattle.std.proofs.Common.{◌≡◌, ◌≤◌, ◌<◌, ◌+◌, ◌==◌, ℕ, zero, suc, Bool, true, false, List, [], ◌∷◌, length, Some, None, map, option_map, get_or, slice_get, refl, sym, ◌∙◌, ap, subst, arith, rules, tests}
use Rattle.std.specs.Prelude.{IsSomeAnd, if◌then◌else◌}
use Rattle.std.proofs.lemmas.Option.{same_Some, slice_get_read, slice_get_within}
use Rattle.sysmem_tree.specs.declared.domain.Domain.{Domain}
use Rattle.sysmem_tree.specs.Domain.{TreeFacts, IsSoundTree, HasDomain, roots_from}
use Rattle.sysmem_tree.specs.declared.node.Birth.{Birth}
use Rattle.sysmem_tree.specs.Node.{NodeFacts}
use Rattle.sysmem_tree.specs.Nodes.{HasNode}
use Rattle.sysmem_tree.proofs.nodes.Kids.{parent_of}
use Rattle.sysmem_tree.proofs.nodes.Places.{there}
use Rattle.sysmem_tree.proofs.domains.Readiness.{home_root}

-- a node's domain is one of the tree's
pub domain_there : (t : TreeFacts) (k : ℕ) (n : NodeFacts) → IsSoundTree t → slice_get t.nodes k ≡ Some n → HasDomain t.nodes n.domain
domain_there t k n sound here = home_root t.nodes sound.tree (k + 1) k n (omega arith) here

few_roots : (i : ℕ) (nodes : List NodeFacts) → length (roots_from i nodes) ≤ length nodes
few_roots i [] = omega arith
few_roots i (n ∷ nodes) = at (n.domain == i) (few_roots (i + 1) nodes) where
  at : (b : Bool) → length (roots_from (i + 1) nodes) ≤ length nodes → length (if b then i ∷ roots_from (i + 1) nodes else roots_from (i + 1) nodes) ≤ suc (length nodes)
  at true few = omega (arith, few)
  at false few = omega (arith, few)

length_roots : (ds : List Domain) → length (map (λ (d : Domain). d.root) ds) ≡ length ds
length_roots [] = refl
length_roots (d ∷ ds) = ap suc (length_roots ds)

as_many : (t : TreeFacts) → IsSoundTree t → length t.domains ≡ length (roots_from 0 t.nodes)
as_many t sound = sym (length_roots t.domains) ∙ ap length sound.domains

-- there are no more domains than nodes
pub few_domains : (t : TreeFacts) → IsSoundTree t → length t.domains ≤ length t.nodes
few_domains t sound = omega (arith, as_many t sound, few_roots 0 t.nodes)

some_root : (nodes : List NodeFacts) → IsSomeAnd (slice_get nodes 0) (λ n. (n.birth ≡ None) × (n.domain ≡ 0)) → 1 ≤ length (roots_from 0 nodes)
some_root [] root = absurd root
some_root (n ∷ nodes) (nobody, own) = subst (λ b. 1 ≤ length (if b then 0 ∷ roots_from 1 nodes else roots_from 1 nodes)) (sym same) (omega arith) where
  same : (n.domain == 0) ≡ true
  same = search (rules, tests, own)

-- and there is one
pub some_domain : (t : TreeFacts) → IsSoundTree t → 1 ≤ length t.domains
some_domain t sound = omega (arith, as_many t sound, some_root t.nodes sound.tree.root)

-- what is listed from a number on is a root from there on
pub root_there : (i : ℕ) (nodes : List NodeFacts) (k r : ℕ) → slice_get (roots_from i nodes) k ≡ Some r → (m : ℕ) × (r ≡ i + m) × IsSomeAnd (slice_get nodes m) (λ n. n.domain ≡ r)
root_there i [] k r at_k = absurd (cc)
root_there i (n ∷ nodes) k r at_k = at (n.domain == i) refl (λ j at_j. root_there (i + 1) nodes j r at_j) k at_k where
  on : ((k : ℕ) → slice_get (roots_from (i + 1) nodes) k ≡ Some r → (m : ℕ) × (r ≡ (i + 1) + m) × IsSomeAnd (slice_get nodes m) (λ n. n.domain ≡ r))
      → (k : ℕ) → slice_get (roots_from (i + 1) nodes) k ≡ Some r → (m : ℕ) × (r ≡ i + m) × IsSomeAnd (slice_get (n ∷ nodes) m) (λ n. n.domain ≡ r)
  on rest k at_k = let (m, is, own) = rest k at_k in (suc m, omega (arith, is), own)

  at : (b : Bool) → (n.domain == i) ≡ b → ((k : ℕ) → slice_get (roots_from (i + 1) nodes) k ≡ Some r → (m : ℕ) × (r ≡ (i + 1) + m) × IsSomeAnd (slice_get nodes m) (λ n. n.domain ≡ r))
      → (k : ℕ) → slice_get (if b then i ∷ roots_from (i + 1) nodes else roots_from (i + 1) nodes) k ≡ Some r
      → (m : ℕ) × (r ≡ i + m) × IsSomeAnd (slice_get (n ∷ nodes) m) (λ n. n.domain ≡ r)
  at true own rest zero here =
      let same : i ≡ r = same_Some i r here in
      let mine : n.domain ≡ i = search (rules, tests, own) in
      (0, omega (arith, same), mine ∙ same)
  at true own rest (suc k) here = on rest k here
  at false own rest k here = on rest k here

-- each domain of a tree is one that a node roots
pub listed_there : (t : TreeFacts) (k : ℕ) (d : Domain) → IsSoundTree t → slice_get t.domains k ≡ Some d → HasDomain t.nodes d.root
listed_there t k d sound here =
    let (m, is, own) = root_there 0 t.nodes k d.root (ap (λ rs. slice_get rs k) (sym sound.domains) ∙ mapped t.domains k here) in
    let same : d.root ≡ m = omega (arith, is) in
    subst (λ j. IsSomeAnd (slice_get t.nodes j) (λ n. n.domain ≡ d.root)) (sym same) own where
      mapped : (ds : List Domain) (k : ℕ) → slice_get ds k ≡ Some d → slice_get (map (λ (d : Domain). d.root) ds) k ≡ Some d.root
      mapped [] k e = absurd (cc)
      mapped (x ∷ ds) zero e = ap (option_map (λ (d : Domain). d.root)) e
      mapped (x ∷ ds) (suc k) e = mapped ds k e

-- one that roots a domain is a node
pub root_within : (t u : TreeFacts) (k r : ℕ) → t ≡ u → k ≡ r → HasDomain u.nodes r → k < length t.nodes
root_within t u k r same is has =
    let (n, here, _) = there (λ (n : NodeFacts). n.domain ≡ r) (slice_get u.nodes r) has in
    let within = slice_get_within u.nodes r n here in
    let long : length t.nodes ≡ length u.nodes = ap (λ (x : TreeFacts). length x.nodes) same in
    omega (arith, is, within, long)

-- a node that is read has its domain
pub home_there : (t u : TreeFacts) (k r d : ℕ) (n : NodeFacts) → IsSoundTree t → t ≡ u → k ≡ r → r < length u.nodes → n ≡ get_or t.nodes k n → d ≡ n.domain → HasDomain u.nodes d
home_there t u k r d n sound same is within read home =
    let long : length t.nodes ≡ length u.nodes = ap (λ (x : TreeFacts). length x.nodes) same in
    let here = slice_get_read t.nodes (length t.nodes) k n refl (omega (arith, is, within, long)) read in
    subst (λ (x : TreeFacts). HasDomain x.nodes d) same (subst (HasDomain t.nodes) (sym home) (domain_there t k n sound here))

-- and its parent
pub parent_there : (t u : TreeFacts) (k r : ℕ) (n : NodeFacts) (b : Birth) → IsSoundTree t → t ≡ u → k ≡ r → HasDomain u.nodes r → n ≡ get_or t.nodes k n → n.birth ≡ Some b
    → HasNode u.nodes b.parent
parent_there t u k r n b sound same is has read born =
    let within = root_within t u k r same is has in
    let here = slice_get_read t.nodes (length t.nodes) k n refl within read in
    let older = parent_of t.nodes sound.tree k n b here born in
    let long : length t.nodes ≡ length u.nodes = ap (λ (x : TreeFacts). length x.nodes) same in
    omega (arith, older, within, long)

-- a domain that is read is one that a node roots
pub read_there : (t u : TreeFacts) (k : ℕ) (d : Domain) → IsSoundTree t → t ≡ u → slice_get t.domains k ≡ Some d → HasDomain u.nodes d.root
read_there t u k d sound same here = subst (λ (x : TreeFacts). HasDomain x.nodes d.root) same (listed_there t k d sound here)

-- there are 1 to 128 domains
pub count_few : (t : TreeFacts) (many : ℕ) → IsSoundTree t → many ≡ length t.domains → (1 ≤ many) × (many ≤ 128)
count_few t many sound is = (omega (arith, is, some_domain t sound), omega (arith, is, few_domains t sound, sound.tree.few))
