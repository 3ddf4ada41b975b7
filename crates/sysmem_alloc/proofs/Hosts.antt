-- A domain's host stays in its domain.
use Rattle.std.proofs.Common.{◌≡◌, ◌≤◌, ◌<◌, ℕ, zero, suc, List, [], ◌∷◌, ◌++◌, length, Option, Some, None, slice_get, slice_set, refl, sym, ◌∙◌, ap, subst, arith}
use Rattle.std.specs.Prelude.{IsSomeAnd, option_map, option_and_then}
use Rattle.std.proofs.lemmas.List.{length-set}
use Rattle.std.proofs.lemmas.Option.{same_Some}
use Rattle.sysmem_merge.specs.declared.settings.Settings.{Settings}
use Rattle.verdict_claims.specs.Base.{BaseFacts}
use Rattle.sysmem_tree.specs.declared.node.Birth.{Birth}
use Rattle.sysmem_tree.specs.ActionKind.{Deed, kind_of}
use Rattle.sysmem_tree.specs.Domain.{TreeFacts, host_node}
use Rattle.sysmem_tree.specs.Node.{NodeFacts}
use Rattle.sysmem_tree.specs.Nodes.{IsTree}
use Rattle.sysmem_tree.specs.Table.{makes}
use Rattle.sysmem_tree.specs.Tree.{tree_after, node_after, nodes_made}
use Rattle.sysmem_alloc.specs.Decision.{settings_for}
use Rattle.sysmem_alloc.specs.State.{State, base_of}

-- where a node is born, and in which domain it is
abbrev place : List NodeFacts → ℕ → Option (Option Birth × ℕ)
place nodes k = option_map (λ (n : NodeFacts). (n.birth, n.domain)) (slice_get nodes k)

place_set : (xs : List NodeFacts) (i k : ℕ) (n m : NodeFacts) → slice_get xs i ≡ Some n → m.birth ≡ n.birth → m.domain ≡ n.domain → place (slice_set xs i m) k ≡ place xs k
place_set [] i k n m here b d = refl
place_set (x ∷ xs) zero zero n m here b d =
    let same = same_Some x n here in
    ap (λ (y : Option Birth). Some (y, m.domain)) (b ∙ sym (ap (λ (z : NodeFacts). z.birth) same)) ∙ ap (λ (y : ℕ). Some (x.birth, y)) (d ∙ sym (ap (λ (z : NodeFacts). z.domain) same))
place_set (x ∷ xs) zero (suc k) n m here b d = refl
place_set (x ∷ xs) (suc i) zero n m here b d = refl
place_set (x ∷ xs) (suc i) (suc k) n m here b d = place_set xs i k n m here b d

place_append : (xs ys : List NodeFacts) (k : ℕ) → k < length xs → place (xs ++ ys) k ≡ place xs k
place_append [] ys k less = absurd (omega (arith, less))
place_append (x ∷ xs) ys zero less = refl
place_append (x ∷ xs) ys (suc k) less = place_append xs ys k (omega (arith, less))

acted_place : (t : TreeFacts) (i : ℕ) (n : NodeFacts) (deed : Deed) (k : ℕ) → slice_get t.nodes i ≡ Some n → k < length t.nodes → place (tree_after t i n deed).nodes k ≡ place t.nodes k
acted_place t i n deed k here less =
    place_append (slice_set t.nodes i (node_after deed n)) (nodes_made (length t.nodes) i n (kind_of deed) (makes (kind_of deed))) k (omega (arith, less, length-set t.nodes i (node_after deed n)))
    ∙ place_set t.nodes i k n (node_after deed n) here refl refl

-- the domain of a host, from where its domain's root is born
abbrev host_from : List NodeFacts → Option (Option Birth × ℕ) → Option ℕ
host_from nodes None = None
host_from nodes (Some (None, d)) = None
host_from nodes (Some (Some b, d)) = option_map (λ (p : Option Birth × ℕ). p.1) (place nodes b.parent)

host_is : (nodes : List NodeFacts) (r : ℕ) → option_map (λ (h : NodeFacts). h.domain) (host_node nodes r) ≡ host_from nodes (place nodes r)
host_is nodes r = by (slice_get nodes r) where
  there : (o : Option NodeFacts) → option_map (λ (h : NodeFacts). h.domain) o ≡ option_map (λ (p : Option Birth × ℕ). p.1) (option_map (λ (n : NodeFacts). (n.birth, n.domain)) o)
  there None = refl
  there (Some h) = refl

  born : (b : Option Birth) (d : ℕ) → option_map (λ (h : NodeFacts). h.domain) (option_and_then (λ (b : Birth). slice_get nodes b.parent) b) ≡ host_from nodes (Some (b, d))
  born None d = refl
  born (Some b) d = there (slice_get nodes b.parent)

  by : (o : Option NodeFacts) → option_map (λ (h : NodeFacts). h.domain) (option_and_then (λ (n : NodeFacts). option_and_then (λ (b : Birth). slice_get nodes b.parent) n.birth) o)
      ≡ host_from nodes (option_map (λ (n : NodeFacts). (n.birth, n.domain)) o)
  by None = refl
  by (Some n) = born n.birth n.domain

-- a parent is one of the nodes
pub parent_within : (nodes : List NodeFacts) (k : ℕ) (n : NodeFacts) (b : Birth) → IsTree nodes → slice_get nodes k ≡ Some n → n.birth ≡ Some b → k < length nodes → b.parent < length nodes
parent_within nodes zero n b tree here born less = absurd (no_birth (subst (λ o. IsSomeAnd o (λ (x : NodeFacts). (x.birth ≡ None) × (x.domain ≡ 0))) here tree.root)) where
  no_birth : (n.birth ≡ None) × (n.domain ≡ 0) → ⊥
  no_birth h = let none = h.0 in absurd (cc)
parent_within nodes (suc k) n b tree here born less = let older = subst (λ o. IsSomeAnd o (λ (x : Birth). x.parent ≤ k)) born (tree.child k n here) in omega (arith, older, less)

host_stays : (t : TreeFacts) (i : ℕ) (n : NodeFacts) (deed : Deed) (r : ℕ) → IsTree t.nodes → slice_get t.nodes i ≡ Some n → r < length t.nodes
    → host_from (tree_after t i n deed).nodes (place (tree_after t i n deed).nodes r) ≡ host_from t.nodes (place t.nodes r)
host_stays t i n deed r tree here less = ap (host_from (tree_after t i n deed).nodes) (acted_place t i n deed r here less) ∙ by (slice_get t.nodes r) refl where
  born : (m : NodeFacts) → slice_get t.nodes r ≡ Some m → (b : Option Birth) → m.birth ≡ b → host_from (tree_after t i n deed).nodes (Some (b, m.domain)) ≡ host_from t.nodes (Some (b, m.domain))
  born m at None is = refl
  born m at (Some b) is = ap (option_map (λ (p : Option Birth × ℕ). p.1)) (acted_place t i n deed b.parent here (parent_within t.nodes r m b tree at is less))

  by : (o : Option NodeFacts) → slice_get t.nodes r ≡ o → host_from (tree_after t i n deed).nodes (option_map (λ (x : NodeFacts). (x.birth, x.domain)) o) ≡ host_from t.nodes (option_map (λ (x : NodeFacts). (x.birth, x.domain)) o)
  by None at = refl
  by (Some m) at = born m at m.birth refl

-- a base by the domain of the host
abbrev base_with : State → Option ℕ → Option BaseFacts
base_with s o = option_and_then (λ d. option_map (λ (settings : Settings). record { settings = settings; accepted = s.accepted }) (settings_for s.decisions d)) o

base_is : (s : State) (r : ℕ) → base_of s r ≡ base_with s (option_map (λ (h : NodeFacts). h.domain) (host_node s.tree.nodes r))
base_is s r = by (host_node s.tree.nodes r) where
  by : (o : Option NodeFacts) → option_and_then (λ (host : NodeFacts). option_map (λ (settings : Settings). record { settings = settings; accepted = s.accepted }) (settings_for s.decisions host.domain)) o
      ≡ base_with s (option_map (λ (h : NodeFacts). h.domain) o)
  by None = refl
  by (Some h) = refl

-- a state with the same decisions and accepted participants has the base that it had
pub base_stays : (s u : State) (i : ℕ) (n : NodeFacts) (deed : Deed) (r : ℕ) → IsTree s.tree.nodes → slice_get s.tree.nodes i ≡ Some n → r < length s.tree.nodes
    → tree_after s.tree i n deed ≡ u.tree → u.decisions ≡ s.decisions → u.accepted ≡ s.accepted → base_of u r ≡ base_of s r
base_stays s u i n deed r tree here less is decisions accepted =
    base_is u r
    ∙ (ap (base_with u) (host_is u.tree.nodes r ∙ (subst (λ (t : TreeFacts). host_from t.nodes (place t.nodes r) ≡ host_from s.tree.nodes (place s.tree.nodes r)) is (host_stays s.tree i n deed r tree here less) ∙ sym (host_is s.tree.nodes r)))
    ∙ (same (option_map (λ (h : NodeFacts). h.domain) (host_node s.tree.nodes r)) ∙ sym (base_is s r))) where
      same : (o : Option ℕ) → base_with u o ≡ base_with s o
      same None = refl
      same (Some d) = ap (λ ds. option_map (λ (settings : Settings). record { settings = settings; accepted = u.accepted }) (settings_for ds d)) decisions
          ∙ ap (λ xs. option_map (λ (settings : Settings). record { settings = settings; accepted = xs }) (settings_for s.decisions d)) accepted
