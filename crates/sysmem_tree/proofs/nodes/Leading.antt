-- What the ordinals of a path lead to, one by one.
use Rattle.std.proofs.Common.{◌≡◌, ℕ, ◌+◌, ◌-◌, ◌<◌, List, ◌∷◌, length, drop, get_or, Option, Some, None, slice_get, refl, sym, ◌∙◌, ap, arith}
use Rattle.std.specs.Prelude.{option_and_then}
use Rattle.std.proofs.lemmas.List.{at_drop_more}
use Rattle.std.proofs.lemmas.Option.{none-some}
use Rattle.sysmem_tree.specs.declared.node.Birth.{Birth}
use Rattle.sysmem_tree.specs.Node.{NodeFacts}
use Rattle.sysmem_tree.specs.Path.{child_of, led_to}
use Rattle.sysmem_tree.specs.Nodes.{IsTree}
use Rattle.sysmem_tree.proofs.nodes.Kids.{Distinct, parent_of}
use Rattle.sysmem_tree.proofs.forests.Linking.{get_dropped}
use Rattle.sysmem_tree.proofs.nodes.Ways.{child_born, child_found, distinct}

-- no two of the nodes from number i on are of one birth
distinct_from : (nodes : List NodeFacts) (i : ℕ) → IsTree nodes → Distinct (drop i nodes)
distinct_from nodes i tree j k m n at_j at_k same =
    let is = distinct nodes tree (i + j) (i + k) m n (sym (get_dropped nodes i j) ∙ at_j) (sym (get_dropped nodes i k) ∙ at_k) same in
    omega (arith, is)

-- a child that is found among the nodes from number i on is the child
pub found_from : (nodes : List NodeFacts) (i parent ordinal k : ℕ) → IsTree nodes → child_of (drop i nodes) parent ordinal ≡ Some k
    → child_of nodes parent ordinal ≡ Some (i + k)
found_from nodes i parent ordinal k tree is =
    let (n, here, born) = child_born (drop i nodes) parent ordinal k is in
    child_found nodes (i + k) n (record { parent = parent; ordinal = ordinal }) (distinct nodes tree) (sym (get_dropped nodes i k) ∙ here) born

-- and a child that isn't behind its parent is nowhere
pub none_behind : (nodes : List NodeFacts) (parent ordinal : ℕ) → IsTree nodes → child_of (drop (parent + 1) nodes) parent ordinal ≡ None
    → None ≡ child_of nodes parent ordinal
none_behind nodes parent ordinal tree none = sym (by (child_of nodes parent ordinal) refl) where
  by : (o : Option ℕ) → child_of nodes parent ordinal ≡ o → o ≡ None
  by None is = refl
  by (Some c) is =
      let (n, here, born) = child_born nodes parent ordinal c is in
      let older = parent_of nodes tree c n (record { parent = parent; ordinal = ordinal }) here born in
      let up : parent + 1 + (c - (parent + 1)) ≡ c = omega (arith, older) in
      let there : slice_get (drop (parent + 1) nodes) (c - (parent + 1)) ≡ Some n = get_dropped nodes (parent + 1) (c - (parent + 1)) ∙ (ap (slice_get nodes) up ∙ here) in
      let found = child_found (drop (parent + 1) nodes) (c - (parent + 1)) n (record { parent = parent; ordinal = ordinal }) (distinct_from nodes (parent + 1) tree) there born in
      absurd (none-some (c - (parent + 1)) (sym none ∙ found))

-- one step on, the rest leads to the same node
pub led_on : (nodes : List NodeFacts) (path : List ℕ) (number child at : ℕ) → at < length path → child_of nodes number (get_or path at 0) ≡ Some child
    → led_to nodes child (drop (at + 1) path) ≡ led_to nodes number (drop at path)
led_on nodes path number child at within is =
    sym (at_drop_more (led_to nodes number) path at 0 within ∙ ap (λ o. option_and_then (λ c. led_to nodes c (drop (at + 1) path)) o) is)

-- without a child no node is there
pub led_off : (nodes : List NodeFacts) (path : List ℕ) (number at : ℕ) → at < length path → child_of nodes number (get_or path at 0) ≡ None
    → None ≡ led_to nodes number (drop at path)
led_off nodes path number at within is =
    sym (at_drop_more (led_to nodes number) path at 0 within ∙ ap (λ o. option_and_then (λ c. led_to nodes c (drop (at + 1) path)) o) is)

-- from a node's parent its ordinal leads to it, and on
pub led_up : (nodes : List NodeFacts) (k : ℕ) (n : NodeFacts) (b : Birth) (rest : List ℕ) (o : Option ℕ) → IsTree nodes → slice_get nodes k ≡ Some n → n.birth ≡ Some b
    → led_to nodes k rest ≡ o → led_to nodes b.parent (b.ordinal ∷ rest) ≡ o
led_up nodes k n b rest o tree here is leads =
    ap (λ c. option_and_then (λ child. led_to nodes child rest) c) (child_found nodes k n b (distinct nodes tree) here is) ∙ leads
