-- What a walk over a layout gives, what names nodes, and where no choice is a prefix.
use Rattle.std.proofs.Common.{◌≡◌, ◌<◌, ℕ, List, [], ◌∷◌, ◌++◌, Option, Some, None, length, slice_get, refl, sym, ◌∙◌, ap, subst, arith}
use Rattle.std.specs.Prelude.{All, IsSome, IsSomeAnd, option_and_then, slice_index_or}
use Rattle.std.proofs.lemmas.Option.{same_Some, slice_get_within}
use Rattle.sysmem_tree.specs.declared.layout.Layout.{Layout}
use Rattle.sysmem_tree.specs.declared.layout.LayoutPlace.{LayoutPlace}
use Rattle.sysmem_tree.specs.Forest.{Forest}
use Rattle.sysmem_tree.specs.LayoutLaws.{NoneOpenIsSelection}
use Rattle.sysmem_tree.specs.Node.{NodeFacts}
use Rattle.sysmem_tree.specs.Nodes.{HasNode}
use Rattle.sysmem_tree.specs.OpenGroups.{WalksTo, IsFirstOpen, place_after}
use Rattle.sysmem_tree.specs.Selection.{after, IsPrefix}
use Rattle.sysmem_tree.proofs.selections.Selections.{after_more}

-- a walk gives one list of nodes
pub gives_same : (places : List LayoutPlace) (to : ℕ) (ns ms : List ℕ) (at : ℕ) → WalksTo places at to ns → WalksTo places at to ms → ns ≡ ms
gives_same places to [] [] at g h = refl
gives_same places to [] (m ∷ ms) at g h = absurd (omega (arith, g, h.0))
gives_same places to (n ∷ ns) [] at g h = absurd (omega (arith, g.0, h))
gives_same places to (n ∷ ns) (m ∷ ms) at g h =
    let (p, here, node, up, rest) = g.1 in
    let (q, here', node', up', rest') = h.1 in
    let same : q ≡ p = same_Some q p (sym here' ∙ here) in
    let tails = gives_same places to ns ms (place_after p at) rest (subst (λ (x : LayoutPlace). WalksTo places (place_after x at) to ms) same rest') in
    let heads : n ≡ m = sym node ∙ (ap (λ (x : LayoutPlace). x.node) (sym same) ∙ node') in
    ap (λ x. x ∷ ns) heads ∙ ap (λ xs. m ∷ xs) tails

-- nodes of which something is said are there
pub named_there : (nodes : List NodeFacts) (P : NodeFacts → Type 0) (ns : List ℕ) → All (λ i. IsSomeAnd (slice_get nodes i) P) ns → All (HasNode nodes) ns
named_there nodes P ns all k d less = by (slice_index_or ns k d) (slice_get nodes (slice_index_or ns k d)) refl (all k d less) where
  by : (i : ℕ) (o : Option NodeFacts) → slice_get nodes i ≡ o → IsSomeAnd o P → i < length nodes
  by i None is h = absurd h
  by i (Some n) is h = slice_get_within nodes i n is

-- where nothing is open, no choice is a prefix
pub some_open : (layout : Layout) (d : Forest ℕ) (cs : List ℕ) (c : ℕ) → NoneOpenIsSelection → IsPrefix d (cs ++ c ∷ []) → IsFirstOpen layout d cs None → ⊥
some_open layout d cs c law prefix open' =
    let w = law layout d cs None open' in
    let none : after w.left (c ∷ []) ≡ None = ap (λ o. option_and_then (λ e. after e []) (option_and_then (λ es. slice_get es c) o)) (w.whole.0 refl) in
    by (after d (cs ++ c ∷ [])) prefix (after_more cs (c ∷ []) d ∙ (ap (option_and_then (λ e. after e (c ∷ []))) w.leads ∙ none)) where
      by : (o : Option (Forest ℕ)) → IsSome o → o ≡ None → ⊥
      by None h e = absurd (cc)
      by (Some x) h e = absurd (cc)
