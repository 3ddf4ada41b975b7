-- The forest of a domain under other labels.
use Rattle.std.proofs.Common.{◌≡◌, ℕ, ◌+◌, ◌++◌, List, [], ◌∷◌, Option, Some, None, slice_get, refl, ◌∙◌, ap}
use Rattle.sysmem_tree.specs.declared.state.NodeKind.{NodeKind}
use Rattle.sysmem_tree.specs.declared.state.NodeKind.TheVariants.{Token, Group, Collection}
use Rattle.sysmem_tree.specs.Forest.{Forest, Empty, relabel}
use Rattle.sysmem_tree.specs.Laws.{by_both, AreOneForest}
use Rattle.sysmem_tree.specs.Node.{NodeFacts}
use Rattle.sysmem_tree.specs.Path.{path_of}
use Rattle.sysmem_tree.specs.Shape.{Labels, Member, tree_of, kid_of, before, kids_from, rooted, by_number}

module _ {A B : Type 0} (g : A → B) where
  tree_relabel : (k : NodeKind) (l : A) (kids rest : Forest A) → relabel g (tree_of k l kids rest) ≡ tree_of k (g l) (relabel g kids) (relabel g rest)
  tree_relabel Token l kids rest = refl
  tree_relabel Group l kids rest = refl
  tree_relabel Collection l kids rest = refl

  before_relabel : (u : Option ℕ) (kid : ℕ → Forest A → Forest A) (kid' : ℕ → Forest B → Forest B) (rest : Forest A) (rest' : Forest B)
      → ((o : ℕ) → relabel g (kid o rest) ≡ kid' o rest') → relabel g rest ≡ rest' → relabel g (before u kid rest) ≡ before u kid' rest'
  before_relabel None kid kid' rest rest' k e = e
  before_relabel (Some o) kid kid' rest rest' k e = k o

  -- where labels go over into labels, whatever the paths, forests do
  module _ (f : Labels A) (h : Labels B) (same : (i : ℕ) (q q' : List ℕ) (n : NodeFacts) → g (f i q n) ≡ h i q' n) (d : ℕ) where
    kids_any : (xs : List NodeFacts) (s p : ℕ) (path path' : List ℕ) → relabel g (kids_from f d s xs p path) ≡ kids_from h d s xs p path'
    kids_any [] s p path path' = refl
    kids_any (x ∷ xs) s p path path' = before_relabel (kid_of d p x)
        (λ o. tree_of x.state.kind (f s (path ++ o ∷ []) x) (kids_from f d (s + 1) xs s (path ++ o ∷ [])))
        (λ o. tree_of x.state.kind (h s (path' ++ o ∷ []) x) (kids_from h d (s + 1) xs s (path' ++ o ∷ [])))
        _ _
        (λ o. tree_relabel x.state.kind (f s (path ++ o ∷ []) x) (kids_from f d (s + 1) xs s (path ++ o ∷ [])) (kids_from f d (s + 1) xs p path)
        ∙ (ap (λ l. tree_of x.state.kind l (relabel g (kids_from f d (s + 1) xs s (path ++ o ∷ []))) (relabel g (kids_from f d (s + 1) xs p path))) (same s (path ++ o ∷ []) (path' ++ o ∷ []) x)
        ∙ (ap (λ y. tree_of x.state.kind (h s (path' ++ o ∷ []) x) y (relabel g (kids_from f d (s + 1) xs p path))) (kids_any xs (s + 1) s (path ++ o ∷ []) (path' ++ o ∷ []))
        ∙ ap (λ y. tree_of x.state.kind (h s (path' ++ o ∷ []) x) (kids_from h d (s + 1) xs s (path' ++ o ∷ [])) y) (kids_any xs (s + 1) p path path'))))
        (kids_any xs (s + 1) p path path')

    rooted_any : (nodes : List NodeFacts) (path path' : List ℕ) (o : Option NodeFacts) → relabel g (rooted f nodes d path o) ≡ rooted h nodes d path' o
    rooted_any nodes path path' None = refl
    rooted_any nodes path path' (Some n) =
        tree_relabel n.state.kind (f d path n) (kids_from f d 0 nodes d path) Empty
        ∙ (ap (λ l. tree_of n.state.kind l (relabel g (kids_from f d 0 nodes d path)) Empty) (same d path path' n)
        ∙ ap (λ y. tree_of n.state.kind (h d path' n) y Empty) (kids_any nodes 0 d path path'))

  -- and so they do where the paths are the same
  module _ (f : Labels A) (d : ℕ) where
    abbrev Over : Labels B
    Over i q n = g (f i q n)

    kids_over : (xs : List NodeFacts) (s p : ℕ) (path : List ℕ) → relabel g (kids_from f d s xs p path) ≡ kids_from Over d s xs p path
    kids_over [] s p path = refl
    kids_over (x ∷ xs) s p path = before_relabel (kid_of d p x)
        (λ o. tree_of x.state.kind (f s (path ++ o ∷ []) x) (kids_from f d (s + 1) xs s (path ++ o ∷ [])))
        (λ o. tree_of x.state.kind (g (f s (path ++ o ∷ []) x)) (kids_from Over d (s + 1) xs s (path ++ o ∷ [])))
        _ _
        (λ o. tree_relabel x.state.kind (f s (path ++ o ∷ []) x) (kids_from f d (s + 1) xs s (path ++ o ∷ [])) (kids_from f d (s + 1) xs p path)
        ∙ (ap (λ y. tree_of x.state.kind (g (f s (path ++ o ∷ []) x)) y (relabel g (kids_from f d (s + 1) xs p path))) (kids_over xs (s + 1) s (path ++ o ∷ []))
        ∙ ap (λ y. tree_of x.state.kind (g (f s (path ++ o ∷ []) x)) (kids_from Over d (s + 1) xs s (path ++ o ∷ [])) y) (kids_over xs (s + 1) p path)))
        (kids_over xs (s + 1) p path)

    rooted_over : (nodes : List NodeFacts) (path : List ℕ) (o : Option NodeFacts) → relabel g (rooted f nodes d path o) ≡ rooted Over nodes d path o
    rooted_over nodes path None = refl
    rooted_over nodes path (Some n) =
        tree_relabel n.state.kind (f d path n) (kids_from f d 0 nodes d path) Empty ∙ ap (λ y. tree_of n.state.kind (g (f d path n)) y Empty) (kids_over nodes 0 d path)

pub one_forest : (nodes : List NodeFacts) (r : ℕ) → AreOneForest nodes r
one_forest nodes r = record {
  numbers = rooted_any (λ (l : ℕ × Member). l.0) by_both by_number (λ i q q' n. refl) r nodes (path_of nodes r) [] (slice_get nodes r);
  members = rooted_over (λ (l : ℕ × Member). l.1) by_both r nodes (path_of nodes r) (slice_get nodes r);
}
