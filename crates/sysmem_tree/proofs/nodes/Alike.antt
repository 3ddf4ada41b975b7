-- Nodes that differ only in whether a decision left them out.
use Rattle.std.proofs.Common.{◌≡◌, ℕ, zero, suc, ◌+◌, ◌≤◌, ◌==◌, ◌&&◌, not, List, [], ◌∷◌, length, Option, Some, None, slice_get, refl, sym, ◌∙◌, ap, subst, arith, inl, inr}
use Rattle.std.specs.Prelude.{IsSomeAnd}
use Rattle.std.proofs.lemmas.Option.{same_Some, none-some}
use Rattle.list_lemmas.proofs.CallerLemmas.{slice_get_some}
use Rattle.sysmem_tree.specs.declared.node.Birth.{Birth}
use Rattle.sysmem_tree.specs.declared.state.NodeState.{NodeState}
use Rattle.sysmem_tree.specs.Domain.{TreeFacts, is_complete}
use Rattle.sysmem_tree.specs.Node.{NodeFacts, is_awaited}
use Rattle.sysmem_tree.specs.Nodes.{ordinals, count_from, IsPlaced, IsTree}
use Rattle.sysmem_tree.specs.Path.{node_at, Shown, shown_of, at_path}
use Rattle.sysmem_tree.specs.Shape.{members_of}
use Rattle.sysmem_tree.specs.Tree.{left_out_but, decided}
use Rattle.sysmem_tree.proofs.nodes.Places.{there, put}
use Rattle.sysmem_tree.proofs.steps.Steps.{path_stays, node_within, at_node, at_nowhere}

abbrev pub Same : NodeFacts → NodeFacts → Type 0
Same x y = (x.birth ≡ y.birth) × (x.domain ≡ y.domain) × (x.state ≡ y.state) × (x.constraints ≡ y.constraints)

same_back : (x y : NodeFacts) → Same x y → Same y x
same_back x y s = (sym s.0, sym s.1, sym s.2, sym s.3)

pub record Alike (xs ys : List NodeFacts) : Type 0 where
  pub long : length ys ≡ length xs
  pub forth : (k : ℕ) (x : NodeFacts) → slice_get xs k ≡ Some x → (y : NodeFacts) × (slice_get ys k ≡ Some y) × Same x y
  pub back : (k : ℕ) (y : NodeFacts) → slice_get ys k ≡ Some y → (x : NodeFacts) × (slice_get xs k ≡ Some x) × Same x y
  pub kids : (p : ℕ) → ordinals p ys ≡ ordinals p xs
  pub complete : (r : ℕ) → is_complete ys r ≡ is_complete xs r

-- a decision leaves the nodes alike
module _ (members : List ℕ) (r : ℕ) where
  left_long : (i : ℕ) (nodes : List NodeFacts) → length (left_out_but members r i nodes) ≡ length nodes
  left_long i [] = refl
  left_long i (n ∷ nodes) = ap suc (left_long (i + 1) nodes)

  left_forth : (i : ℕ) (nodes : List NodeFacts) (k : ℕ) (x : NodeFacts) → slice_get nodes k ≡ Some x → (y : NodeFacts) × (slice_get (left_out_but members r i nodes) k ≡ Some y) × Same x y
  left_forth i [] k x read = absurd (cc)
  left_forth i (n ∷ nodes) zero x read = let is : n ≡ x = same_Some n x read in
      (_, refl, (sym (ap (λ (z : NodeFacts). z.birth) is), sym (ap (λ (z : NodeFacts). z.domain) is), sym (ap (λ (z : NodeFacts). z.state) is), sym (ap (λ (z : NodeFacts). z.constraints) is)))
  left_forth i (n ∷ nodes) (suc k) x read = left_forth (i + 1) nodes k x read

  left_back : (i : ℕ) (nodes : List NodeFacts) (k : ℕ) (y : NodeFacts) → slice_get (left_out_but members r i nodes) k ≡ Some y → (x : NodeFacts) × (slice_get nodes k ≡ Some x) × Same x y
  left_back i [] k y read = absurd (cc)
  left_back i (n ∷ nodes) zero y read =
      let e = same_Some _ y read in (n, refl, (ap (λ (z : NodeFacts). z.birth) e, ap (λ (z : NodeFacts). z.domain) e, ap (λ (z : NodeFacts). z.state) e, ap (λ (z : NodeFacts). z.constraints) e))
  left_back i (n ∷ nodes) (suc k) y read = left_back (i + 1) nodes k y read

  left_kids : (i : ℕ) (nodes : List NodeFacts) (p : ℕ) → ordinals p (left_out_but members r i nodes) ≡ ordinals p nodes
  left_kids i [] p = refl
  left_kids i (n ∷ nodes) p = rw (left_kids (i + 1) nodes p) refl

  left_complete : (i : ℕ) (nodes : List NodeFacts) (d : ℕ) → is_complete (left_out_but members r i nodes) d ≡ is_complete nodes d
  left_complete i [] d = refl
  left_complete i (n ∷ nodes) d = ap (λ b. not ((n.domain == d) && is_awaited n.state) && b) (left_complete (i + 1) nodes d)

pub alike_itself : (nodes : List NodeFacts) → Alike nodes nodes
alike_itself nodes = record {
  long = refl;
  forth = λ k x read. (x, read, (refl, refl, refl, refl));
  back = λ k x read. (x, read, (refl, refl, refl, refl));
  kids = λ p. refl;
  complete = λ r. refl;
}

pub decided_alike : (t : TreeFacts) (r : ℕ) (members : Option (List ℕ)) → Alike t.nodes (decided t r members).nodes
decided_alike t r None = alike_itself t.nodes
decided_alike t r (Some cs) = record {
  long = left_long (members_of t.nodes r cs) r 0 t.nodes;
  forth = left_forth (members_of t.nodes r cs) r 0 t.nodes;
  back = left_back (members_of t.nodes r cs) r 0 t.nodes;
  kids = left_kids (members_of t.nodes r cs) r 0 t.nodes;
  complete = left_complete (members_of t.nodes r cs) r 0 t.nodes;
}

-- what is alike to a tree is one
module _ (xs ys : List NodeFacts) (alike : Alike xs ys) (tree : IsTree xs) where
  child : (k : ℕ) (y : NodeFacts) → slice_get ys (suc k) ≡ Some y → IsSomeAnd y.birth (λ b. b.parent ≤ k)
  child k y read = let (x, at, same) = alike.back (suc k) y read in subst (λ o. IsSomeAnd o (λ (b : Birth). b.parent ≤ k)) same.0 (tree.child k x at)

  placed : (k : ℕ) (y parent : NodeFacts) (b : Birth) → slice_get ys k ≡ Some y → y.birth ≡ Some b → slice_get ys b.parent ≡ Some parent → IsPlaced k y parent
  placed k y parent b read is up =
      let (x, at, same) = alike.back k y read in
      let (p, there', home) = alike.back b.parent parent up in
      elim (tree.placed k x p b at (same.0 ∙ is) there') [
        | inl kin ↦ inl (sym same.1 ∙ (kin ∙ home.1))
        | inr root ↦ inr (sym same.1 ∙ root.0, sym (ap (λ (s : NodeState). s.kind) home.2) ∙ root.1)
      ]

  pub alike_tree : IsTree ys
  alike_tree = record {
    few = omega (arith, alike.long, tree.few);
    root =
        let (r, at, root) = there (λ (z : NodeFacts). (z.birth ≡ None) × (z.domain ≡ 0)) (slice_get xs 0) tree.root in
        let (y, now, same) = alike.forth 0 r at in
        put (λ (z : NodeFacts). (z.birth ≡ None) × (z.domain ≡ 0)) (slice_get ys 0) y now (sym same.0 ∙ root.0, sym same.1 ∙ root.1);
    child = child;
    numbered = λ i y read. (let (x, at, same) = alike.back i y read in alike.kids i ∙ (tree.numbered i x at ∙ ap (λ (s : NodeState). count_from 0 s.children) same.2));
    placed = placed;
  }

  births : (k : ℕ) (x : NodeFacts) → slice_get xs k ≡ Some x → (y : NodeFacts) × (slice_get ys k ≡ Some y) × (y.birth ≡ x.birth)
  births k x read = let (y, at, same) = alike.forth k x read in (y, at, sym same.0)

  births_back : (k : ℕ) (y : NodeFacts) → slice_get ys k ≡ Some y → (x : NodeFacts) × (slice_get xs k ≡ Some x) × (x.birth ≡ y.birth)
  births_back k y read = let (x, at, same) = alike.back k y read in (x, at, same.0)

  node_by : (q : List ℕ) (o : Option ℕ) → node_at ys q ≡ o → (u : Option ℕ) → node_at xs q ≡ u → o ≡ u
  node_by q o e (Some k) is = sym e ∙ path_stays xs ys alike_tree births q 0 k is
  node_by q None e None is = refl
  node_by q (Some k) e None is = absurd (none-some k (sym is ∙ path_stays ys xs tree births_back q 0 k e))

  pub alike_node : (q : List ℕ) → node_at ys q ≡ node_at xs q
  alike_node q = node_by q (node_at ys q) refl (node_at xs q) refl

  map_by : (q : List ℕ) (u : Option ℕ) → node_at xs q ≡ u → at_path ys q ≡ at_path xs q
  map_by q None is = at_nowhere ys q (alike_node q ∙ is) ∙ sym (at_nowhere xs q is)
  map_by q (Some k) is =
      let (x, at) = slice_get_some xs k (node_within xs tree q k is) in
      let (y, now, same) = alike.forth k x at in
      let look : shown_of k y ≡ shown_of k x =
      ap (λ (s : NodeState). let z : Shown = record { state = s; constraints = y.constraints; is_domain_root = y.domain == k } in z) (sym same.2)
      ∙ (ap (λ c. let z : Shown = record { state = x.state; constraints = c; is_domain_root = y.domain == k } in z) (sym same.3)
      ∙ ap (λ d. let z : Shown = record { state = x.state; constraints = x.constraints; is_domain_root = d == k } in z) (sym same.1)) in
      at_node ys q k y (alike_node q ∙ is) now ∙ (ap (λ z. Some z) look ∙ sym (at_node xs q k x is at))

  pub alike_map : (q : List ℕ) → at_path ys q ≡ at_path xs q
  alike_map q = map_by q (node_at xs q) refl

-- a decision leaves a tree
pub decided_tree : (t : TreeFacts) (r : ℕ) (choices : Option (List ℕ)) → IsTree t.nodes → IsTree (decided t r choices).nodes
decided_tree t r choices tree = alike_tree t.nodes (decided t r choices).nodes (decided_alike t r choices) tree
