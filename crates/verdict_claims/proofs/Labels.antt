-- Each label of a domain's forest tells the node at its path.
use Rattle.std.proofs.Common.{◌≡◌, ℕ, suc, ◌+◌, Bool, true, false, List, [], ◌∷◌, ◌++◌, Option, Some, None, slice_get, refl, ap, subst, arith}
use Rattle.std.specs.Prelude.{◌==◌, IfSome, option_map, option_and_then, unwrap_or, if◌then◌else◌}
use Rattle.std.proofs.lemmas.Option.{same_Some, option_and_then_some}
use Rattle.std.specs.List.{AllByRecursion}
use Rattle.sysmem_tree.specs.declared.state.NodeKind.{NodeKind}
use Rattle.sysmem_tree.specs.declared.state.NodeKind.TheVariants as kinds
use Rattle.sysmem_tree.specs.Forest.{Forest, Empty, Plain, Group, each, kids_else_rest, choices, settled}
use Rattle.sysmem_tree.specs.Laws.{by_both}
use Rattle.verdict_claims.specs.Asked.{asks_at}
use Rattle.sysmem_tree.specs.Node.{NodeFacts}
use Rattle.sysmem_tree.specs.Nodes.{IsTree, ordinal_under}
use Rattle.sysmem_tree.specs.Path.{node_at}
use Rattle.sysmem_tree.specs.Selection.{after, settled_by}
use Rattle.sysmem_tree.specs.Shape.{Member, by_path, kid_of, before, tree_of, kids_from, rooted, forest_of}
use Rattle.sysmem_tree.proofs.CallerLemmas.{all_mapped, all_at, led_kid, is_under}

module _ {A : Type 0} (P : A → Type 0) where
  -- what all labels of a forest have
  abbrev pub AllIn : Forest A → Type 0
  AllIn Empty = Unit {0}
  AllIn (Plain n kids rest) = P n × AllIn kids × AllIn rest
  AllIn (Group n kids rest) = P n × AllIn kids × AllIn rest

  in_each : (d : Forest A) → AllIn d → AllByRecursion AllIn (each d)
  in_each Empty all = tt
  in_each (Plain n kids rest) all = ((all.0, all.1, tt), in_each rest all.2)
  in_each (Group n kids rest) all = ((all.0, all.1, tt), in_each rest all.2)

  in_either : (n : A) (kids rest : Forest A) (ks rs : Option (List (Forest A))) → P n → AllIn kids → AllIn rest → IfSome ks (AllByRecursion AllIn) → IfSome rs (AllByRecursion AllIn)
      → IfSome (kids_else_rest (λ k. Plain n k rest) (λ r. Plain n kids r) ks rs) (AllByRecursion AllIn)
  in_either n kids rest (Some ks) rs p a b hk hr = all_mapped AllIn AllIn (λ k. Plain n k rest) ks (λ k h. (p, h, b)) hk
  in_either n kids rest None (Some rs) p a b hk hr = all_mapped AllIn AllIn (λ r. Plain n kids r) rs (λ r h. (p, a, h)) hr
  in_either n kids rest None None p a b hk hr = tt

  in_choices : (d : Forest A) → AllIn d → IfSome (choices d) (AllByRecursion AllIn)
  in_choices Empty all = tt
  in_choices (Plain n kids rest) all = in_either n kids rest (choices kids) (choices rest) all.0 all.1 all.2 (in_choices kids all.1) (in_choices rest all.2)
  in_choices (Group n kids rest) all = all_mapped AllIn AllIn (λ kid. Plain n kid rest) (each kids) (λ kid h. (all.0, h, all.2)) (in_each kids all.1)

  one_choice : (c : ℕ) (o : Option (List (Forest A))) (e : Forest A) → IfSome o (AllByRecursion AllIn) → option_and_then (λ es. slice_get es c) o ≡ Some e → AllIn e
  one_choice c None e all is = absurd (cc)
  one_choice c (Some es) e all is = all_at AllIn es c e is all

  pub in_after : (cs : List ℕ) (d e : Forest A) → AllIn d → after d cs ≡ Some e → AllIn e
  in_after [] d e all is = subst AllIn (same_Some d e is) all
  in_after (c ∷ cs) d e all is = option_and_then_some (λ x. after x cs) (option_and_then (λ es. slice_get es c) (choices d)) e is
      (λ x one on. in_after cs x e (one_choice c (choices d) x (in_choices d all) one) on)

  pub both_all : (xs ys : List A) → AllByRecursion P xs → AllByRecursion P ys → AllByRecursion P (xs ++ ys)
  both_all [] ys a b = b
  both_all (x ∷ xs) ys a b = (a.0, both_all xs ys a.1 b)

  pub in_settled : (d : Forest A) → AllIn d → AllByRecursion P (settled d)
  in_settled Empty all = tt
  in_settled (Plain n kids rest) all = (all.0, both_all (settled kids) (settled rest) (in_settled kids all.1) (in_settled rest all.2))
  in_settled (Group n kids rest) all = (all.0, in_settled rest all.2)

  -- what all labels have, all that choices settle has
  pub in_settled_by : (d : Forest A) (cs : List ℕ) → AllIn d → AllByRecursion P (unwrap_or (settled_by d cs) [])
  in_settled_by d cs all = by (after d cs) refl where
    by : (o : Option (Forest A)) → after d cs ≡ o → AllByRecursion P (unwrap_or (option_map settled o) [])
    by None is = tt
    by (Some e) is = in_settled e (in_after cs d e all is)

  pub in_tree : (kind : NodeKind) (n : A) (kids rest : Forest A) → P n → AllIn kids → AllIn rest → AllIn (tree_of kind n kids rest)
  in_tree kinds.Token n kids rest p a b = (p, a, b)
  in_tree kinds.Collection n kids rest p a b = (p, a, b)
  in_tree kinds.Group n kids rest p a b = (p, a, b)

-- the member's path leads to the number's node, which has its constraints and shows as it
pub record IsLabel (nodes : List NodeFacts) (l : ℕ × Member) : Type 0 where
  pub leads : node_at nodes l.1.path ≡ Some l.0
  pub asks : asks_at nodes l.0 ≡ l.1.constraints
  pub shows : option_map (by_path l.0 l.1.path) (slice_get nodes l.0) ≡ Some l.1

label_is : (all : List NodeFacts) (i : ℕ) (n : NodeFacts) (path : List ℕ) → slice_get all i ≡ Some n → node_at all path ≡ Some i → IsLabel all (by_both i path n)
label_is all i n path here leads = record {
  leads = leads;
  asks = ap (option_and_then (λ (x : NodeFacts). x.constraints)) here;
  shows = ap (option_map (by_path i path)) here;
}

-- a kid has its ordinal under its parent
kid_under : (domain p o : ℕ) (n : NodeFacts) → kid_of domain p n ≡ Some o → ordinal_under p n.birth ≡ Some o
kid_under domain p o n is = by (n.domain == domain) is where
  by : (t : Bool) → (if t then ordinal_under p n.birth else None) ≡ Some o → ordinal_under p n.birth ≡ Some o
  by true is = is
  by false is = absurd (cc)

module _ (all : List NodeFacts) (tree : IsTree all) (domain : ℕ) where
  kids_are : (i : ℕ) (nodes : List NodeFacts) → ((m : ℕ) (n : NodeFacts) → slice_get nodes m ≡ Some n → slice_get all (i + m) ≡ Some n)
      → (p : ℕ) (path : List ℕ) → node_at all path ≡ Some p → AllIn (IsLabel all) (kids_from by_both domain i nodes p path)
  kids_are i [] front p path leads = tt
  kids_are i (n ∷ nodes) front p path leads =
      at (kids_are (i + 1) nodes (λ m x here. let shift : i + suc m ≡ (i + 1) + m = omega arith in subst (λ k. slice_get all k ≡ Some x) shift (front (suc m) x here)))
      (kid_of domain p n) refl where
        zeroed : i + 0 ≡ i
        zeroed = omega arith

        here : slice_get all i ≡ Some n
        here = subst (λ k. slice_get all k ≡ Some n) zeroed (front 0 n refl)

        at : ((p : ℕ) (path : List ℕ) → node_at all path ≡ Some p → AllIn (IsLabel all) (kids_from by_both domain (i + 1) nodes p path)) → (o : Option ℕ) → kid_of domain p n ≡ o
            → AllIn (IsLabel all) (before o (λ o. tree_of n.state.kind (by_both i (path ++ o ∷ []) n) (kids_from by_both domain (i + 1) nodes i (path ++ o ∷ []))) (kids_from by_both domain (i + 1) nodes p path))
        at rest None is = rest p path leads
        at rest (Some o) is =
            let on : node_at all (path ++ o ∷ []) ≡ Some i =
            led_kid all tree path p i n (record { parent = p; ordinal = o }) leads here (is_under p o n.birth (kid_under domain p o n is)) refl in
            in_tree (IsLabel all) n.state.kind (by_both i (path ++ o ∷ []) n) (kids_from by_both domain (i + 1) nodes i (path ++ o ∷ [])) (kids_from by_both domain (i + 1) nodes p path)
            (label_is all i n (path ++ o ∷ []) here on) (rest i (path ++ o ∷ []) on) (rest p path leads)

-- the labels of a domain's forest
pub labels_are : (nodes : List NodeFacts) (r : ℕ) (path : List ℕ) → IsTree nodes → node_at nodes path ≡ Some r → AllIn (IsLabel nodes) (forest_of by_both nodes r path)
labels_are nodes r path tree leads = by (slice_get nodes r) refl where
  by : (o : Option NodeFacts) → slice_get nodes r ≡ o → AllIn (IsLabel nodes) (rooted by_both nodes r path o)
  by None is = tt
  by (Some n) is = in_tree (IsLabel nodes) n.state.kind (by_both r path n) (kids_from by_both r 0 nodes r path) Empty (label_is nodes r n path is leads)
      (kids_are nodes tree r 0 nodes (λ m x here. let z : m ≡ 0 + m = omega arith in subst (λ k. slice_get nodes k ≡ Some x) z here) r path leads) tt
