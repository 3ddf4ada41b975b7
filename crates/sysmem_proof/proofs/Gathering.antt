-- Which nodes a walk over a layout gives, and those that choices
-- settle, one choice after the other.
use Rattle.std.proofs.Common.{◌≡◌, ◌<◌, ◌≤◌, ℕ, ◌+◌, List, [], ◌∷◌, ◌++◌, Option, Some, length, take, drop, get_or, refl, sym, ◌∙◌, ap, subst, arith, append_assoc, length-append}
use Rattle.std.specs.Prelude.{All, IsPermutation, MatchOption, option_map, unwrap_or}
use Rattle.std.proofs.lemmas.List.{take_more, take-append-drop}
use Rattle.std.proofs.lemmas.List.Sorted.{All-permutation, IsPermutation-refl, IsPermutation-sym, IsPermutation-trans, IsPermutation-append, length_permutation}
use Rattle.sysmem_tree.specs.declared.layout.Layout.{Layout}
use Rattle.sysmem_tree.specs.declared.open_groups.SettledNodes.{SettledNodes}
use Rattle.sysmem_tree.specs.Forest.{Forest, settled}
use Rattle.sysmem_tree.specs.Laws.{PrefixOfPrefix}
use Rattle.sysmem_tree.specs.LayoutLaws.{ChoiceSettlesShare}
use Rattle.sysmem_tree.specs.Members.{AreItsNodes}
use Rattle.sysmem_tree.specs.Node.{NodeFacts}
use Rattle.sysmem_tree.specs.Nodes.{HasNode}
use Rattle.sysmem_tree.specs.OpenGroups.{HasLeft, IsChildPlace, IsFirstOpen, share_of}
use Rattle.sysmem_tree.specs.Selection.{after, IsPrefix}
use Rattle.sysmem_tree.specs.Shape.{by_number, forest_of, members_of}
use Rattle.sysmem_tree.proofs.CallerLemmas.{few_different, named_there}
use Rattle.list_lemmas.proofs.CallerLemmas.{of_some}

-- what is left of a walk after so many steps, beside what was taken
pub record IsTaken (layout : Layout) (old now : List ℕ) (walk : SettledNodes) (steps : ℕ) (ns : List ℕ) : Type 0 where
  pub rest : List ℕ
  pub same : old ++ ns ≡ now ++ rest
  pub left : HasLeft layout walk rest
  pub few : length now + length rest ≤ 128
  pub within : steps + length rest ≤ 128

abbrev pub Next : Layout → SettledNodes → SettledNodes → Option ℕ → Type 0
Next layout walk walk' o = (ns : List ℕ) → HasLeft layout walk ns → MatchOption o ((ns ≡ []) × HasLeft layout walk' []) (λ node. (rest : List ℕ) × (ns ≡ node ∷ rest) × HasLeft layout walk' rest)

pub take_one : (layout : Layout) (old now : List ℕ) (walk walk' : SettledNodes) (o : Option ℕ) (node steps : ℕ) (ns : List ℕ) → IsTaken layout old now walk steps ns
    → Next layout walk walk' o → o ≡ Some node → IsTaken layout old (now ++ node ∷ []) walk' (steps + 1) ns
take_one layout old now walk walk' o node steps ns t next one =
    let (more, is, left) = subst (λ x. MatchOption x ((t.rest ≡ []) × HasLeft layout walk' []) (λ node. (rest : List ℕ) × (t.rest ≡ node ∷ rest) × HasLeft layout walk' rest)) one (next t.rest t.left) in
    let long = ap length is in
    record {
      rest = more;
      same = t.same ∙ (ap (λ xs. now ++ xs) is ∙ sym (append_assoc now (node ∷ []) more));
      left = left;
      few = omega (arith, long, t.few, length-append now (node ∷ []));
      within = omega (arith, long, t.within);
    }

-- there is room for one more
pub room_for : (layout : Layout) (old now : List ℕ) (walk walk' : SettledNodes) (o : Option ℕ) (node steps : ℕ) (ns : List ℕ) → IsTaken layout old now walk steps ns
    → Next layout walk walk' o → o ≡ Some node → length now < 128
room_for layout old now walk walk' o node steps ns t next one =
    let (more, is, left) = subst (λ x. MatchOption x ((t.rest ≡ []) × HasLeft layout walk' []) (λ node. (rest : List ℕ) × (t.rest ≡ node ∷ rest) × HasLeft layout walk' rest)) one (next t.rest t.left) in
    let long = ap length is in omega (arith, long, t.few)

pub few_members : (nodes : List NodeFacts) (r : ℕ) (ns : List ℕ) → length nodes ≤ 128 → AreItsNodes nodes r ns → length ns ≤ 128
few_members nodes r ns few its =
    let less = few_different ns (length nodes) its.once (named_there nodes (λ n. n.domain ≡ r) ns its.own) in omega (arith, less, few)

-- the first of some choices, and one more, are a prefix where all are
pub prefix_more : PrefixOfPrefix → (d : Forest ℕ) (cs : List ℕ) (k : ℕ) → k < length cs → IsPrefix d cs → IsPrefix d (take k cs ++ get_or cs k 0 ∷ [])
prefix_more law d cs k less prefix =
    subst (IsPrefix d) (take_more cs k 0 less) (law d (take (k + 1) cs) (drop (k + 1) cs) (subst (IsPrefix d) (sym (take-append-drop (k + 1) cs)) prefix))

-- the nodes that some choices settle, and what is open then
pub record AreGathered (layout : Layout) (d : Forest ℕ) (cs : List ℕ) (ns : List ℕ) (group : Option ℕ) : Type 0 where
  pub left : Forest ℕ
  pub leads : after d cs ≡ Some left
  pub order : IsPermutation ns (settled left)
  pub first : IsFirstOpen layout d cs group

pub first_gathered : (layout : Layout) (d : Forest ℕ) (none ns : List ℕ) (group : Option ℕ) → none ≡ [] → ns ≡ none ++ settled d → IsFirstOpen layout d [] group → AreGathered layout d [] ns group
first_gathered layout d none ns group empty is first = record {
  left = d;
  leads = refl;
  order = subst (λ xs. IsPermutation xs (settled d)) (sym (is ∙ ap (λ xs. xs ++ settled d) empty)) (IsPermutation-refl (settled d));
  first = first;
}

module _ (layout : Layout) (d : Forest ℕ) (cs ns : List ℕ) (group : Option ℕ) (g : AreGathered layout d cs ns group) (law : ChoiceSettlesShare) (c at : ℕ) (child : IsChildPlace layout d cs c at) where
  -- one choice more
  more_order : IsPermutation (ns ++ share_of layout at) (settled (law layout d cs c at child).left)
  more_order =
      let s = law layout d cs c at child in
      IsPermutation-trans (ns ++ share_of layout at) (settled g.left ++ share_of layout at) (settled s.left)
      (IsPermutation-append ns (settled g.left) (share_of layout at) (share_of layout at) g.order (IsPermutation-refl (share_of layout at)))
      (of_some (λ x. IsPermutation (settled x ++ share_of layout at) (settled s.left)) (after d cs) g.left g.leads s.adds)

  pub more_gathered : (ms : List ℕ) (next : Option ℕ) → ms ≡ ns ++ share_of layout at → IsFirstOpen layout d (cs ++ c ∷ []) next → AreGathered layout d (cs ++ c ∷ []) ms next
  more_gathered ms next is first =
      let s = law layout d cs c at child in record {
        left = s.left;
        leads = s.leads;
        order = subst (λ xs. IsPermutation xs (settled s.left)) (sym is) more_order;
        first = first;
      }

  -- has room
  pub more_few : ((xs : List ℕ) (e : Forest ℕ) → after d xs ≡ Some e → length (settled e) ≤ 128) → length ns + length (share_of layout at) ≤ 128
  more_few few =
      let s = law layout d cs c at child in
      let long = length_permutation (ns ++ share_of layout at) (settled s.left) more_order in
      let f = few (cs ++ c ∷ []) s.left s.leads in omega (arith, long, f, length-append ns (share_of layout at))

-- at most 128 nodes are settled
pub few_settled : (nodes : List NodeFacts) (r : ℕ) → length nodes ≤ 128 → ((cs : List ℕ) → AreItsNodes nodes r (members_of nodes r cs)) → (cs : List ℕ) (e : Forest ℕ)
    → after (forest_of by_number nodes r []) cs ≡ Some e → length (settled e) ≤ 128
few_settled nodes r few its cs e leads =
    subst (λ ns. length ns ≤ 128) (ap (λ o. unwrap_or (option_map settled o) []) leads) (few_members nodes r (members_of nodes r cs) few (its cs))

-- those of all choices
pub all_gathered : (nodes : List NodeFacts) (r : ℕ) (layout : Layout) (cs ns : List ℕ) (group : Option ℕ) → AreGathered layout (forest_of by_number nodes r []) cs ns group → IsPermutation ns (members_of nodes r cs)
all_gathered nodes r layout cs ns group g = subst (IsPermutation ns) (sym (ap (λ o. unwrap_or (option_map settled o) []) g.leads)) g.order

pub members_there : (nodes : List NodeFacts) (r : ℕ) (cs ns : List ℕ) → AreItsNodes nodes r (members_of nodes r cs) → IsPermutation ns (members_of nodes r cs) → All (HasNode nodes) ns
members_there nodes r cs ns its order =
    All-permutation (HasNode nodes) (members_of nodes r cs) ns (IsPermutation-sym ns (members_of nodes r cs) order) (named_there nodes (λ n. n.domain ≡ r) (members_of nodes r cs) its.own)
