-- The participants of what was decided stay.
use Rattle.std.proofs.Common.{◌≡◌, ℕ, zero, suc, ◌+◌, Bool, List, [], ◌∷◌, ◌++◌, Option, Some, None, slice_get, refl, sym, ◌∙◌, ap, subst, arith}
use Rattle.std.specs.Prelude.{IfSome, filter, map, is_some, option_map, option_and_then, unwrap_or, if◌then◌else◌}
use Rattle.std.proofs.lemmas.List.Concat.{flat_map-cons}
use Rattle.std.proofs.lemmas.Option.{same_Some, option_and_then_some}
use Rattle.std.specs.List.{AllByRecursion}
use Rattle.sysmem_tree.specs.declared.state.NodeKind.{NodeKind}
use Rattle.sysmem_tree.specs.declared.state.NodeKind.TheVariants as kinds
use Rattle.sysmem_tree.specs.Forest.{Forest, Empty, Plain, Group, each, kids_else_rest, choices, settled, relabel}
use Rattle.sysmem_tree.specs.Laws.{by_both, AreOneForest, IsSameDomain}
use Rattle.sysmem_tree.specs.Node.{NodeFacts}
use Rattle.sysmem_tree.specs.Path.{path_of}
use Rattle.sysmem_tree.specs.Selection.{after, settled_by}
use Rattle.sysmem_tree.specs.Shape.{Member, kid_of, before, tree_of, kids_from, rooted, forest_of, members_of, participants_of}
use Rattle.verdict_claims.specs.Asked.{asks_at}
use Rattle.sysmem_alloc.specs.Decision.{DomainVerdict, choices_of}
use Rattle.sysmem_alloc.specs.State.{chosen_by, chosen_in}
use Rattle.sysmem_tree.proofs.CallerLemmas.{after_relabel, settled_relabel, all_mapped}
use Rattle.verdict_claims.proofs.CallerLemmas.{AllIn, in_after, in_settled, in_tree}

module _ {A : Type 0} (P : A → Type 0) where
  -- what all labels have, all that choices settle has
  pub in_settled_by : (d : Forest A) (cs : List ℕ) → AllIn P d → AllByRecursion P (unwrap_or (settled_by d cs) [])
  in_settled_by d cs all = by (after d cs) refl where
    by : (o : Option (Forest A)) → after d cs ≡ o → AllByRecursion P (unwrap_or (option_map settled o) [])
    by None is = tt
    by (Some e) is = in_settled P e (in_after P cs d e all is)

-- a label tells the constraints of its node
abbrev pub Tells : List NodeFacts → ℕ × Member → Type 0
Tells nodes l = asks_at nodes l.0 ≡ l.1.constraints

told : (all : List NodeFacts) (i : ℕ) (n : NodeFacts) (path : List ℕ) → slice_get all i ≡ Some n → Tells all (by_both i path n)
told all i n path here = ap (option_and_then (λ (x : NodeFacts). x.constraints)) here

kids_tell : (all : List NodeFacts) (domain i : ℕ) (nodes : List NodeFacts) → ((m : ℕ) (n : NodeFacts) → slice_get nodes m ≡ Some n → slice_get all (i + m) ≡ Some n)
    → (p : ℕ) (path : List ℕ) → AllIn (Tells all) (kids_from by_both domain i nodes p path)
kids_tell all domain i [] front p path = tt
kids_tell all domain i (n ∷ nodes) front p path =
    at (kids_tell all domain (i + 1) nodes (λ m x here. let shift : i + suc m ≡ (i + 1) + m = omega arith in subst (λ k. slice_get all k ≡ Some x) shift (front (suc m) x here)))
    (kid_of domain p n) where
      zeroed : i + 0 ≡ i
      zeroed = omega arith

      at : ((p : ℕ) (path : List ℕ) → AllIn (Tells all) (kids_from by_both domain (i + 1) nodes p path)) → (o : Option ℕ)
          → AllIn (Tells all) (before o (λ o. tree_of n.state.kind (by_both i (path ++ o ∷ []) n) (kids_from by_both domain (i + 1) nodes i (path ++ o ∷ []))) (kids_from by_both domain (i + 1) nodes p path))
      at rest None = rest p path
      at rest (Some o) =
          in_tree (Tells all) n.state.kind (by_both i (path ++ o ∷ []) n) (kids_from by_both domain (i + 1) nodes i (path ++ o ∷ [])) (kids_from by_both domain (i + 1) nodes p path)
          (told all i n (path ++ o ∷ []) (subst (λ k. slice_get all k ≡ Some n) zeroed (front 0 n refl))) (rest i (path ++ o ∷ [])) (rest p path)

labels_tell : (nodes : List NodeFacts) (r : ℕ) (path : List ℕ) → AllIn (Tells nodes) (forest_of by_both nodes r path)
labels_tell nodes r path = by (slice_get nodes r) refl where
  by : (o : Option NodeFacts) → slice_get nodes r ≡ o → AllIn (Tells nodes) (rooted by_both nodes r path o)
  by None is = tt
  by (Some n) is = in_tree (Tells nodes) n.state.kind (by_both r path n) (kids_from by_both r 0 nodes r path) Empty (told nodes r n path is)
      (kids_tell nodes r 0 nodes (λ m x here. let z : m ≡ 0 + m = omega arith in subst (λ k. slice_get nodes k ≡ Some x) z here) r path) tt

-- what choices settle, by both labels
abbrev both_of : List NodeFacts → ℕ → List ℕ → List (ℕ × Member)
both_of nodes r cs = unwrap_or (settled_by (forest_of by_both nodes r (path_of nodes r)) cs) []

numbers_settled : {A B : Type 0} (f : A → B) (d : Forest A) (cs : List ℕ) → unwrap_or (settled_by (relabel f d) cs) [] ≡ map f (unwrap_or (settled_by d cs) [])
numbers_settled {A} f d cs = ap (λ o. unwrap_or (option_map settled o) []) (after_relabel f cs d) ∙ by (after d cs) where
  by : (o : Option (Forest A)) → unwrap_or (option_map settled (option_map (relabel f) o)) [] ≡ map f (unwrap_or (option_map settled o) [])
  by None = refl
  by (Some e) = settled_relabel f e

members_both : (nodes : List NodeFacts) (r : ℕ) (cs : List ℕ) → AreOneForest nodes r → members_of nodes r cs ≡ map (λ (l : ℕ × Member). l.0) (both_of nodes r cs)
members_both nodes r cs one = ap (λ d. unwrap_or (settled_by d cs) []) (sym one.numbers) ∙ numbers_settled (λ (l : ℕ × Member). l.0) (forest_of by_both nodes r (path_of nodes r)) cs

-- filters by tests that agree
pub same_filter : (p q : ℕ → Bool) (xs : List ℕ) → AllByRecursion (λ x. p x ≡ q x) xs → filter p xs ≡ filter q xs
same_filter p q [] all = refl
same_filter p q (x ∷ xs) all = ap (λ b. if b then x ∷ filter p xs else filter p xs) all.0 ∙ ap (λ ys. if q x then x ∷ ys else ys) (same_filter p q xs all.1)

-- a selection of a domain that stays has the participants that it had
pub same_participants : (old new : List NodeFacts) (r : ℕ) (cs : List ℕ) → AreOneForest old r → IsSameDomain old new r → participants_of new r cs ≡ participants_of old r cs
same_participants old new r cs one same =
    ap (filter (λ i. is_some (asks_at new i))) (same.members cs)
    ∙ same_filter (λ i. is_some (asks_at new i)) (λ i. is_some (asks_at old i)) (members_of old r cs)
    (subst (AllByRecursion (λ i. is_some (asks_at new i) ≡ is_some (asks_at old i))) (sym (members_both old r cs one))
    (all_mapped (λ (l : ℕ × Member). Tells old l × Tells new l) (λ i. is_some (asks_at new i) ≡ is_some (asks_at old i)) (λ (l : ℕ × Member). l.0) (both_of old r cs)
    (λ l h. ap is_some (h.1 ∙ sym h.0)) (paired (both_of old r cs) (in_settled_by (Tells old) (forest_of by_both old r (path_of old r)) cs (labels_tell old r (path_of old r)))
    (in_settled_by (Tells new) (forest_of by_both old r (path_of old r)) cs (subst (AllIn (Tells new)) same.forest (labels_tell new r (path_of new r))))))) where
      paired : (ls : List (ℕ × Member)) → AllByRecursion (Tells old) ls → AllByRecursion (Tells new) ls → AllByRecursion (λ (l : ℕ × Member). Tells old l × Tells new l) ls
      paired [] a b = tt
      paired (l ∷ ls) a b = ((a.0, b.0), paired ls a.1 b.1)

-- so do all decisions of domains that stay
pub same_chosen : (old new : List NodeFacts) (ds : List DomainVerdict) → ((r : ℕ) → AreOneForest old r) → AllByRecursion (λ (d : DomainVerdict). IsSameDomain old new d.domain) ds → chosen_in new ds ≡ chosen_in old ds
same_chosen old new [] one all = refl
same_chosen old new (d ∷ ds) one all =
    flat_map-cons (chosen_by new) d ds ∙ (ap (λ xs. xs ++ chosen_in new ds) (by (choices_of d.verdict)) ∙ (ap (λ ys. chosen_by old d ++ ys) (same_chosen old new ds one all.1) ∙ sym (flat_map-cons (chosen_by old) d ds))) where
      by : (o : Option (List ℕ)) → unwrap_or (option_map (participants_of new d.domain) o) [] ≡ unwrap_or (option_map (participants_of old d.domain) o) []
      by None = refl
      by (Some cs) = same_participants old new d.domain cs (one d.domain) all.0
