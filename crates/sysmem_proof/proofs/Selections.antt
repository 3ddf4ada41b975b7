-- Whether choices are a selection, one choice after the other, and how many selections there are.
use Rattle.std.proofs.Common.{◌≡◌, ◌<◌, ◌≤◌, ◌+◌, ◌*◌, Bool, true, false, not, is_some, ℕ, List, [], ◌∷◌, ◌++◌, Option, Some, None, length, map, take, get_or, min, refl, sym, ◌∙◌, ap, subst, arith}
use Rattle.std.specs.Prelude.{◌↔◌, IfSome, IsSome, option_map}
use Rattle.std.proofs.lemmas.Option.{same_Some}
use Rattle.sysmem_tree.specs.declared.layout.Layout.{Layout}
use Rattle.sysmem_tree.specs.Forest.{Forest, Empty, Plain, Group, choices, count, count_each, first_group, relabel}
use Rattle.sysmem_tree.specs.Laws.{AreOneForest, PrefixOfPrefix}
use Rattle.sysmem_tree.specs.LayoutLaws.{Both, ChildrenAreChoices, LeaveOneForest, NoneOpenIsSelection, number, member}
use Rattle.sysmem_tree.specs.Node.{NodeFacts}
use Rattle.sysmem_tree.specs.OpenGroups.{IsFirstOpen}
use Rattle.sysmem_tree.specs.Selection.{after, IsPrefix, IsSelection}
use Rattle.sysmem_tree.specs.Shape.{by_number, forest_of, shape_of}
use Rattle.sysmem_tree.proofs.CallerLemmas.{choices_relabel, some_open}
use Rattle.verdict_claims.specs.Fault.{AreFew, IsSelected}
use Rattle.sysmem_proof.proofs.Gathering.{prefix_more}
use Rattle.list_lemmas.proofs.CallerLemmas.{of_some}

-- other labels change no count
count_relabel : {A B : Type 0} (f : A → B) (d : Forest A) → (count (relabel f d) ≡ count d) × (count_each (relabel f d) ≡ count_each d)
count_relabel f Empty = (refl, refl)
count_relabel f (Plain n kids rest) =
    let (a, b) = count_relabel f kids in
    let (u, v) = count_relabel f rest in (ap (λ x. x * count (relabel f rest)) a ∙ ap (λ x. count kids * x) u, ap (λ x. x + count_each (relabel f rest)) a ∙ ap (λ x. count kids + x) v)
count_relabel f (Group n kids rest) =
    let (a, b) = count_relabel f kids in
    let (u, v) = count_relabel f rest in (
      ap (λ x. x * count (relabel f rest)) b ∙ ap (λ x. count_each kids * x) u,
      ap (λ x. x + count_each (relabel f rest)) b ∙ ap (λ x. count_each kids + x) v,
    )

-- a domain has as many selections by numbers as by its shape
pub same_count : (nodes : List NodeFacts) (r : ℕ) → AreOneForest nodes r → count (forest_of by_number nodes r []) ≡ count (shape_of nodes r)
same_count nodes r one = sym (ap count one.numbers) ∙ ((count_relabel (λ l. l.0) _).0 ∙ (sym (count_relabel (λ l. l.1) _).0 ∙ ap count one.members))

-- by what was counted
pub few_told : (nodes : List NodeFacts) (r counted : ℕ) → AreOneForest nodes r → counted ≡ min (count (forest_of by_number nodes r [])) 18446744073709551615 → counted ≤ 4096 → AreFew (shape_of nodes r)
few_told nodes r counted one is few = let same = same_count nodes r one in omega (arith, is, few, same)

pub many_told : (nodes : List NodeFacts) (r counted : ℕ) → AreOneForest nodes r → counted ≡ min (count (forest_of by_number nodes r [])) 18446744073709551615 → 4096 < counted → ¬ (AreFew (shape_of nodes r))
many_told nodes r counted one is many few = let same = same_count nodes r one in omega (arith, is, few, same, many)

-- choices are a selection
abbrev pub Selects : {A : Type 0} → Forest A → List ℕ → Type 0
Selects {A} d cs = (e : Forest A) × IsSelection d cs e

pub selects_prefix : {A : Type 0} (d : Forest A) (cs : List ℕ) → Selects d cs → IsPrefix d cs
selects_prefix d cs (e, s) = subst IsSome (sym s.leads) refl

module _ (layout : Layout) (d : Forest ℕ) (cs : List ℕ) (k : ℕ) (laws : PrefixOfPrefix) where
  -- where no group is left for a choice, they aren't
  pub none_for : NoneOpenIsSelection → IsFirstOpen layout d (take k cs) None → k < length cs → ¬ (Selects d cs)
  none_for law open' less s = some_open layout d (take k cs) (get_or cs k 0) law (prefix_more laws d cs k less (selects_prefix d cs s)) open'

  module _ (group : Option ℕ) (open' : IsFirstOpen layout d (take k cs) group) (none : NoneOpenIsSelection) (law : ChildrenAreChoices) (node children : ℕ)
      (told : IfSome (after d (take k cs)) (λ e. Some (node, children) ≡ first_group e)) where
    child_is : (c : ℕ) → IsPrefix d (take k cs ++ c ∷ []) ↔ (c < children)
    child_is c =
        let w = none layout d (take k cs) group open' in
        law d w.left (take k cs) c node children w.leads (sym (of_some (λ e. Some (node, children) ≡ first_group e) (after d (take k cs)) w.left w.leads told))

    -- where a choice is no child, they aren't
    pub no_child : k < length cs → children ≤ get_or cs k 0 → ¬ (Selects d cs)
    no_child less over s = let below = (child_is (get_or cs k 0)).0 (prefix_more laws d cs k less (selects_prefix d cs s)) in omega (arith, below, over)

    pub a_child : get_or cs k 0 < children → IsPrefix d (take k cs ++ get_or cs k 0 ∷ [])
    a_child less = (child_is (get_or cs k 0)).1 less

-- where all choices are made, they are a selection where no group is left
pub whole_where : (layout : Layout) (d : Forest ℕ) (cs : List ℕ) (group : Option ℕ) → NoneOpenIsSelection → IsFirstOpen layout d cs group → (group ≡ None) ↔ Selects d cs
whole_where layout d cs group law open' =
    let w = law layout d cs group open' in (
      λ is. (w.left, record { leads = w.leads; whole = w.whole.0 is }),
      λ (e, s). w.whole.1 (ap choices (same_Some w.left e (sym w.leads ∙ s.leads)) ∙ s.whole),
    )

-- a selection by numbers is one of the shape
none_left : {A B : Type 0} (f : A → B) (o : Option (List (Forest A))) → o ≡ None ↔ (option_map (map (relabel f)) o ≡ None)
none_left f None = (λ e. refl, λ e. refl)
none_left f (Some xs) = (λ e. absurd (cc (e)), λ e. absurd (cc (e)))

pub selected_same : (nodes : List NodeFacts) (r : ℕ) (cs : List ℕ) → LeaveOneForest nodes r cs → Selects (forest_of by_number nodes r []) cs ↔ IsSelected (shape_of nodes r) cs
selected_same nodes r cs one = by one.left one.numbers one.members where
  d : Forest ℕ
  d = forest_of by_number nodes r []

  relabelled : {A B : Type 0} (f : A → B) (b : Forest A) → choices (relabel f b) ≡ None ↔ (choices b ≡ None)
  relabelled f b = (λ e. (none_left f (choices b)).1 (sym (choices_relabel f b) ∙ e), λ e. choices_relabel f b ∙ (none_left f (choices b)).0 e)

  by : (o : Option (Forest Both)) → after d cs ≡ option_map (relabel number) o → after (shape_of nodes r) cs ≡ option_map (relabel member) o → Selects d cs ↔ IsSelected (shape_of nodes r) cs
  by None a m = (λ (e, s). absurd (clash (sym s.leads ∙ a)), λ (e, s). absurd (clash (sym s.leads ∙ m))) where
    clash : {X : Type 0} {x : X} → Some x ≡ None → ⊥
    clash e = absurd (cc (e))
  by (Some b) a m = (
    λ (e, s). (relabel member b, record { leads = m; whole = (relabelled member b).1 ((relabelled number b).0 (ap choices (same_Some (relabel number b) e (sym a ∙ s.leads)) ∙ s.whole)) }),
    λ (e, s). (relabel number b, record { leads = a; whole = (relabelled number b).1 ((relabelled member b).0 (ap choices (same_Some (relabel member b) e (sym m ∙ s.leads)) ∙ s.whole)) }),
  )

-- what a test for nothing tells
pub none_when : {X : Type 0} (o : Option X) (t : Bool) → is_some o ≡ not t → t ≡ true → o ≡ None
none_when None t is yes' = refl
none_when (Some x) true is yes' = absurd (cc (is))
none_when (Some x) false is yes' = absurd (cc (yes'))

pub none_is : {X : Type 0} (o : Option X) (t : Bool) → is_some o ≡ not t → o ≡ None → t ≡ true
none_is None true is e = refl
none_is None false is e = absurd (cc (is))
none_is (Some x) t is e = absurd (cc (e))
