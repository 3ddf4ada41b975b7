-- Whether choices are a prefix, one choice after the other, and what they settle then.
use Rattle.std.proofs.Common.{◌≡◌, ◌<◌, ◌≤◌, ◌↔◌, ℕ, ◌+◌, ◌++◌, Bool, true, false, List, [], ◌∷◌, Option, Some, None, length, take, drop, get_or, refl, sym, ◌∙◌, ap, subst, arith}
use Rattle.std.specs.Prelude.{is_some, IsSome, IfSome}
use Rattle.std.proofs.lemmas.List.{take_more, take-append-drop}
use Rattle.sysmem_tree.specs.declared.layout.Layout.{Layout}
use Rattle.sysmem_tree.specs.Forest.{Forest, first_group}
use Rattle.sysmem_tree.specs.OpenGroups.{IsFirstOpen}
use Rattle.sysmem_tree.specs.Selection.{after, IsPrefix}
use Rattle.sysmem_tree.proofs.selections.ChoiceLaws.{children_are_choices, none_open_is_selection}
use Rattle.sysmem_tree.proofs.selections.Selections.{prefix_of_prefix}
use Rattle.sysmem_tree.proofs.layouts.Walked.{some_open}
use Rattle.list_lemmas.proofs.CallerLemmas.{of_some}

-- what isn't there
none_of : {X : Type 0} (o : Option X) → (IsSome o → ⊥) → false ≡ is_some o
none_of None h = refl
none_of (Some x) h = absurd (h refl)

module _ (layout : Layout) (d : Forest ℕ) (cs : List ℕ) (k : ℕ) (less : k < length cs) where
  -- the first of some choices, and one more, are a prefix where all are
  more : IsPrefix d cs → IsPrefix d (take k cs ++ get_or cs k 0 ∷ [])
  more prefix = subst (IsPrefix d) (take_more cs k 0 less) (prefix_of_prefix d (take (k + 1) cs) (drop (k + 1) cs) (subst (IsPrefix d) (sym (take-append-drop (k + 1) cs)) prefix))

  -- where no group is left for a choice, they aren't
  pub none_for : IsFirstOpen layout d (take k cs) None → false ≡ is_some (after d cs)
  none_for open' = none_of (after d cs) (λ prefix. some_open layout d (take k cs) (get_or cs k 0) none_open_is_selection (more prefix) open')

  module _ (group : Option ℕ) (open' : IsFirstOpen layout d (take k cs) group) (node children : ℕ) (told : IfSome (after d (take k cs)) (λ e. Some (node, children) ≡ first_group e)) where
    child_is : IsPrefix d (take k cs ++ get_or cs k 0 ∷ []) ↔ (get_or cs k 0 < children)
    child_is =
        let w = none_open_is_selection layout d (take k cs) group open' in
        children_are_choices d w.left (take k cs) (get_or cs k 0) node children w.leads (sym (of_some (λ e. Some (node, children) ≡ first_group e) (after d (take k cs)) w.left w.leads told))

    -- where a choice is no child, they aren't
    pub no_child : children ≤ get_or cs k 0 → false ≡ is_some (after d cs)
    no_child over = none_of (after d cs) (λ prefix. (let below = child_is.0 (more prefix) in omega (arith, below, over)))

    pub a_child : get_or cs k 0 < children → IsPrefix d (take k cs ++ get_or cs k 0 ∷ [])
    a_child below = child_is.1 below

-- where all choices are made, they are
pub all_made : (layout : Layout) (d : Forest ℕ) (cs : List ℕ) (group : Option ℕ) → IsFirstOpen layout d cs group → true ≡ is_some (after d cs)
all_made layout d cs group open' = sym (ap is_some (none_open_is_selection layout d cs group open').leads)

-- so they are where that is told
pub is_prefix_of : (d : Forest ℕ) (as' cs : List ℕ) (b : Bool) → b ≡ is_some (after d as') → as' ≡ cs → b ≡ true → IsPrefix d cs
is_prefix_of d as' cs b is same yes' = subst (IsPrefix d) same (sym is ∙ yes')
