-- The members of a domain's shape have paths that can be read,
-- whatever is chosen, and choices are few.
use Rattle.std.proofs.Common.{◌≡◌, ℕ, suc, ◌+◌, ◌<◌, ◌≤◌, ◌==◌, ◌++◌, Bool, true, false, List, [], ◌∷◌, length, All, Option, Some, None, IfSome, IsSome, slice_get, option_map, option_and_then, refl, sym, ap, subst, ◌∙◌, arith}
use Rattle.std.specs.List.{AllByRecursion, cons_option}
use Rattle.std.specs.Prelude.{if◌then◌else◌}
use Rattle.std.proofs.lemmas.List.Elements.{All-nil, All-cons}
use Rattle.std.proofs.lemmas.Option.{same_Some, none-some, slice_get_within}
use Rattle.sysmem_counts.specs.Bounds.{most_number}
use Rattle.sysmem_tree.specs.declared.node.Birth.{Birth}
use Rattle.sysmem_tree.specs.Forest.{Forest, Empty, choices, relabel, first_group}
use Rattle.sysmem_tree.specs.LayoutLaws.{Both, number, member, ChoicesLeaveOneForest, FewChildren, FewChoices}
use Rattle.sysmem_tree.specs.Node.{NodeFacts}
use Rattle.sysmem_tree.specs.Nodes.{IsTree, ordinal_under}
use Rattle.sysmem_tree.specs.Path.{path_of}
use Rattle.sysmem_tree.specs.Selection.{after}
use Rattle.sysmem_tree.specs.Shape.{Member, by_number, by_path, forest_of, kid_of, before, tree_of, kids_from, rooted, shape_of}
use Rattle.sysmem_tree.proofs.CallerLemmas.{first_many}
use Rattle.verdict_claims.specs.Members.{members_at}
use Rattle.verdict_claims.proofs.CallerLemmas.{AllIn, in_after, in_tree}
use Rattle.certificate_text.specs.CanBeRead.{HasSteps}
use Rattle.certificate_text.proofs.Ordinals.{HasOrdinal, has_ordinal, path_steps, steps-append}

-- a member's path can be read
abbrev pub HasPath : Member → Type 0
HasPath m = HasSteps m.path

-- the paths of all members of a forest can
abbrev pub HavePaths : Forest Member → Type 0
HavePaths = AllIn HasPath

-- ---- in a shape

if_some : (t : Bool) (o : Option ℕ) → IfSome o (λ n. n ≤ most_number) → IfSome (if t then o else None) (λ n. n ≤ most_number)
if_some true o h = h
if_some false o h = tt

-- a kid's ordinal is its own
kid_ordinal : (domain p : ℕ) (n : NodeFacts) → HasOrdinal n → IfSome (kid_of domain p n) (λ o. o ≤ most_number)
kid_ordinal domain p n h = if_some (n.domain == domain) (ordinal_under p n.birth) (under n.birth h) where
  under : (b : Option Birth) → IfSome b (λ x. x.ordinal ≤ most_number) → IfSome (ordinal_under p b) (λ o. o ≤ most_number)
  under None small = tt
  under (Some b) small = if_some (b.parent == p) (Some b.ordinal) small

in_kids : (domain i : ℕ) (nodes : List NodeFacts) → AllByRecursion HasOrdinal nodes → (p : ℕ) (path : List ℕ) → HasSteps path → HavePaths (kids_from by_path domain i nodes p path)
in_kids domain i [] all p path steps = tt
in_kids domain i (n ∷ nodes) all p path steps = at (in_kids domain (i + 1) nodes all.1) (kid_of domain p n) (kid_ordinal domain p n all.0) where
  at : ((q : ℕ) (way : List ℕ) → HasSteps way → HavePaths (kids_from by_path domain (i + 1) nodes q way)) → (o : Option ℕ) → IfSome o (λ k. k ≤ most_number)
      → HavePaths (before o (λ o. tree_of n.state.kind (by_path i (path ++ o ∷ []) n) (kids_from by_path domain (i + 1) nodes i (path ++ o ∷ []))) (kids_from by_path domain (i + 1) nodes p path))
  at rest None small = rest p path steps
  at rest (Some o) small =
      let on : HasSteps (path ++ o ∷ []) = steps-append path (o ∷ []) steps (small, tt) in
      in_tree HasPath n.state.kind (by_path i (path ++ o ∷ []) n) (kids_from by_path domain (i + 1) nodes i (path ++ o ∷ [])) (kids_from by_path domain (i + 1) nodes p path)
      on (rest i (path ++ o ∷ []) on) (rest p path steps)

pub all_places : {X : Type 0} (P : X → Type 0) (xs : List X) → ((k : ℕ) (x : X) → slice_get xs k ≡ Some x → P x) → AllByRecursion P xs
all_places P [] h = tt
all_places P (x ∷ xs) h = (h 0 x refl, all_places P xs (λ k y here. h (suc k) y here))

shape_paths : (nodes : List NodeFacts) (r : ℕ) → IsTree nodes → HavePaths (shape_of nodes r)
shape_paths nodes r tree = at (slice_get nodes r) where
  at : (o : Option NodeFacts) → HavePaths (rooted by_path nodes r (path_of nodes r) o)
  at None = tt
  at (Some n) = in_tree HasPath n.state.kind (by_path r (path_of nodes r) n) (kids_from by_path r 0 nodes r (path_of nodes r)) Empty (path_steps nodes r tree)
      (in_kids r 0 nodes (all_places HasOrdinal nodes (has_ordinal nodes tree)) r (path_of nodes r) (path_steps nodes r tree)) tt

-- of nodes by their numbers
pub accepted_paths : (nodes : List NodeFacts) → IsTree nodes → (numbers : List ℕ) → AllByRecursion HasPath (members_at nodes numbers)
accepted_paths nodes tree [] = tt
accepted_paths nodes tree (i ∷ numbers) = by (slice_get nodes i) (accepted_paths nodes tree numbers) where
  by : (o : Option NodeFacts) → AllByRecursion HasPath (members_at nodes numbers) → AllByRecursion HasPath (cons_option (option_map (by_path i (path_of nodes i)) o) (members_at nodes numbers))
  by None rest = rest
  by (Some n) rest = (path_steps nodes i tree, rest)

-- ---- choices one after another

after_then : (cs more : List ℕ) (d e : Forest Member) → after d cs ≡ Some e → after d (cs ++ more) ≡ after e more
after_then [] more d e is = ap (λ x. after x more) (same_Some d e is)
after_then (c ∷ cs) more d e is = by (option_and_then (λ es. slice_get es c) (choices d)) is (λ x on. after_then cs more x e on) where
  by : (o : Option (Forest Member)) → option_and_then (λ x. after x cs) o ≡ Some e → ((x : Forest Member) → after x cs ≡ Some e → after x (cs ++ more) ≡ after e more)
      → option_and_then (λ x. after x (cs ++ more)) o ≡ after e more
  by None on rest = absurd (cc)
  by (Some x) on rest = rest x on

module _ (nodes : List NodeFacts) (r : ℕ) (tree : IsTree nodes) where
  -- choices lead there
  abbrev pub IsReached : Forest Member → Type 0
  IsReached e = (cs : List ℕ) × (after (shape_of nodes r) cs ≡ Some e)

  pub whole_reached : IsReached (shape_of nodes r)
  whole_reached = ([], refl)

  pub choice_reached : (e x : Forest Member) (es : List (Forest Member)) (c : ℕ) → IsReached e → choices e ≡ Some es → slice_get es c ≡ Some x → IsReached x
  choice_reached e x es c reached open' here = (
    reached.0 ++ c ∷ [],
    after_then reached.0 (c ∷ []) (shape_of nodes r) e reached.1
        ∙ (ap (λ o. option_and_then (λ y. after y []) (option_and_then (λ ys. slice_get ys c) o)) open' ∙ ap (option_and_then (λ y. after y [])) here),
  )

  pub choices_reached : (e : Forest Member) (es : List (Forest Member)) → IsReached e → choices e ≡ Some es → AllByRecursion IsReached es
  choices_reached e es reached open' = all_places IsReached es (λ c x here. choice_reached e x es c reached open' here)

  pub selected_reached : (cs : List ℕ) (e : Forest Member) → after (shape_of nodes r) cs ≡ Some e → IsReached e
  selected_reached cs e leads = (cs, leads)

  pub reached_paths : (e : Forest Member) → IsReached e → HavePaths e
  reached_paths e reached = in_after HasPath reached.0 (shape_of nodes r) e (shape_paths nodes r tree) reached.1

  module _ (one : ChoicesLeaveOneForest) (children : FewChildren) (few : FewChoices) where
    by_numbers : (cs : List ℕ) (b : Forest Both) → (one nodes r cs).left ≡ Some b → after (forest_of by_number nodes r []) cs ≡ Some (relabel number b)
    by_numbers cs b at = (one nodes r cs).numbers ∙ ap (option_map (relabel number)) at

    -- as many as the first group has children by the numbers
    counted : (cs : List ℕ) (b : Forest Both) (g : Option (Both × ℕ)) (es : List (Forest Member)) → first_group b ≡ g
        → first_group (relabel number b) ≡ option_map (λ (x : Both × ℕ). (number x.0, x.1)) (first_group b) → first_group (relabel member b) ≡ option_map (λ (x : Both × ℕ). (member x.0, x.1)) (first_group b)
        → after (forest_of by_number nodes r []) cs ≡ Some (relabel number b) → choices (relabel member b) ≡ Some es → length es ≤ 128
    counted cs b None es is numbers members there open' =
        let none : Some (length es) ≡ None = sym (ap (option_map length) open') ∙ (first_many (relabel member b)
        ∙ ap (option_map (λ (x : Member × ℕ). x.1)) (members ∙ ap (option_map (λ (x : Both × ℕ). (member x.0, x.1))) is)) in absurd (cc)
    counted cs b (Some g) es is numbers members there open' =
        let same : Some (length es) ≡ Some g.1 = sym (ap (option_map length) open') ∙ (first_many (relabel member b)
        ∙ ap (option_map (λ (x : Member × ℕ). x.1)) (members ∙ ap (option_map (λ (x : Both × ℕ). (member x.0, x.1))) is)) in
        let many : length es ≡ g.1 = same_Some (length es) g.1 same in
        let small : g.1 ≤ 128 = children nodes r cs (relabel number b) (number g.0) g.1 tree there (numbers ∙ ap (option_map (λ (x : Both × ℕ). (number x.0, x.1))) is) in
        omega (arith, many, small)

    few_after : (cs : List ℕ) (e : Forest Member) (es : List (Forest Member)) → after (shape_of nodes r) cs ≡ Some e → choices e ≡ Some es → length es ≤ 128
    few_after cs e es leads open' = by (one nodes r cs).left refl where
      by : (o : Option (Forest Both)) → (one nodes r cs).left ≡ o → length es ≤ 128
      by None at = absurd (none-some e (sym ((one nodes r cs).members ∙ ap (option_map (relabel member)) at) ∙ leads))
      by (Some b) at =
          let same : relabel member b ≡ e = same_Some (relabel member b) e (sym ((one nodes r cs).members ∙ ap (option_map (relabel member)) at) ∙ leads) in
          counted cs b (first_group b) es refl
          (subst (λ o. IfSome o (λ x. first_group (relabel number x) ≡ option_map (λ (g : Both × ℕ). (number g.0, g.1)) (first_group x))) at (one nodes r cs).group_number)
          (subst (λ o. IfSome o (λ x. first_group (relabel member x) ≡ option_map (λ (g : Both × ℕ). (member g.0, g.1)) (first_group x))) at (one nodes r cs).group_member)
          (by_numbers cs b at) (ap choices same ∙ open')

    -- a group has few children
    pub few_there : (e : Forest Member) (es : List (Forest Member)) → IsReached e → choices e ≡ Some es → length es ≤ 128
    few_there e es reached open' = few_after reached.0 e es reached.1 open'

    -- few choices lead anywhere
    pub few_choices_there : (cs : List ℕ) (e : Forest Member) → after (shape_of nodes r) cs ≡ Some e → length cs ≤ 128
    few_choices_there cs e leads = by (one nodes r cs).left refl where
      by : (o : Option (Forest Both)) → (one nodes r cs).left ≡ o → length cs ≤ 128
      by None at = absurd (none-some e (sym ((one nodes r cs).members ∙ ap (option_map (relabel member)) at) ∙ leads))
      by (Some b) at = few nodes r cs tree (subst IsSome (sym (by_numbers cs b at)) refl)

    -- each choice is one of a group's few children
    pub small_choices : (cs : List ℕ) (d e : Forest Member) → IsReached d → after d cs ≡ Some e → All (λ n. n ≤ 255) cs
    small_choices [] d e reached leads = All-nil (λ n. n ≤ 255)
    small_choices (c ∷ cs) d e reached leads = by (choices d) refl leads (λ x on rest. small_choices cs x e on rest) where
      at : (es : List (Forest Member)) → choices d ≡ Some es → (o : Option (Forest Member)) → slice_get es c ≡ o → option_and_then (λ x. after x cs) o ≡ Some e
          → ((x : Forest Member) → IsReached x → after x cs ≡ Some e → All (λ n. n ≤ 255) cs) → All (λ n. n ≤ 255) (c ∷ cs)
      at es open' None here on rest = absurd (cc)
      at es open' (Some x) here on rest =
          let within : c < length es = slice_get_within es c x here in
          let many : length es ≤ 128 = few_there d es reached open' in
          All-cons (λ n. n ≤ 255) c cs (omega (arith, within, many)) (rest x (choice_reached d x es c reached open' here) on)

      by : (o : Option (List (Forest Member))) → choices d ≡ o → option_and_then (λ x. after x cs) (option_and_then (λ es. slice_get es c) o) ≡ Some e
          → ((x : Forest Member) → IsReached x → after x cs ≡ Some e → All (λ n. n ≤ 255) cs) → All (λ n. n ≤ 255) (c ∷ cs)
      by None open' on rest = absurd (cc)
      by (Some es) open' on rest = at es open' (slice_get es c) refl on rest
