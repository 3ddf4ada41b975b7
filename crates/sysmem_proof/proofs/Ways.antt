-- Where choices lead in a domain's shape, and which group is next there.
use Rattle.std.proofs.Common.{◌≡◌, ◌<◌, ◌≤◌, ℕ, zero, suc, ◌+◌, List, [], ◌∷◌, ◌++◌, Option, Some, None, length, drop, get_or, take, slice_get, is_some, refl, sym, ◌∙◌, ap, subst, arith, length-append}
use Rattle.std.specs.Prelude.{IfSome, IsSome, MatchOption, is_none, option_map, option_and_then}
use Rattle.std.proofs.lemmas.List.{take_more, take_all, take-append-drop}
use Rattle.std.proofs.lemmas.Option.{same_Some, none-some, slice_get_within}
use Rattle.sysmem_tree.specs.Forest.{Forest, choices, first_group, relabel}
use Rattle.sysmem_tree.specs.LayoutLaws.{Both, number, member, FewChildren, FewChoices, LeaveOneForest}
use Rattle.sysmem_tree.specs.Node.{NodeFacts}
use Rattle.sysmem_tree.specs.Nodes.{IsTree}
use Rattle.sysmem_tree.specs.Selection.{after, IsPrefix}
use Rattle.sysmem_tree.specs.Shape.{Member, by_number, forest_of, shape_of}
use Rattle.sysmem_tree.proofs.CallerLemmas.{first_many}
use Rattle.verdict_claims.proofs.Rolls.{prefix_numbers}
use Rattle.list_lemmas.proofs.CallerLemmas.{of_some}

pub some_of : {X : Type 0} (o : Option X) → IsSome o → (x : X) × (o ≡ Some x)
some_of None h = absurd (cc)
some_of (Some x) h = (x, refl)

module _ (nodes : List NodeFacts) (r : ℕ) (cs : List ℕ) (one : LeaveOneForest nodes r cs) (next : Option (ℕ × ℕ)) (told : IfSome (after (forest_of by_number nodes r []) cs) (λ e. next ≡ first_group e)) where
  shift : (o : Option (Both × ℕ)) → option_map (λ (g : Member × ℕ). g.1) (option_map (λ (g : Both × ℕ). (member g.0, g.1)) o)
      ≡ option_map (λ (g : ℕ × ℕ). g.1) (option_map (λ (g : Both × ℕ). (number g.0, g.1)) o)
  shift None = refl
  shift (Some g) = refl

  -- the children of the next group are the choices for it
  pub children_told : (d : Forest Member) → after (shape_of nodes r) cs ≡ Some d → option_map length (choices d) ≡ option_map (λ (g : ℕ × ℕ). g.1) next
  children_told d is = by one.left refl where
    by : (o : Option (Forest Both)) → one.left ≡ o → option_map length (choices d) ≡ option_map (λ (g : ℕ × ℕ). g.1) next
    by None at = absurd (none-some d (sym (one.members ∙ ap (option_map (relabel member)) at) ∙ is))
    by (Some b) at =
        let same : relabel member b ≡ d = same_Some (relabel member b) d (sym (one.members ∙ ap (option_map (relabel member)) at) ∙ is) in
        let there : after (forest_of by_number nodes r []) cs ≡ Some (relabel number b) = one.numbers ∙ ap (option_map (relabel number)) at in
        let first : next ≡ first_group (relabel number b) = of_some (λ e. next ≡ first_group e) (after (forest_of by_number nodes r []) cs) (relabel number b) there told in
        let by_numbers : first_group (relabel number b) ≡ option_map (λ (g : Both × ℕ). (number g.0, g.1)) (first_group b) =
        subst (λ o. IfSome o (λ x. first_group (relabel number x) ≡ option_map (λ (g : Both × ℕ). (number g.0, g.1)) (first_group x))) at one.group_number in
        let by_members : first_group (relabel member b) ≡ option_map (λ (g : Both × ℕ). (member g.0, g.1)) (first_group b) =
        subst (λ o. IfSome o (λ x. first_group (relabel member x) ≡ option_map (λ (g : Both × ℕ). (member g.0, g.1)) (first_group x))) at one.group_member in
        ap (λ x. option_map length (choices x)) (sym same) ∙ (first_many (relabel member b) ∙ (ap (option_map (λ (g : Member × ℕ). g.1)) by_members
        ∙ (shift (first_group b) ∙ ap (option_map (λ (g : ℕ × ℕ). g.1)) (sym by_numbers ∙ sym first))))

  -- they are few
  pub few_told : FewChildren → IsTree nodes → IsPrefix (shape_of nodes r) cs → (group children : ℕ) → next ≡ Some (group, children) → children ≤ 128
  few_told few tree prefix group children is =
      let (e, there) = some_of (after (forest_of by_number nodes r []) cs) (prefix_numbers nodes r cs one prefix) in
      few nodes r cs e group children tree there (sym (of_some (λ x. next ≡ first_group x) (after (forest_of by_number nodes r []) cs) e there told) ∙ is)

-- choices for the shape are few too
pub few_of : (nodes : List NodeFacts) (r : ℕ) → FewChoices → IsTree nodes → (cs : List ℕ) → LeaveOneForest nodes r cs → IsPrefix (shape_of nodes r) cs → length cs ≤ 128
few_of nodes r few tree cs one prefix = few nodes r cs tree (prefix_numbers nodes r cs one prefix)

-- no group is left where none is told
pub whole_told : {X : Type 0} (o : Option (List X)) (told : Option ℕ) → option_map length o ≡ told → is_none told ≡ is_none o
whole_told None told is = ap is_none (sym is)
whole_told (Some xs) told is = ap is_none (sym is)

-- one choice behind others
pub record IsWay (d : Forest Member) (cs : List ℕ) (c : ℕ) : Type 0 where
  pub here : Forest Member
  pub leads : after d cs ≡ Some here
  pub alternatives : List (Forest Member)
  pub open' : choices here ≡ Some alternatives
  pub child : Forest Member
  pub is_child : slice_get alternatives c ≡ Some child
  pub goes_on : after d (cs ++ c ∷ []) ≡ Some child

abbrev choose : Forest Member → ℕ → Option (Forest Member)
choose d c = option_and_then (λ es. slice_get es c) (choices d)

first_way : (d : Forest Member) (c : ℕ) (es : List (Forest Member)) (e : Forest Member) → choices d ≡ Some es → slice_get es c ≡ Some e → IsWay d [] c
first_way d c es e open' here = record {
  here = d;
  leads = refl;
  alternatives = es;
  open' = open';
  child = e;
  is_child = here;
  goes_on = ap (λ o. option_and_then (λ x. after x []) (option_and_then (λ xs. slice_get xs c) o)) open' ∙ ap (option_and_then (λ x. after x [])) here;
}

further_way : (d x : Forest Member) (c : ℕ) (cs : List ℕ) (k : ℕ) → choose d c ≡ Some x → IsWay x cs k → IsWay d (c ∷ cs) k
further_way d x c cs k one w = record {
  here = w.here;
  leads = ap (option_and_then (λ y. after y cs)) one ∙ w.leads;
  alternatives = w.alternatives;
  open' = w.open';
  child = w.child;
  is_child = w.is_child;
  goes_on = ap (option_and_then (λ y. after y (cs ++ k ∷ []))) one ∙ w.goes_on;
}

-- the last of some choices is one
pub way_of : (d : Forest Member) (cs : List ℕ) (c : ℕ) → IsPrefix d (cs ++ c ∷ []) → IsWay d cs c
way_of d [] c h = by (choices d) refl h where
  at : (es : List (Forest Member)) → choices d ≡ Some es → (o : Option (Forest Member)) → slice_get es c ≡ o → IsSome (option_and_then (λ x. after x []) o) → IsWay d [] c
  at es open' None here h = absurd (cc)
  at es open' (Some e) here h = first_way d c es e open' here

  by : (o : Option (List (Forest Member))) → choices d ≡ o → IsSome (option_and_then (λ x. after x []) (option_and_then (λ es. slice_get es c) o)) → IsWay d [] c
  by None open' h = absurd (cc)
  by (Some es) open' h = at es open' (slice_get es c) refl h
way_of d (x ∷ cs) c h = by (choose d x) refl (λ y. way_of y cs c) h where
  by : (o : Option (Forest Member)) → choose d x ≡ o → ((y : Forest Member) → IsPrefix y (cs ++ c ∷ []) → IsWay y cs c) → IsSome (option_and_then (λ y. after y (cs ++ c ∷ [])) o) → IsWay d (x ∷ cs) c
  by None one rest h = absurd (cc)
  by (Some y) one rest h = further_way d y x cs c one (rest y h)

pub at_place : {X : Type 0} (xs : List X) (c : ℕ) → c < length xs → (x : X) × (slice_get xs c ≡ Some x)
at_place [] c less = absurd (omega (arith, less))
at_place (x ∷ xs) zero less = (x, refl)
at_place (x ∷ xs) (suc c) less = at_place xs c (omega (arith, less))

-- so is each child of a group
pub way_to : (d e : Forest Member) (cs : List ℕ) (c : ℕ) (es : List (Forest Member)) → after d cs ≡ Some e → choices e ≡ Some es → c < length es → IsWay d cs c
way_to d e [] c es leads open' less =
    let (x, here) = at_place es c less in first_way d c es x (ap choices (same_Some d e leads) ∙ open') here
way_to d e (x ∷ cs) c es leads open' less = by (choose d x) refl (λ y on. way_to y e cs c es on open' less) leads where
  by : (o : Option (Forest Member)) → choose d x ≡ o → ((y : Forest Member) → after y cs ≡ Some e → IsWay y cs c) → option_and_then (λ y. after y cs) o ≡ Some e → IsWay d (x ∷ cs) c
  by None one rest on = absurd (cc)
  by (Some y) one rest on = further_way d y x cs c one (rest y on)

-- by the number of its children
pub way_by : (d e : Forest Member) (cs : List ℕ) (c n : ℕ) → after d cs ≡ Some e → option_map length (choices e) ≡ Some n → c < n → IsWay d cs c
way_by d e cs c n leads many less = by (choices e) refl many where
  by : (o : Option (List (Forest Member))) → choices e ≡ o → option_map length o ≡ Some n → IsWay d cs c
  by None open' is = absurd (cc)
  by (Some es) open' is = let long : length es ≡ n = same_Some (length es) n is in way_to d e cs c es leads open' (omega (arith, long, less))

-- two ways from one forest go by its alternatives
pub same_way : (d e : Forest Member) (cs : List ℕ) (c : ℕ) (es : List (Forest Member)) → after d cs ≡ Some e → choices e ≡ Some es → (w : IsWay d cs c) → slice_get es c ≡ Some w.child
same_way d e cs c es leads open' w =
    let same : w.here ≡ e = same_Some w.here e (sym w.leads ∙ leads) in
    let all : w.alternatives ≡ es = same_Some w.alternatives es (sym w.open' ∙ (ap choices same ∙ open')) in
    subst (λ xs. slice_get xs c ≡ Some w.child) all w.is_child

-- a choice is made, and taken back
pub pushed : (d : Forest Member) (cs old new : List ℕ) (c : ℕ) → (w : IsWay d cs c) → old ≡ cs → new ≡ old ++ c ∷ [] → after d new ≡ Some w.child
pushed d cs old new c w one two = ap (after d) (two ∙ ap (λ xs. xs ++ c ∷ []) one) ∙ w.goes_on

pub room_for : (d : Forest Member) (cs old : List ℕ) (c : ℕ) → ((xs : List ℕ) → IsPrefix d xs → length xs ≤ 128) → IsWay d cs c → old ≡ cs → length old < 128
room_for d cs old c few w one =
    let all = few (cs ++ c ∷ []) (ap is_some w.goes_on) in
    let long = ap length one in omega (arith, all, long, length-append cs (c ∷ []))

front_same : (xs ys : List ℕ) (x y : ℕ) → xs ++ x ∷ [] ≡ ys ++ y ∷ [] → xs ≡ ys
front_same [] [] x y e = refl
front_same [] (b ∷ ys) x y e = let long = ap length e in absurd (omega (arith, long, length-append ys (y ∷ [])))
front_same (a ∷ xs) [] x y e = let long = ap length e in absurd (omega (arith, long, length-append xs (x ∷ [])))
front_same (a ∷ xs) (b ∷ ys) x y e = rw (heads a b (xs ++ x ∷ []) (ys ++ y ∷ []) e, front_same xs ys x y (tails a b (xs ++ x ∷ []) (ys ++ y ∷ []) e)) refl where
  heads : (a b : ℕ) (us vs : List ℕ) → a ∷ us ≡ b ∷ vs → a ≡ b
  heads a b us vs e = cc

  tails : (a b : ℕ) (us vs : List ℕ) → a ∷ us ≡ b ∷ vs → us ≡ vs
  tails a b us vs e = cc

pub popped : (o : Option ℕ) (longer new old : List ℕ) (c : ℕ) → MatchOption o ((longer ≡ []) × (new ≡ [])) (λ x. longer ≡ new ++ x ∷ []) → longer ≡ old ++ c ∷ [] → new ≡ old
popped None longer new old c h is = let long = ap length (sym h.0 ∙ is) in absurd (omega (arith, long, length-append old (c ∷ [])))
popped (Some x) longer new old c h is = front_same new old x c (sym h ∙ is)

-- the alternatives at the end of a way
pub opened : (d e : Forest Member) (cs : List ℕ) (c : ℕ) (w : IsWay d cs c) → after d cs ≡ Some e → choices e ≡ Some w.alternatives
opened d e cs c w leads = ap choices (same_Some e w.here (sym leads ∙ w.leads)) ∙ w.open'

-- where a group has so many children
pub told_way : (d : Forest Member) (cs : List ℕ) (c n many : ℕ) → IsPrefix d cs → ((e : Forest Member) → after d cs ≡ Some e → (option_map length (choices e) ≡ Some n) × (n ≡ many)) → c < n → IsWay d cs c
told_way d cs c n many prefix told less = let (e, leads) = some_of (after d cs) prefix in way_by d e cs c n leads (told e leads).0 less

-- a smaller child of the same group
pub smaller_way : (d : Forest Member) (cs : List ℕ) (c k : ℕ) → IsWay d cs c → k < c → IsWay d cs k
smaller_way d cs c k w less = let within = slice_get_within w.alternatives c w.child w.is_child in way_to d w.here cs k w.alternatives w.leads w.open' (omega (arith, less, within))

prefix_front : (d : Forest Member) (xs ys : List ℕ) → IsPrefix d (xs ++ ys) → IsPrefix d xs
prefix_front d [] ys h = refl
prefix_front d (x ∷ xs) ys h = by (choose d x) (λ y. prefix_front y xs ys) h where
  by : (o : Option (Forest Member)) → ((y : Forest Member) → IsPrefix y (xs ++ ys) → IsPrefix y xs) → IsSome (option_and_then (λ y. after y (xs ++ ys)) o) → IsSome (option_and_then (λ y. after y xs) o)
  by None rest h = absurd (cc)
  by (Some y) rest h = rest y h

-- each choice of a prefix is behind those before it
pub way_at : (d : Forest Member) (xs : List ℕ) (k : ℕ) → IsPrefix d xs → k < length xs → IsWay d (take k xs) (get_or xs k 0)
way_at d xs k prefix less =
    way_of d (take k xs) (get_or xs k 0) (subst (IsPrefix d) (take_more xs k 0 less) (prefix_front d (take (k + 1) xs) (drop (k + 1) xs) (subst (IsPrefix d) (sym (take-append-drop (k + 1) xs)) prefix)))

-- and leads where the choices up to it do
pub on_way : (d e : Forest Member) (xs : List ℕ) (k : ℕ) (w : IsWay d (take k xs) (get_or xs k 0)) → k < length xs → after d (take (k + 1) xs) ≡ Some e → w.child ≡ e
on_way d e xs k w less leads = same_Some w.child e (sym w.goes_on ∙ (ap (after d) (sym (take_more xs k 0 less)) ∙ leads))

-- at the end they are all
pub at_end : (d : Forest Member) (xs ys : List ℕ) (k : ℕ) → xs ≡ ys → IsPrefix d ys → length xs ≤ k → (e : Forest Member) × (after d (take k xs) ≡ Some e)
at_end d xs ys k same prefix over = let (e, leads) = some_of (after d ys) prefix in (e, ap (after d) (take_all k xs over ∙ same) ∙ leads)
