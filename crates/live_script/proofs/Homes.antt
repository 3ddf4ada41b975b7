-- A domain without a group: its forest has each of its nodes once, whatever their order.
use Rattle.std.proofs.Common.{◌≡◌, ◌≢◌, ◌<◌, ◌≤◌, ◌+◌, ◌++◌, ◌==◌, ◌&&◌, ◌||◌, ◌⊎◌, ℕ, zero, suc, Bool, true, false, List, [], ◌∷◌, Option, Some, None, All, length, slice_get, refl, sym, ◌∙◌, ap, subst, arith, inl, inr}
use Rattle.std.specs.Prelude.{IsPermutation, IsSomeAnd, if◌then◌else◌, is_some, option_and_then}
use Rattle.std.specs.List.{AllByRecursion, cons_option, list_any}
use Rattle.std.proofs.lemmas.Bool.{cases_eq, eq-eqb, eqb-true}
use Rattle.std.proofs.lemmas.List.{append-nil}
use Rattle.std.proofs.lemmas.List.Elements.{All-head, All-tail}
use Rattle.std.proofs.lemmas.List.Sorted.{IsPermutation-cons, IsPermutation-middle, IsPermutation-refl, IsPermutation-sym, IsPermutation-trans}
use Rattle.std.proofs.lemmas.Option.{same_Some, slice_get_within}
use Rattle.negotiation_inputs.specs.Participant.{Participant}
use Rattle.sysmem_tree.specs.Domain.{HasDomain}
use Rattle.sysmem_tree.specs.Forest.{Forest, Empty, Plain, Group, choices, kids_else_rest, settled}
use Rattle.sysmem_tree.specs.Laws.{labels}
use Rattle.sysmem_tree.specs.Layout.{is_group}
use Rattle.sysmem_tree.specs.Node.{NodeFacts}
use Rattle.sysmem_tree.specs.Nodes.{IsPlaced, IsTree, ordinal_under}
use Rattle.sysmem_tree.specs.Shape.{Labels, before, by_number, forest_of, kid_of, kids_from, members_of, rooted, tree_of}
use Rattle.sysmem_tree.specs.declared.node.Birth.{Birth}
use Rattle.sysmem_tree.specs.declared.state.NodeKind.{NodeKind}
use Rattle.sysmem_tree.specs.declared.state.NodeKind.TheVariants as kinds
use Rattle.sysmem_tree.proofs.CallerLemmas.{Once, labels_once, members_stand_once, there, tree_labels, under_parent}
use Rattle.verdict_claims.specs.Asked.{asked_in, asks_at}
use Rattle.live_script.specs.Refusing.{asking_in, asks_in, is_group_of}
use Rattle.live_script.proofs.Refusing.{firsts, kept_from, numbers_from}

-- a number stands in a list
abbrev pub In : ℕ → List ℕ → Type 0
In k [] = ⊥
In k (x ∷ xs) = (x ≡ k) ⊎ In k xs

in_left : (k : ℕ) (xs ys : List ℕ) → In k xs → In k (xs ++ ys)
in_left k [] ys h = absurd h
in_left k (x ∷ xs) ys (inl e) = inl e
in_left k (x ∷ xs) ys (inr h) = inr (in_left k xs ys h)

in_right : (k : ℕ) (xs ys : List ℕ) → In k ys → In k (xs ++ ys)
in_right k [] ys h = h
in_right k (x ∷ xs) ys h = inr (in_right k xs ys h)

in_either : (k : ℕ) (xs ys : List ℕ) → In k (xs ++ ys) → In k xs ⊎ In k ys
in_either k [] ys h = inr h
in_either k (x ∷ xs) ys (inl e) = inl (inl e)
in_either k (x ∷ xs) ys (inr h) = by (in_either k xs ys h) where
  by : In k xs ⊎ In k ys → In k (x ∷ xs) ⊎ In k ys
  by (inl a) = inl (inr a)
  by (inr b) = inr b

-- what all of a list have
each_has : (P : ℕ → Type 0) (k : ℕ) (xs : List ℕ) → AllByRecursion P xs → In k xs → P k
each_has P k [] all h = absurd h
each_has P k (x ∷ xs) all (inl e) = subst P e all.0
each_has P k (x ∷ xs) all (inr h) = each_has P k xs all.1 h

-- a number in a list, and what is beside it
record Split (k : ℕ) (ys : List ℕ) : Type 0 where
  front : List ℕ
  back : List ℕ
  is : ys ≡ front ++ k ∷ back

split : (k : ℕ) (ys : List ℕ) → In k ys → Split k ys
split k [] h = absurd h
split k (y ∷ ys) (inl e) = record { front = []; back = ys; is = ap (λ z. z ∷ ys) e }
split k (y ∷ ys) (inr h) = let s = split k ys h in record { front = y ∷ s.front; back = s.back; is = ap (λ zs. y ∷ zs) s.is }

all_but : (P : ℕ → Type 0) (x : ℕ) (front back : List ℕ) → AllByRecursion P (front ++ x ∷ back) → AllByRecursion P (front ++ back)
all_but P x [] back all = all.1
all_but P x (f ∷ front) back all = (all.0, all_but P x front back all.1)

once_but : (x : ℕ) (front back : List ℕ) → Once (front ++ x ∷ back) → Once (front ++ back)
once_but x [] back once = once.1
once_but x (f ∷ front) back once = (all_but (λ y. f ≢ y) x front back once.0, once_but x front back once.1)

in_middle : (x : ℕ) (front back : List ℕ) → In x (front ++ x ∷ back)
in_middle x front back = in_right x front (x ∷ back) (inl refl)

never : (x k : ℕ) (front back : List ℕ) → Once (front ++ x ∷ back) → In k (front ++ back) → x ≢ k
never x k [] back once h = each_has (λ y. x ≢ y) k back once.0 h
never x k (f ∷ front) back once (inl e) = λ same. each_has (λ y. f ≢ y) x (front ++ x ∷ back) once.0 (in_middle x front back) (e ∙ sym same)
never x k (f ∷ front) back once (inr h) = never x k front back once.1 h

-- lists without a repeat, of the same numbers
same_numbers : (xs ys : List ℕ) → Once xs → Once ys → ((k : ℕ) → In k xs → In k ys) → ((k : ℕ) → In k ys → In k xs) → IsPermutation xs ys
same_numbers [] [] a b into out = IsPermutation-refl []
same_numbers [] (y ∷ ys) a b into out = absurd (out y (inl refl))
same_numbers (x ∷ xs) ys a b into out =
    let s = split x ys (into x (inl refl)) in
    let apart : Once (s.front ++ x ∷ s.back) = subst Once s.is b in
    let rest : IsPermutation xs (s.front ++ s.back) = same_numbers xs (s.front ++ s.back) a.1 (once_but x s.front s.back apart) (λ k h. kept k s h (into k (inr h))) (λ k h. came k s h apart (out k)) in
    subst (IsPermutation (x ∷ xs)) (sym s.is)
    (IsPermutation-trans (x ∷ xs) (x ∷ (s.front ++ s.back)) (s.front ++ x ∷ s.back) (IsPermutation-cons x xs (s.front ++ s.back) rest)
    (IsPermutation-sym (s.front ++ x ∷ s.back) (x ∷ (s.front ++ s.back)) (IsPermutation-middle s.front x s.back))) where
      kept : (k : ℕ) (s : Split x ys) → In k xs → In k ys → In k (s.front ++ s.back)
      kept k s own h = by (in_either k s.front (x ∷ s.back) (subst (In k) s.is h)) where
        by : In k s.front ⊎ In k (x ∷ s.back) → In k (s.front ++ s.back)
        by (inl h) = in_left k s.front s.back h
        by (inr (inl e)) = absurd (each_has (λ y. x ≢ y) k xs a.0 own e)
        by (inr (inr h)) = in_right k s.front s.back h

      came : (k : ℕ) (s : Split x ys) → In k (s.front ++ s.back) → Once (s.front ++ x ∷ s.back) → (In k ys → In k (x ∷ xs)) → In k xs
      came k s h apart out = by (out (subst (In k) (sym s.is) (wide (in_either k s.front s.back h)))) where
        wide : In k s.front ⊎ In k s.back → In k (s.front ++ x ∷ s.back)
        wide (inl h) = in_left k s.front (x ∷ s.back) h
        wide (inr h) = in_right k s.front (x ∷ s.back) (inr h)

        by : In k (x ∷ xs) → In k xs
        by (inl e) = absurd (never x k s.front s.back apart h e)
        by (inr h) = h

-- where no node of a domain is a group, its forest has none
or_false : (a b : Bool) → (a || b) ≡ false → (a ≡ false) × (b ≡ false)
or_false true b e = absurd (cc e)
or_false false b e = (refl, e)

none_is : {X : Type 0} (p : X → Bool) (xs : List X) (k : ℕ) (x : X) → list_any p xs ≡ false → slice_get xs k ≡ Some x → p x ≡ false
none_is p [] k x none at = absurd (cc at)
none_is p (y ∷ xs) zero x none at = ap p (sym (same_Some y x at)) ∙ (or_false (p y) (list_any p xs) none).0
none_is p (y ∷ xs) (suc k) x none at = none_is p xs k x (or_false (p y) (list_any p xs) none).1 at

plain_tree : {A : Type 0} (k : NodeKind) (l : A) (kids rest : Forest A) → is_group k ≡ false → choices kids ≡ None → choices rest ≡ None → choices (tree_of k l kids rest) ≡ None
plain_tree kinds.Group l kids rest plain a b = absurd (cc plain)
plain_tree kinds.Token l kids rest plain a b = rw (a, b) refl
plain_tree kinds.Collection l kids rest plain a b = rw (a, b) refl

is_plain : (r : ℕ) (n : NodeFacts) → is_group_of r n ≡ false → (n.domain == r) ≡ true → is_group n.state.kind ≡ false
is_plain r n none home = ap (λ b. b && is_group n.state.kind) (sym home) ∙ none

plain_kids : {A : Type 0} (label : Labels A) (r i : ℕ) (nodes : List NodeFacts) → list_any (is_group_of r) nodes ≡ false → (p : ℕ) (path : List ℕ) → choices (kids_from label r i nodes p path) ≡ None
plain_kids label r i [] none p path = refl
plain_kids label r i (n ∷ nodes) none p path =
    let own = or_false (is_group_of r n) (list_any (is_group_of r) nodes) none in
    by (n.domain == r) refl (ordinal_under p n.birth) (plain_kids label r (i + 1) nodes own.1) own.0 where
      by : (b : Bool) → (n.domain == r) ≡ b → (u : Option ℕ) → ((p : ℕ) (path : List ℕ) → choices (kids_from label r (i + 1) nodes p path) ≡ None) → is_group_of r n ≡ false
          → choices (before (if b then u else None) (λ o. tree_of n.state.kind (label i (path ++ o ∷ []) n) (kids_from label r (i + 1) nodes i (path ++ o ∷ []))) (kids_from label r (i + 1) nodes p path)) ≡ None
      by false home u rest plain = rest p path
      by true home None rest plain = rest p path
      by true home (Some o) rest plain = plain_tree n.state.kind (label i (path ++ o ∷ []) n) (kids_from label r (i + 1) nodes i (path ++ o ∷ [])) (kids_from label r (i + 1) nodes p path) (is_plain r n plain home)
          (rest i (path ++ o ∷ [])) (rest p path)

pub plain_forest : {A : Type 0} (label : Labels A) (nodes : List NodeFacts) (r : ℕ) (path : List ℕ) → HasDomain nodes r → list_any (is_group_of r) nodes ≡ false → choices (forest_of label nodes r path) ≡ None
plain_forest label nodes r path has none =
    let (n, here, home) = there (λ (z : NodeFacts). z.domain ≡ r) (slice_get nodes r) has in
    ap (λ o. choices (rooted label nodes r path o)) here
    ∙ plain_tree n.state.kind (label r path n) (kids_from label r 0 nodes r path) Empty (is_plain r n (none_is (is_group_of r) nodes r n none here) (eq-eqb n.domain r home)) (plain_kids label r 0 nodes none r path) refl

-- and all of it is settled
no_choices : {A : Type 0} (kids rest : Forest A) (here after : Forest A → Forest A) → kids_else_rest here after (choices kids) (choices rest) ≡ None → (choices kids ≡ None) × (choices rest ≡ None)
no_choices {A} kids rest here after e = by (choices kids) (choices rest) refl refl e where
  by : (ks rs : Option (List (Forest A))) → choices kids ≡ ks → choices rest ≡ rs → kids_else_rest here after ks rs ≡ None → (choices kids ≡ None) × (choices rest ≡ None)
  by (Some ks) rs a b e = absurd (cc e)
  by None (Some rs) a b e = absurd (cc e)
  by None None a b e = (a, b)

all_settled : (d : Forest ℕ) → choices d ≡ None → settled d ≡ labels d
all_settled Empty none = refl
all_settled (Plain n kids rest) none =
    let both = no_choices kids rest (λ k. Plain n k rest) (λ r. Plain n kids r) none in
    ap (λ xs. n ∷ (xs ++ settled rest)) (all_settled kids both.0) ∙ ap (λ xs. n ∷ (labels kids ++ xs)) (all_settled rest both.1)
all_settled (Group n kids rest) none = absurd (cc none)

-- a child stands below its parent, if that stands in the forest
module _ (r : ℕ) where
  kid_found : (nodes : List NodeFacts) (i m j : ℕ) → i + m ≡ j → (q : ℕ) (path : List ℕ) (n : NodeFacts) (o : ℕ) → slice_get nodes m ≡ Some n → kid_of r q n ≡ Some o → In j (labels (kids_from by_number r i nodes q path))
  kid_found [] i m j same q path n o at kid = absurd (cc at)
  kid_found (x ∷ nodes) i zero j same q path n o at kid =
      let own : kid_of r q x ≡ Some o = ap (kid_of r q) (same_Some x n at) ∙ kid in
      let first : i ≡ j = omega (arith, same) in
      subst (λ u. In j (labels (before u (λ o. tree_of x.state.kind i (kids_from by_number r (i + 1) nodes i (path ++ o ∷ []))) (kids_from by_number r (i + 1) nodes q path)))) (sym own)
      (subst (In j) (sym (tree_labels x.state.kind i (kids_from by_number r (i + 1) nodes i (path ++ o ∷ [])) (kids_from by_number r (i + 1) nodes q path))) (inl first))
  kid_found (x ∷ nodes) i (suc m) j same q path n o at kid = by (kid_of r q x) (kid_found nodes (i + 1) m j (omega (arith, same)) q path n o at kid) where
    by : (u : Option ℕ) → In j (labels (kids_from by_number r (i + 1) nodes q path))
        → In j (labels (before u (λ o. tree_of x.state.kind i (kids_from by_number r (i + 1) nodes i (path ++ o ∷ []))) (kids_from by_number r (i + 1) nodes q path)))
    by None h = h
    by (Some o) h =
        let kids : Forest ℕ = kids_from by_number r (i + 1) nodes i (path ++ o ∷ []) in
        let rest : Forest ℕ = kids_from by_number r (i + 1) nodes q path in
        subst (In j) (sym (tree_labels x.state.kind i kids rest)) (inr (in_right j (labels kids) (labels rest) h))

  -- numbers of those from one on
  from_on : (nodes : List NodeFacts) (i q p : ℕ) (path : List ℕ) → In p (labels (kids_from by_number r i nodes q path)) → i ≤ p
  from_on [] i q p path h = absurd h
  from_on (x ∷ nodes) i q p path h = by (kid_of r q x) (from_on nodes (i + 1)) h where
    by : (u : Option ℕ) → ((q p : ℕ) (path : List ℕ) → In p (labels (kids_from by_number r (i + 1) nodes q path)) → i + 1 ≤ p)
        → In p (labels (before u (λ o. tree_of x.state.kind i (kids_from by_number r (i + 1) nodes i (path ++ o ∷ []))) (kids_from by_number r (i + 1) nodes q path))) → i ≤ p
    by None rest h = omega (arith, rest q p path h)
    by (Some o) rest h =
        let kids : Forest ℕ = kids_from by_number r (i + 1) nodes i (path ++ o ∷ []) in
        let behind : Forest ℕ = kids_from by_number r (i + 1) nodes q path in
        at (subst (In p) (tree_labels x.state.kind i kids behind) h) where
          at : In p (i ∷ (labels (kids_from by_number r (i + 1) nodes i (path ++ o ∷ [])) ++ labels (kids_from by_number r (i + 1) nodes q path))) → i ≤ p
          at (inl e) = omega (arith, e)
          at (inr h) = each (in_either p (labels (kids_from by_number r (i + 1) nodes i (path ++ o ∷ []))) (labels (kids_from by_number r (i + 1) nodes q path)) h) where
            each : In p (labels (kids_from by_number r (i + 1) nodes i (path ++ o ∷ []))) ⊎ In p (labels (kids_from by_number r (i + 1) nodes q path)) → i ≤ p
            each (inl h) = omega (arith, rest i p (path ++ o ∷ []) h)
            each (inr h) = omega (arith, rest q p path h)

  below_found : (nodes : List NodeFacts) (i m j : ℕ) → i + m ≡ j → (q : ℕ) (path : List ℕ) (p : ℕ) (n : NodeFacts) (o : ℕ) → In p (labels (kids_from by_number r i nodes q path)) → p < j → slice_get nodes m ≡ Some n → kid_of r p n ≡ Some o
      → In j (labels (kids_from by_number r i nodes q path))
  below_found [] i m j same q path p n o h less at kid = absurd h
  below_found (x ∷ nodes) i zero j same q path p n o h less at kid = let low = from_on (x ∷ nodes) i q p path h in absurd (omega (arith, same, low, less))
  below_found (x ∷ nodes) i (suc m) j same q path p n o h less at kid =
      let next : (i + 1) + m ≡ j = omega (arith, same) in
      by (kid_of r q x) (λ q path h. below_found nodes (i + 1) m j next q path p n o h less at kid) (λ path e. kid_found nodes (i + 1) m j next i path n o at (ap (λ a. kid_of r a n) e ∙ kid)) h where
        by : (u : Option ℕ) → ((q : ℕ) (path : List ℕ) → In p (labels (kids_from by_number r (i + 1) nodes q path)) → In j (labels (kids_from by_number r (i + 1) nodes q path)))
            → ((path : List ℕ) → i ≡ p → In j (labels (kids_from by_number r (i + 1) nodes i path)))
            → In p (labels (before u (λ o. tree_of x.state.kind i (kids_from by_number r (i + 1) nodes i (path ++ o ∷ []))) (kids_from by_number r (i + 1) nodes q path)))
            → In j (labels (before u (λ o. tree_of x.state.kind i (kids_from by_number r (i + 1) nodes i (path ++ o ∷ []))) (kids_from by_number r (i + 1) nodes q path)))
        by None rest own h = rest q path h
        by (Some o) rest own h = subst (In j) (sym (tree_labels x.state.kind i kids behind)) (found (subst (In p) (tree_labels x.state.kind i kids behind) h)) where
          kids : Forest ℕ
          kids = kids_from by_number r (i + 1) nodes i (path ++ o ∷ [])

          behind : Forest ℕ
          behind = kids_from by_number r (i + 1) nodes q path

          each : In p (labels kids) ⊎ In p (labels behind) → In j (labels kids ++ labels behind)
          each (inl h) = in_left j (labels kids) (labels behind) (rest i (path ++ o ∷ []) h)
          each (inr h) = in_right j (labels kids) (labels behind) (rest q path h)

          found : In p (i ∷ (labels kids ++ labels behind)) → In j (i ∷ (labels kids ++ labels behind))
          found (inl e) = inr (in_left j (labels kids) (labels behind) (own (path ++ o ∷ []) e))
          found (inr h) = inr (each (in_either p (labels kids) (labels behind) h))

-- the forest of a domain, by the numbers of its nodes
abbrev forest : List NodeFacts → ℕ → Forest ℕ
forest nodes r = forest_of by_number nodes r []

module _ (nodes : List NodeFacts) (tree : IsTree nodes) (r : ℕ) (has : HasDomain nodes r) where
  begins : labels (forest nodes r) ≡ r ∷ labels (kids_from by_number r 0 nodes r [])
  begins =
      let (n, here, home) = there (λ (z : NodeFacts). z.domain ≡ r) (slice_get nodes r) has in
      let kids : Forest ℕ = kids_from by_number r 0 nodes r [] in
      ap (λ o. labels (rooted by_number nodes r [] o)) here ∙ (tree_labels n.state.kind r kids Empty ∙ ap (λ xs. r ∷ xs) (append-nil (labels kids)))

  -- a child of a node in it stands in it
  kid_in : (k p o : ℕ) (n : NodeFacts) → slice_get nodes k ≡ Some n → kid_of r p n ≡ Some o → p < k → In p (labels (forest nodes r)) → In k (labels (forest nodes r))
  kid_in k p o n at kid less h = subst (In k) (sym begins) (by (subst (In p) begins h)) where
    by : In p (r ∷ labels (kids_from by_number r 0 nodes r [])) → In k (r ∷ labels (kids_from by_number r 0 nodes r []))
    by (inl e) = inr (kid_found r nodes 0 k k (omega arith) r [] n o at (ap (λ a. kid_of r a n) e ∙ kid))
    by (inr h) = inr (below_found r nodes 0 k k (omega arith) r [] p n o h less at kid)

  kid_is : (p : ℕ) (n : NodeFacts) (b : Birth) → n.domain ≡ r → n.birth ≡ Some b → b.parent ≡ p → kid_of r p n ≡ Some b.ordinal
  kid_is p n b home born same = ap (λ t. if t then ordinal_under p n.birth else None) (eq-eqb n.domain r home) ∙ (ap (λ a. ordinal_under a n.birth) (sym same) ∙ under_parent b n.birth born)

  -- so does each of its nodes
  abbrev EachIn : ℕ → Type 0
  EachIn bound = (k : ℕ) → k < bound → (n : NodeFacts) → slice_get nodes k ≡ Some n → n.domain ≡ r → In k (labels (forest nodes r))

  some_at : (xs : List NodeFacts) (i : ℕ) → i < length xs → slice_get xs i ≢ None
  some_at [] i less none = omega (arith, less)
  some_at (x ∷ xs) zero less none = cc none
  some_at (x ∷ xs) (suc i) less none = some_at xs i (omega (arith, less)) none

  -- where those before a child do, the child does
  child_in : (bound k : ℕ) → EachIn bound → k < suc bound → (n : NodeFacts) → slice_get nodes k ≡ Some n → n.domain ≡ r → (r ≡ k → ⊥) → (b : Birth) → n.birth ≡ Some b → b.parent < k → In k (labels (forest nodes r))
  child_in bound k before less n at home other b born low = parent (slice_get nodes b.parent) refl where
    parent : (o : Option NodeFacts) → slice_get nodes b.parent ≡ o → In k (labels (forest nodes r))
    parent None none = absurd (some_at nodes b.parent (omega (arith, low, slice_get_within nodes k n at)) none)
    parent (Some m) here = placed (tree.placed k n m b at born here) where
      placed : IsPlaced k n m → In k (labels (forest nodes r))
      placed (inl same) = kid_in k b.parent b.ordinal n at (kid_is b.parent n b home born refl) low (before b.parent (omega (arith, low, less)) m here (sym same ∙ home))
      placed (inr root) = absurd (other (sym home ∙ root.0))

  next_in : (bound : ℕ) → EachIn bound → EachIn (suc bound)
  next_in bound before k less n at home = by (cases_eq r k) where
    at_number : (i : ℕ) → k ≡ i → (r ≡ k → ⊥) → In k (labels (forest nodes r))
    at_number (suc j) is other =
        let (b, born, low) = there (λ (b : Birth). b.parent ≤ j) n.birth (tree.child j n (ap (slice_get nodes) (sym is) ∙ at)) in
        child_in bound k before less n at home other b born (omega (arith, low, is))
    at_number zero is other =
        let (m, here, root) = there (λ (z : NodeFacts). (z.birth ≡ None) × (z.domain ≡ 0)) (slice_get nodes 0) tree.root in
        let own : n ≡ m = same_Some n m (sym at ∙ (ap (slice_get nodes) is ∙ here)) in
        absurd (other (sym home ∙ (ap (λ (z : NodeFacts). z.domain) own ∙ (root.1 ∙ sym is))))

    by : (r ≡ k) ⊎ (r ≡ k → ⊥) → In k (labels (forest nodes r))
    by (inl e) = subst (In k) (sym begins) (inl e)
    by (inr other) = at_number k refl other

  each_in : (bound : ℕ) → EachIn bound
  each_in zero k less n at home = absurd (omega (arith, less))
  each_in (suc bound) k less n at home = next_in bound (each_in bound) k less n at home

-- the numbers of its nodes, in the order in which these were made
abbrev pub homes : List NodeFacts → ℕ → List ℕ
homes nodes r = numbers_from (λ (n : NodeFacts). n.domain == r) 0 nodes

in_numbers : (p : NodeFacts → Bool) (i : ℕ) (nodes : List NodeFacts) (m k : ℕ) → i + m ≡ k → (n : NodeFacts) → slice_get nodes m ≡ Some n → p n ≡ true → In k (numbers_from p i nodes)
in_numbers p i [] m k same n at is = absurd (cc at)
in_numbers p i (x ∷ nodes) zero k same n at is = by (p x) (ap p (same_Some x n at) ∙ is) where
  first : i ≡ k
  first = omega (arith, same)

  by : (b : Bool) → b ≡ true → In k (firsts (if b then (i, x) ∷ kept_from p (i + 1) nodes else kept_from p (i + 1) nodes))
  by true e = inl first
  by false e = absurd (cc e)
in_numbers p i (x ∷ nodes) (suc m) k same n at is = by (p x) (in_numbers p (i + 1) nodes m k (omega (arith, same)) n at is) where
  by : (b : Bool) → In k (numbers_from p (i + 1) nodes) → In k (firsts (if b then (i, x) ∷ kept_from p (i + 1) nodes else kept_from p (i + 1) nodes))
  by true h = inr h
  by false h = h

-- what passes stands where its number says
record Passes (p : NodeFacts → Bool) (i : ℕ) (nodes : List NodeFacts) (k : ℕ) : Type 0 where
  at : ℕ
  same : i + at ≡ k
  node : NodeFacts
  here : slice_get nodes at ≡ Some node
  is : p node ≡ true

of_numbers : (p : NodeFacts → Bool) (i : ℕ) (nodes : List NodeFacts) (k : ℕ) → In k (numbers_from p i nodes) → Passes p i nodes k
of_numbers p i [] k h = absurd h
of_numbers p i (x ∷ nodes) k h = by (p x) refl (of_numbers p (i + 1) nodes k) h where
  next : Passes p (i + 1) nodes k → Passes p i (x ∷ nodes) k
  next s = record { at = suc s.at; same = omega (arith, s.same); node = s.node; here = s.here; is = s.is }

  by : (b : Bool) → p x ≡ b → (In k (numbers_from p (i + 1) nodes) → Passes p (i + 1) nodes k)
      → In k (firsts (if b then (i, x) ∷ kept_from p (i + 1) nodes else kept_from p (i + 1) nodes)) → Passes p i (x ∷ nodes) k
  by true is rest (inl e) = record { at = 0; same = omega (arith, e); node = x; here = refl; is = is }
  by true is rest (inr h) = next (rest h)
  by false is rest h = next (rest h)

numbers_once : (p : NodeFacts → Bool) (i : ℕ) (nodes : List NodeFacts) → Once (numbers_from p i nodes)
numbers_once p i [] = tt
numbers_once p i (x ∷ nodes) = by (p x) (numbers_once p (i + 1) nodes) where
  later : (xs : List ℕ) → ((k : ℕ) → In k xs → i ≢ k) → AllByRecursion (λ y. i ≢ y) xs
  later [] all = tt
  later (y ∷ ys) all = (all y (inl refl), later ys (λ k h. all k (inr h)))

  apart : (k : ℕ) → In k (numbers_from p (i + 1) nodes) → i ≢ k
  apart k h e = let s = of_numbers p (i + 1) nodes k h in omega (arith, s.same, e)

  by : (b : Bool) → Once (numbers_from p (i + 1) nodes) → Once (firsts (if b then (i, x) ∷ kept_from p (i + 1) nodes else kept_from p (i + 1) nodes))
  by true rest = (later (numbers_from p (i + 1) nodes) apart, rest)
  by false rest = rest

all_in : (P : ℕ → Type 0) (xs : List ℕ) (k : ℕ) → All P xs → In k xs → P k
all_in P [] k all h = absurd h
all_in P (x ∷ xs) k all (inl e) = subst P e (All-head P x xs all)
all_in P (x ∷ xs) k all (inr h) = all_in P xs k (All-tail P x xs all) h

-- they are its members, where none is a group
pub homes_are_members : (nodes : List NodeFacts) (r : ℕ) → IsTree nodes → HasDomain nodes r → list_any (is_group_of r) nodes ≡ false → IsPermutation (homes nodes r) (members_of nodes r [])
homes_are_members nodes r tree has none =
    let all : members_of nodes r [] ≡ labels (forest nodes r) = all_settled (forest nodes r) (plain_forest by_number nodes r [] has none) in
    let once : Once (labels (forest nodes r)) = labels_once nodes r tree has in
    subst (IsPermutation (homes nodes r)) (sym all) (same_numbers (homes nodes r) (labels (forest nodes r)) (numbers_once (λ (n : NodeFacts). n.domain == r) 0 nodes) once into (back all)) where
      into : (k : ℕ) → In k (homes nodes r) → In k (labels (forest nodes r))
      into k h =
          let s = of_numbers (λ (n : NodeFacts). n.domain == r) 0 nodes k h in
          let at : s.at ≡ k = omega (arith, s.same) in
          each_in nodes tree r has (k + 1) k (omega arith) s.node (subst (λ i. slice_get nodes i ≡ Some s.node) at s.here) (eqb-true s.node.domain r s.is)

      back : members_of nodes r [] ≡ labels (forest nodes r) → (k : ℕ) → In k (labels (forest nodes r)) → In k (homes nodes r)
      back all k h =
          let own = all_in (λ i. IsSomeAnd (slice_get nodes i) (λ n. n.domain ≡ r)) (members_of nodes r []) k (members_stand_once nodes r [] tree has).own (subst (In k) (sym all) h) in
          let (n, here, home) = there (λ (z : NodeFacts). z.domain ≡ r) (slice_get nodes k) own in
          in_numbers (λ (n : NodeFacts). n.domain == r) 0 nodes k k (omega arith) n here (eq-eqb n.domain r home)

-- those of them that set constraints ask what all of them do
asked_from : (all : List NodeFacts) (r i : ℕ) (nodes : List NodeFacts) → ((m : ℕ) (n : NodeFacts) → slice_get nodes m ≡ Some n → slice_get all (i + m) ≡ Some n)
    → asked_in all (numbers_from (λ (n : NodeFacts). n.domain == r) i nodes) ≡ asked_in all (numbers_from (asks_in r) i nodes)
asked_from all r i [] front = refl
asked_from all r i (x ∷ nodes) front =
    by (x.domain == r) x.constraints refl (asked_from all r (i + 1) nodes (λ m n here. let shift : i + suc m ≡ (i + 1) + m = omega arith in subst (λ k. slice_get all k ≡ Some n) shift (front (suc m) n here))) where
      zeroed : i + 0 ≡ i
      zeroed = omega arith

      here : slice_get all i ≡ Some x
      here = subst (λ k. slice_get all k ≡ Some x) zeroed (front 0 x refl)

      by : (b : Bool) (o : Option Participant) → x.constraints ≡ o → asked_in all (numbers_from (λ (n : NodeFacts). n.domain == r) (i + 1) nodes) ≡ asked_in all (numbers_from (asks_in r) (i + 1) nodes)
          → asked_in all (firsts (if b then (i, x) ∷ kept_from (λ (n : NodeFacts). n.domain == r) (i + 1) nodes else kept_from (λ (n : NodeFacts). n.domain == r) (i + 1) nodes))
          ≡ asked_in all (firsts (if b && is_some o then (i, x) ∷ kept_from (asks_in r) (i + 1) nodes else kept_from (asks_in r) (i + 1) nodes))
      by false o asks rest = rest
      by true (Some p) asks rest = ap (cons_option (asks_at all i)) rest
      by true None asks rest = ap (λ u. cons_option u (asked_in all (numbers_from (λ (n : NodeFacts). n.domain == r) (i + 1) nodes))) (ap (option_and_then (λ (n : NodeFacts). n.constraints)) here ∙ asks) ∙ rest

pub asked_by_homes : (nodes : List NodeFacts) (r : ℕ) → asked_in nodes (homes nodes r) ≡ asked_in nodes (asking_in nodes r)
asked_by_homes nodes r = asked_from nodes r 0 nodes (λ m n here. let z : m ≡ 0 + m = omega arith in subst (λ k. slice_get nodes k ≡ Some n) z here)
