-- What refutes a forest that can't be met, choice by choice.
use Rattle.std.proofs.Common.{◌≡◌, ◌≤◌, ◌<◌, ℕ, ◌+◌, zero, suc, List, [], ◌∷◌, ◌++◌, Option, Some, None, length, drop, get_or, take, slice_get, inl, inr, is_some, refl, sym, ◌∙◌, ap, subst, arith, append_assoc, add-one}
use Rattle.std.specs.Prelude.{IfSome, IsSome, IsSomeAnd, option_map, option_and_then}
use Rattle.std.specs.List.{AllZip, flat_map}
use Rattle.std.proofs.lemmas.List.{append-nil, drop_more, flat_map_more, length-take-le, take_more}
use Rattle.std.proofs.lemmas.Option.{same_Some, none-some, slice_get_within}
use Rattle.verdict_claims.specs.Certificate.{IsRefutation, RefutesEarlier}
use Rattle.verdict_claims.specs.Conflict.{IsConflictFor}
use Rattle.verdict_claims.specs.FirstConflict.{IsFirstConflictFor}
use Rattle.verdict_claims.specs.declared.refutation.Item.{Item}
use Rattle.verdict_claims.specs.declared.refutation.Item.TheVariants.{Split}
use Rattle.verdict_claims.specs.Matter.{Matter, forest, terms}
use Rattle.verdict_claims.specs.Verdict.{Meeting, IsForestUnmet, IsUnmetBefore}
use Rattle.verdict_claims.proofs.CallerLemmas.{splits_refute, earlier_grows}
use Rattle.search_questions.specs.Question.{MeetsOf, MeetsSoFar}
use Rattle.sysmem_search.specs.Cut.{AreCut, IsCut}
use Rattle.search_questions.specs.Live.{SomeMeet}
use Rattle.sysmem_search.specs.Refuting.{AddsRefutation, IsCutRefutation, RefutesFirst}
use Rattle.search_questions.specs.Standing.{Standing}
use Rattle.search_questions.proofs.CallerLemmas.{if_some, Child, after_push, child, some_and, and_some}
use Rattle.sysmem_search.proofs.Cut.{earlier_cut, splits_cut, zip_to}
use Rattle.sysmem_tree.specs.Forest.{Forest, choices}
use Rattle.sysmem_tree.specs.Selection.{IsEarlierSelection, IsPrefix, IsSelection, after}
use Rattle.sysmem_tree.specs.Shape.{Member}
use Rattle.list_lemmas.proofs.CallerLemmas.{of_some}

-- what holds place by place of two lists holds with one more at the end of each
zip_push : {A B : Type 0} (R : A → B → Type 0) (xs : List A) (ys : List B) (c : ℕ) (x : A) (y : B) → AllZip R (take c xs) ys → slice_get xs c ≡ Some x → R x y → AllZip R (take (suc c) xs) (ys ++ y ∷ [])
zip_push R [] ys c x y zip here r = absurd (none-some x here)
zip_push R (a ∷ xs) [] zero x y zip here r = (subst (λ z. R z y) (sym (same_Some a x here)) r, tt)
zip_push R (a ∷ xs) (b ∷ ys) zero x y zip here r = absurd zip
zip_push R (a ∷ xs) [] (suc c) x y zip here r = absurd zip
zip_push R (a ∷ xs) (b ∷ ys) (suc c) x y zip here r = (zip.0, zip_push R xs ys c x y zip.1 here r)

-- a selection that goes on from a child, behind the choice of it
joins : (d e f : Forest Member) (es : List (Forest Member)) (c : ℕ) (cs : List ℕ) → choices d ≡ Some es → slice_get es c ≡ Some e → IsSelection e cs f → IsSelection d (c ∷ cs) f
joins d e f es c cs open' here s = record {
  leads = ap (λ o. option_and_then (λ x. after x cs) (option_and_then (λ xs. slice_get xs c) o)) open' ∙ (ap (option_and_then (λ x. after x cs)) here ∙ s.leads);
  whole = s.whole;
}

module _ (Met : Meeting) (d e : Forest Member) (es : List (Forest Member)) (c : ℕ) (open' : choices d ≡ Some es) (here : slice_get es c ≡ Some e) where
  -- what can't be met can't be by any choice
  pub child_unmet : IsForestUnmet Met d → IsForestUnmet Met e
  child_unmet unmet cs f t s met = unmet (c ∷ cs) f t (joins d e f es c cs open' here s) met

  -- nor by one before another, where what is earlier than that can't
  pub earlier_unmet : (choice : ℕ) → c < choice → IsUnmetBefore Met d (choice ∷ []) → IsForestUnmet Met e
  earlier_unmet choice less unmet cs f t s met = unmet (c ∷ cs) f t (joins d e f es c cs open' here s) (inl less) met

  -- what is earlier behind a choice is earlier than both
  pub rest_unmet : (cs : List ℕ) → IsUnmetBefore Met d (c ∷ cs) → IsUnmetBefore Met e cs
  rest_unmet cs unmet other f t s earlier met = unmet (c ∷ other) f t (joins d e f es c other open' here s) (inr (refl, earlier)) met

-- what is earlier than the first of some choices is earlier than all of them
pub first_unmet : (Met : Meeting) (d : Forest Member) (c : ℕ) (cs : List ℕ) → IsUnmetBefore Met d (c ∷ cs) → IsUnmetBefore Met d (c ∷ [])
first_unmet Met d c cs unmet other f t s earlier met = unmet other f t s (still other earlier) met where
  none : (other : List ℕ) → IsEarlierSelection other [] → ⊥
  none [] h = h
  none (x ∷ other) h = h

  still : (other : List ℕ) → IsEarlierSelection other (c ∷ []) → IsEarlierSelection other (c ∷ cs)
  still [] h = absurd h
  still (x ∷ other) (inl less) = inl less
  still (x ∷ other) (inr on) = absurd (none other on.1)

-- the first of choices that can be made
pub record FirstChoice (d : Forest Member) (c : ℕ) (cs : List ℕ) : Type 0 where
  pub alternatives : List (Forest Member)
  pub open' : choices d ≡ Some alternatives
  pub child : Forest Member
  pub here : slice_get alternatives c ≡ Some child
  pub goes_on : IsPrefix child cs

pub first_choice : (d : Forest Member) (c : ℕ) (cs : List ℕ) → IsPrefix d (c ∷ cs) → FirstChoice d c cs
first_choice d c cs h = by (choices d) refl h where
  at : (es : List (Forest Member)) → choices d ≡ Some es → (o : Option (Forest Member)) → slice_get es c ≡ o → IsSome (option_and_then (λ e. after e cs) o) → FirstChoice d c cs
  at es open' None here h = absurd (cc)
  at es open' (Some e) here h = record { alternatives = es; open' = open'; child = e; here = here; goes_on = h }

  by : (o : Option (List (Forest Member))) → choices d ≡ o → IsSome (option_and_then (λ e. after e cs) (option_and_then (λ es. slice_get es c) o)) → FirstChoice d c cs
  by None open' h = absurd (cc)
  by (Some es) open' h = at es open' (slice_get es c) refl h

-- where choices lead before the last
front_leads : (f : Forest Member) (cs : List ℕ) (c : ℕ) → IsPrefix f (cs ++ c ∷ []) → (d : Forest Member) × (after f cs ≡ Some d) × IsPrefix d (c ∷ [])
front_leads f [] c h = (f, refl, h)
front_leads f (x ∷ cs) c h = by (option_and_then (λ es. slice_get es x) (choices f)) (λ e. front_leads e cs c) h where
  by : (o : Option (Forest Member)) → ((e : Forest Member) → IsPrefix e (cs ++ c ∷ []) → (d : Forest Member) × (after e cs ≡ Some d) × IsPrefix d (c ∷ []))
      → IsSome (option_and_then (λ e. after e (cs ++ c ∷ [])) o) → (d : Forest Member) × (option_and_then (λ e. after e cs) o ≡ Some d) × IsPrefix d (c ∷ [])
  by None rest h = absurd (cc)
  by (Some e) rest h = rest e h

-- where a choice can be made there are more children than its number
pub record HasChildren (m : Matter) (cs : List ℕ) (c : ℕ) : Type 0 where
  pub many : ℕ
  pub less : c < many
  pub prefix : IsPrefix (forest m) cs
  pub number : IfSome (after (forest m) cs) (λ d. option_map length (choices d) ≡ Some many)

pub has_children : (m : Matter) (cs : List ℕ) (c : ℕ) → IsPrefix (forest m) (cs ++ c ∷ []) → HasChildren m cs c
has_children m cs c h =
    let (d, leads, on) = front_leads (forest m) cs c h in
    let first = first_choice d c [] on in
    record {
      many = length first.alternatives;
      less = slice_get_within first.alternatives c first.child first.here;
      prefix = ap is_some leads;
      number = if_some (λ x. option_map length (choices x) ≡ Some (length first.alternatives)) (after (forest m) cs) (λ x here.
          ap (λ y. option_map length (choices y)) (same_Some x d (sym here ∙ leads)) ∙ ap (option_map length) first.open');
    }

module _ (m : Matter) where
  -- no choice is refuted yet
  pub none_refuted : (o : Option (Forest Member)) (n : ℕ) → IfSome o (λ d. option_map length (choices d) ≡ Some n) → IfSome o (λ d. RefutesFirst m d 0 [])
  none_refuted None n many = tt
  none_refuted (Some d) n many = by (choices d) many where
    by : (o : Option (List (Forest Member))) → option_map length o ≡ Some n → IsSomeAnd o (λ es. AllZip (IsCutRefutation m) (take 0 es) [])
    by None e = absurd (cc)
    by (Some es) e = tt

  -- one more is
  one_refuted : (d e : Forest Member) (es : List (Forest Member)) (c : ℕ) (rs : List (List Item)) (r : List Item) → choices d ≡ Some es → slice_get es c ≡ Some e → RefutesFirst m d c rs
      → IsCutRefutation m e r → RefutesFirst m d (c + 1) (rs ++ r ∷ [])
  one_refuted d e es c rs r open' here so refutes = and_some (λ xs. AllZip (IsCutRefutation m) (take (c + 1) xs) (rs ++ r ∷ [])) (choices d) es open'
      (rw add-one (zip_push (IsCutRefutation m) es rs c e r (some_and (λ xs. AllZip (IsCutRefutation m) (take c xs) rs) (choices d) es open' so) here refutes))

  -- the split of the first group joined the items, and refutations of its first choices
  pub record AddsChoices (d : Forest Member) (c : ℕ) (old new : List Item) : Type 0 where
    pub alternatives : List (Forest Member)
    pub open' : choices d ≡ Some alternatives
    pub refutations : List (List Item)
    pub items : new ≡ old ++ Split (length alternatives) ∷ flat_map (λ xs. xs) refutations
    pub refuted : RefutesFirst m d c refutations

  -- before the first choice
  pub no_choice_added : (o : Option (Forest Member)) (n : ℕ) (old new : List Item) → IfSome o (λ d. option_map length (choices d) ≡ Some n) → new ≡ old ++ Split n ∷ [] → IfSome o (λ d. AddsChoices d 0 old new)
  no_choice_added None n old new many items = tt
  no_choice_added (Some d) n old new many items = by (choices d) refl many where
    by : (o : Option (List (Forest Member))) → choices d ≡ o → option_map length o ≡ Some n → AddsChoices d 0 old new
    by None open' e = absurd (cc)
    by (Some es) open' e = record {
      alternatives = es;
      open' = open';
      refutations = [];
      items = items ∙ ap (λ k. old ++ Split k ∷ []) (sym (same_Some (length es) n e));
      refuted = none_refuted (Some d) n many;
    }

  one_added : (d e : Forest Member) (c : ℕ) (old mid new : List Item) → (so : AddsChoices d c old mid) → slice_get so.alternatives c ≡ Some e → AddsRefutation m e mid new → AddsChoices d (c + 1) old new
  one_added d e c old mid new so here adds = record {
    alternatives = so.alternatives;
    open' = so.open';
    refutations = so.refutations ++ adds.refutation ∷ [];
    items = adds.items ∙ (ap (λ xs. xs ++ adds.refutation) so.items
        ∙ (append_assoc old (Split (length so.alternatives) ∷ flat_map (λ xs. xs) so.refutations) adds.refutation
        ∙ ap (λ xs. old ++ Split (length so.alternatives) ∷ xs) (flat_map_more (λ xs. xs) [] so.refutations adds.refutation)));
    refuted = one_refuted d e so.alternatives c so.refutations adds.refutation so.open' here so.refuted (adds.refutes, adds.cut);
  }

  -- behind the last choice
  pub all_choices_added : (o : Option (Forest Member)) (c n : ℕ) (old new : List Item) → n ≤ c → c ≤ n → IfSome o (λ d. option_map length (choices d) ≡ Some n)
      → IfSome o (SomeMeet (MeetsSoFar m)) → IfSome o (λ d. AddsChoices d c old new) → IfSome o (λ d. AddsRefutation m d old new)
  all_choices_added None c n old new over up many met so = tt
  all_choices_added (Some d) c n old new over up many met so =
      let long : Some (length so.alternatives) ≡ Some n = ap (option_map length) (sym so.open') ∙ many in
      let l : length so.alternatives ≡ n = same_Some (length so.alternatives) n long in
      let all : c ≡ length so.alternatives = omega (arith, l, over, up) in
      let zip = some_and (λ xs. AllZip (IsCutRefutation m) (take c xs) so.refutations) (choices d) so.alternatives so.open' so.refuted in
      let each = subst (λ xs. AllZip (IsCutRefutation m) xs so.refutations) (ap (λ k. take k so.alternatives) all ∙ take_all so.alternatives) zip in
      let refuted = zip_to (IsCutRefutation m) (IsRefutation m.platform (terms m)) (λ e items h. h.0) so.alternatives so.refutations each in
      record {
        refutation = Split (length so.alternatives) ∷ flat_map (λ xs. xs) so.refutations;
        items = so.items;
        refutes = splits_refute (IsConflictFor m.platform (terms m)) d so.alternatives so.refutations so.open' refuted;
        cut = splits_cut (MeetsSoFar m) (IsFirstConflictFor m.platform (terms m)) (IsConflictFor m.platform (terms m)) d so.alternatives so.refutations so.open' met refuted
            (zip_to (IsCutRefutation m) (IsCut m) (λ e items h. h.1) so.alternatives so.refutations each);
      } where
        take_all : {A : Type 0} (xs : List A) → take (length xs) xs ≡ xs
        take_all [] = refl
        take_all (x ∷ xs) = ap (λ ys. x ∷ ys) (take_all xs)

-- where a choice for the group that is next is made
module _ (m : Matter) (cs pushed : List ℕ) (c n : ℕ) (prefix : IsPrefix (forest m) cs) (less : c < n) (is : pushed ≡ cs ++ c ∷ [])
    (many : IfSome (after (forest m) cs) (λ d. option_map length (choices d) ≡ Some n)) where
  next : Child m cs pushed c n 0 prefix less is many
  next = child m cs pushed c n 0 prefix less is many

  -- what holds of the child, from what holds of the group's forest
  of_child : (P Q : Forest Member → Type 0) → (P next.forest_here → Q next.child) → IfSome (after (forest m) cs) P → IfSome (after (forest m) pushed) Q
  of_child P Q step h = if_some Q (after (forest m) pushed) (λ e leads. subst Q (same_Some next.child e (sym next.goes_on ∙ leads)) (step (of_some P (after (forest m) cs) next.forest_here next.leads h)))

  -- it can't be met
  pub choice_unmet : IfSome (after (forest m) cs) (λ d. IsForestUnmet (MeetsOf m) d) → IfSome (after (forest m) pushed) (λ e. IsForestUnmet (MeetsOf m) e)
  choice_unmet = of_child (λ d. IsForestUnmet (MeetsOf m) d) (λ e. IsForestUnmet (MeetsOf m) e)
      (child_unmet (MeetsOf m) next.forest_here next.child next.alternatives c next.open' next.here)

  pub earlier_choice_unmet : (choice : ℕ) → c < choice → IfSome (after (forest m) cs) (λ d. IsUnmetBefore (MeetsOf m) d (choice ∷ [])) → IfSome (after (forest m) pushed) (λ e. IsForestUnmet (MeetsOf m) e)
  earlier_choice_unmet choice below = of_child (λ d. IsUnmetBefore (MeetsOf m) d (choice ∷ [])) (λ e. IsForestUnmet (MeetsOf m) e)
      (earlier_unmet (MeetsOf m) next.forest_here next.child next.alternatives c next.open' next.here choice below)

  -- what holds of the group's forest, from what holds of it and of the child
  of_both : (P R Q : Forest Member → Type 0) → (P next.forest_here → R next.child → Q next.forest_here) → IfSome (after (forest m) cs) P → IfSome (after (forest m) pushed) R → IfSome (after (forest m) cs) Q
  of_both P R Q step h k = if_some Q (after (forest m) cs) (λ d leads. subst Q (same_Some next.forest_here d (sym next.leads ∙ leads))
      (step (of_some P (after (forest m) cs) next.forest_here next.leads h) (of_some R (after (forest m) pushed) next.child next.goes_on k)))

  -- a refutation of it joins those of the choices before
  pub choice_added : (old mid new : List Item) → IfSome (after (forest m) cs) (λ d. AddsChoices m d c old mid) → IfSome (after (forest m) pushed) (λ e. AddsRefutation m e mid new)
      → IfSome (after (forest m) cs) (λ d. AddsChoices m d (c + 1) old new)
  choice_added old mid new = of_both (λ d. AddsChoices m d c old mid) (λ e. AddsRefutation m e mid new) (λ d. AddsChoices m d (c + 1) old new)
      (λ so adds. one_added m next.forest_here next.child c old mid new so (ap (λ es. slice_get es c) (same_Some so.alternatives next.alternatives (sym so.open' ∙ next.open')) ∙ next.here) adds)

  pub choice_refuted : (rs : List (List Item)) (none items r : List Item) → none ≡ [] → r ≡ items → IfSome (after (forest m) cs) (λ d. RefutesFirst m d c rs)
      → IfSome (after (forest m) pushed) (λ e. AddsRefutation m e none items) → IfSome (after (forest m) cs) (λ d. RefutesFirst m d (c + 1) (rs ++ r ∷ []))
  choice_refuted rs none items r empty same = of_both (λ d. RefutesFirst m d c rs) (λ e. AddsRefutation m e none items) (λ d. RefutesFirst m d (c + 1) (rs ++ r ∷ []))
      (λ so adds. one_refuted m next.forest_here next.child next.alternatives c rs r next.open' next.here so
      (subst (IsCutRefutation m next.child) (sym (same ∙ (adds.items ∙ ap (λ xs. xs ++ adds.refutation) empty))) (adds.refutes, adds.cut)))

-- a search that has made no choice
pub at_start : (q : Standing) → q.choices ≡ [] → q ≡ record { matter = q.matter; choices = [] }
at_start q none = ap (λ xs. record { matter = q.matter; choices = xs }) none

-- and where it stands after one choice more
pub went_on : (m : Matter) (s t : Standing) (c : ℕ) (xs ys : List ℕ) → s ≡ record { matter = t.matter; choices = t.choices ++ c ∷ [] } → t ≡ record { matter = m; choices = xs } → ys ≡ xs ++ c ∷ []
    → s ≡ record { matter = m; choices = ys }
went_on m s t c xs ys entered same longer = entered ∙ (ap (λ (x : Standing). record { matter = x.matter; choices = x.choices ++ c ∷ [] }) same ∙ ap (λ zs. record { matter = m; choices = zs }) (sym longer))

-- the next of a selection's choices
pub next_choice : (xs selection : List ℕ) (k : ℕ) → xs ≡ selection → k < length xs
    → (drop k selection ≡ get_or xs k 0 ∷ drop (k + 1) selection) × (take (k + 1) selection ≡ take k selection ++ get_or xs k 0 ∷ [])
next_choice xs selection k same less = (
  ap (drop k) (sym same) ∙ (drop_more xs k 0 less ∙ ap (λ ys. get_or xs k 0 ∷ drop (k + 1) ys) same),
  ap (take (k + 1)) (sym same) ∙ (take_more xs k 0 less ∙ ap (λ ys. take k ys ++ get_or xs k 0 ∷ []) same),
)

-- fewer choices were made than it has
pub room_on_way : (m : Matter) (q : Standing) (xs selection : List ℕ) (k : ℕ) → q ≡ record { matter = m; choices = take k selection } → xs ≡ selection → k < length xs → length selection ≤ 128
    → length q.choices < 128
room_on_way m q xs selection k is same less few =
    let all = ap length same in
    let made = ap (λ (s : Standing). length s.choices) is in
    let long = length-take-le k selection (omega (arith, all, less)) in omega (arith, made, long, all, less, few)

-- so many choices of a selection were made, and what is earlier up to there is refuted
pub record OnWay (m : Matter) (selection : List ℕ) (k : ℕ) (earlier : List (List (List Item))) : Type 0 where
  pub here : Forest Member
  pub leads : after (forest m) (take k selection) ≡ Some here
  pub goes_on : IsPrefix here (drop k selection)
  pub unmet : IsUnmetBefore (MeetsOf m) here (drop k selection)
  pub refuted : (rss : List (List (List Item))) → RefutesEarlier (IsConflictFor m.platform (terms m)) here (drop k selection) rss
      → RefutesEarlier (IsConflictFor m.platform (terms m)) (forest m) selection (earlier ++ rss)
  pub cut : (rss : List (List (List Item))) → AreCut m here (drop k selection) rss → AreCut m (forest m) selection (earlier ++ rss)

pub way_begun : (m : Matter) (selection : List ℕ) (earlier : List (List (List Item))) → earlier ≡ [] → IsPrefix (forest m) selection → IsUnmetBefore (MeetsOf m) (forest m) selection → OnWay m selection 0 earlier
way_begun m selection earlier none prefix unmet = record {
  here = forest m;
  leads = refl;
  goes_on = prefix;
  unmet = unmet;
  refuted = λ rss r. subst (λ xs. RefutesEarlier (IsConflictFor m.platform (terms m)) (forest m) selection (xs ++ rss)) (sym none) r;
  cut = λ rss r. subst (λ xs. AreCut m (forest m) selection (xs ++ rss)) (sym none) r;
}

pub way_ended : (m : Matter) (selection : List ℕ) (k : ℕ) (earlier : List (List (List Item))) → OnWay m selection k earlier → drop k selection ≡ []
    → RefutesEarlier (IsConflictFor m.platform (terms m)) (forest m) selection earlier
way_ended m selection k earlier way none = subst (RefutesEarlier (IsConflictFor m.platform (terms m)) (forest m) selection) (append-nil earlier)
    (way.refuted [] (subst (λ xs. RefutesEarlier (IsConflictFor m.platform (terms m)) way.here xs []) (sym none) tt))

pub way_cut : (m : Matter) (selection : List ℕ) (k : ℕ) (earlier : List (List (List Item))) → OnWay m selection k earlier → drop k selection ≡ [] → AreCut m (forest m) selection earlier
way_cut m selection k earlier way none = subst (AreCut m (forest m) selection) (append-nil earlier) (way.cut [] (subst (λ xs. AreCut m way.here xs []) (sym none) tt))

module _ (m : Matter) (selection : List ℕ) (k c : ℕ) (earlier : List (List (List Item))) (way : OnWay m selection k earlier) (begins : drop k selection ≡ c ∷ drop (k + 1) selection)
    (ends : take (k + 1) selection ≡ take k selection ++ c ∷ []) where
  first : FirstChoice way.here c (drop (k + 1) selection)
  first = first_choice way.here c (drop (k + 1) selection) (subst (IsPrefix way.here) begins way.goes_on)

  further : after (forest m) (take k selection ++ c ∷ []) ≡ Some first.child
  further = after_push (take k selection) (forest m) way.here first.child first.alternatives c way.leads first.open' first.here

  -- the next choice can be made
  pub next_prefix : IsPrefix (forest m) (take k selection ++ c ∷ [])
  next_prefix = ap is_some further

  -- what is earlier than it can't be met
  pub next_unmet : IfSome (after (forest m) (take k selection)) (λ d. IsUnmetBefore (MeetsOf m) d (c ∷ []))
  next_unmet = if_some (λ d. IsUnmetBefore (MeetsOf m) d (c ∷ [])) (after (forest m) (take k selection)) (λ d leads.
      subst (λ x. IsUnmetBefore (MeetsOf m) x (c ∷ [])) (same_Some way.here d (sym way.leads ∙ leads))
      (first_unmet (MeetsOf m) way.here c (drop (k + 1) selection) (subst (IsUnmetBefore (MeetsOf m) way.here) begins way.unmet)))

  -- and where that is refuted the way goes on behind it
  pub way_further : (rs : List (List Item)) (longer : List (List (List Item))) → longer ≡ earlier ++ rs ∷ [] → IfSome (after (forest m) (take k selection)) (λ d. RefutesFirst m d c rs) → OnWay m selection (k + 1) longer
  way_further rs longer is refuted = record {
    here = first.child;
    leads = ap (after (forest m)) ends ∙ further;
    goes_on = first.goes_on;
    unmet = rest_unmet (MeetsOf m) way.here first.child first.alternatives c first.open' first.here (drop (k + 1) selection) (subst (IsUnmetBefore (MeetsOf m) way.here) begins way.unmet);
    refuted = λ rss r. subst (RefutesEarlier (IsConflictFor m.platform (terms m)) (forest m) selection) (sym (ap (λ xs. xs ++ rss) is ∙ append_assoc earlier (rs ∷ []) rss))
        (way.refuted (rs ∷ rss) (subst (λ xs. RefutesEarlier (IsConflictFor m.platform (terms m)) way.here xs (rs ∷ rss)) (sym begins)
        (earlier_grows (IsConflictFor m.platform (terms m)) way.here first.child first.alternatives c (drop (k + 1) selection) rs rss first.open' first.here
        (zip_to (IsCutRefutation m) (IsRefutation m.platform (terms m)) (λ e items h. h.0) (take c first.alternatives) rs zip) r)));
    cut = λ rss r. subst (AreCut m (forest m) selection) (sym (ap (λ xs. xs ++ rss) is ∙ append_assoc earlier (rs ∷ []) rss))
        (way.cut (rs ∷ rss) (subst (λ xs. AreCut m way.here xs (rs ∷ rss)) (sym begins)
        (earlier_cut m way.here first.child first.alternatives c (drop (k + 1) selection) rs rss first.open' first.here
        (zip_to (IsCutRefutation m) (IsCut m) (λ e items h. h.1) (take c first.alternatives) rs zip) r)));
  } where
    zip : AllZip (IsCutRefutation m) (take c first.alternatives) rs
    zip = some_and (λ xs. AllZip (IsCutRefutation m) (take c xs) rs) (choices way.here) first.alternatives first.open'
        (of_some (λ d. RefutesFirst m d c rs) (after (forest m) (take k selection)) way.here way.leads refuted)
