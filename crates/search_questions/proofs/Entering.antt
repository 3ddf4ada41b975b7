-- What a search keeps where it stands, from one choice to the next.
use Rattle.std.proofs.Common.{◌≡◌, ◌≢◌, ◌<◌, ◌≤◌, ◌+◌, ℕ, zero, suc, List, [], ◌∷◌, ◌++◌, Option, Some, None, length, take, slice_get, slice_set, get_or, is_some, Bool, true, refl, sym, ◌∙◌, ap, subst, arith, inl, inr, length-append}
use Rattle.std.specs.Prelude.{IfSome, IsSomeAnd, IsPermutation, option_map}
use Rattle.std.proofs.lemmas.Bool.{cases_eq}
use Rattle.std.proofs.lemmas.List.{take_all, length-set}
use Rattle.std.proofs.lemmas.List.Elements.{filter_map-append}
use Rattle.std.proofs.lemmas.List.Sorted.{length_permutation}
use Rattle.std.proofs.lemmas.Option.{same_Some, slice_get_within}
use Rattle.list_lemmas.proofs.CallerLemmas.{slice_get-set_same, slice_get-set_other, of_some, taken_in_order}
use Rattle.sysmem_merge.specs.Sum.{SumsInAnyOrder}
use Rattle.verdict_claims.specs.Members.{participants}
use Rattle.negotiation_inputs.specs.Participant.{Participant}
use Rattle.search_questions.specs.declared.kept.ChoiceShare.{ChoiceShare}
use Rattle.search_questions.specs.declared.levels.Level.{Level}
use Rattle.search_questions.specs.Kept.{IsKeptFor, IsPartFor, HaveRoom}
use Rattle.verdict_claims.specs.Matter.{Matter, forest}
use Rattle.verdict_claims.specs.Asked.{asks_at, asked_in}
use Rattle.search_questions.specs.Standing.{IsLevel, AreLevels, AreMade, AreParts, AreSteps, IsFilled, IsSlot, IsStep, IsWholeLevel, StandsAt, numbers}
use Rattle.search_questions.proofs.Keeping.{kept_in_order, have_room}
use Rattle.search_questions.proofs.AskedMembers.{root_there, numbers_left, same_asked, some_of, if_some}
use Rattle.search_questions.proofs.Shapes.{few_settled}
use Rattle.search_questions.proofs.Taking.{few_asked_of}
use Rattle.search_questions.proofs.Walking.{few_accepted}
use Rattle.sysmem_tree.specs.declared.layout.Layout.{Layout}
use Rattle.sysmem_tree.specs.Forest.{Forest, choices, settled, first_group}
use Rattle.sysmem_tree.proofs.CallerLemmas.{first_many}
use Rattle.sysmem_tree.specs.LayoutLaws.{ChoiceSettlesShare, NoneOpenIsSelection}
use Rattle.sysmem_tree.specs.OpenGroups.{IsChildPlace, IsFirstOpen, share_of}
use Rattle.sysmem_tree.specs.Selection.{after, IsPrefix}
use Rattle.sysmem_tree.specs.Shape.{Member}

-- goes out of an option that is there
pub there : {X : Type 0} (P : X → Type 0) (o : Option X) → IsSomeAnd o P → (x : X) × (o ≡ Some x) × P x
there P None h = absurd h
there P (Some x) h = (x, refl, h)

pub and_there : {X : Type 0} (P : X → Type 0) (o : Option X) (x : X) → o ≡ Some x → P x → IsSomeAnd o P
and_there P None x is h = absurd (cc)
and_there P (Some y) x is h = subst P (sym (same_Some y x is)) h

-- what holds of it where more does
pub some_weaker : {X : Type 0} (P Q : X → Type 0) (o : Option X) → ((x : X) → P x → Q x) → IsSomeAnd o P → IsSomeAnd o Q
some_weaker P Q None h p = absurd p
some_weaker P Q (Some x) h p = h x p

-- what stands at a place of a list
pub at_index : {X : Type 0} (xs : List X) (k : ℕ) (x : X) → x ≡ get_or xs k x → k < length xs → slice_get xs k ≡ Some x
at_index [] k x is less = absurd (omega (arith, less))
at_index (y ∷ xs) zero x is less = ap Some (sym is)
at_index (y ∷ xs) (suc k) x is less = at_index xs k x is (omega (arith, less))

-- a front of choices is one of more choices
front_of : (cs : List ℕ) (c k : ℕ) → k ≤ length cs → take k (cs ++ c ∷ []) ≡ take k cs
front_of [] c zero within = refl
front_of [] c (suc k) within = absurd (omega (arith, within))
front_of (x ∷ cs) c zero within = refl
front_of (x ∷ cs) c (suc k) within = ap (λ xs. x ∷ xs) (front_of cs c k (omega (arith, within)))

module _ (m : Matter) (layout : Layout) where
  -- the level where it stands
  pub level_here : (cs : List ℕ) (levels : List Level) → AreLevels m layout cs levels → IsSomeAnd (slice_get levels (length cs)) (IsLevel m layout cs)
  level_here cs levels are = subst (λ xs. IsSomeAnd (slice_get levels (length cs)) (IsLevel m layout xs)) (take_all (length cs) cs (omega arith)) (are (length cs) (omega arith))

  -- what is read there is it
  pub level_at : (parts : List (Option ChoiceShare)) (levels : List Level) (items cs : List ℕ) (level : Level) → items ≡ cs → StandsAt m layout parts levels cs
      → level ≡ get_or levels (length items) level → IsLevel m layout cs level
  level_at parts levels items cs level same keeps is =
      let (l, here, h) = there (IsLevel m layout cs) (slice_get levels (length cs)) (level_here cs levels keeps.fronts) in
      let at = at_index levels (length cs) level (subst (λ xs. level ≡ get_or levels (length xs) level) same is) (slice_get_within levels (length cs) l here) in
      subst (IsLevel m layout cs) (same_Some l level (sym here ∙ at)) h

  -- there is such a level
  pub level_within : (parts : List (Option ChoiceShare)) (levels : List Level) (items cs : List ℕ) → items ≡ cs → StandsAt m layout parts levels cs → length items < length levels
  level_within parts levels items cs same keeps =
      let (l, here, h) = there (IsLevel m layout cs) (slice_get levels (length cs)) (level_here cs levels keeps.fronts) in
      subst (λ xs. length xs < length levels) (sym same) (slice_get_within levels (length cs) l here)

  -- what is kept there is of what the choices settle
  pub kept_at : (cs : List ℕ) (level : Level) → IsLevel m layout cs level → (d : Forest Member) → after (forest m) cs ≡ Some d → IsKeptFor m level.kept (participants (settled d))
  kept_at cs level is d leads = subst (λ x. IsKeptFor m level.kept (participants (settled x))) (same_Some is.left d (sym is.leads ∙ leads)) is.kept

  -- a step is one with more parts
  more_filled : (parts parts' : List (Option ChoiceShare)) (above next : Forest Member) (slot : ℕ) → ((at : ℕ) → IsFilled parts at → IsFilled parts' at)
      → IsStep m layout parts above next slot → IsStep m layout parts' above next slot
  more_filled parts parts' above next slot filled step = record { place = step.place; own = step.own; filled = filled slot step.filled; adds = step.adds }

  -- with more parts, and with more levels
  pub more_kept : (parts parts' : List (Option ChoiceShare)) (levels levels' : List Level) (items cs : List ℕ) → items ≡ cs → StandsAt m layout parts levels cs
      → AreParts m layout parts' → ((slot : ℕ) → IsFilled parts slot → IsFilled parts' slot)
      → ((k : ℕ) → k ≤ length items → slice_get levels' k ≡ slice_get levels k) → AreMade m levels' → StandsAt m layout parts' levels' cs
  more_kept parts parts' levels levels' items cs at keeps are filled same made = record {
    given = keeps.given;
    laid = keeps.laid;
    shares = are;
    made = made;
    fronts = λ k within. subst (λ o. IsSomeAnd o (IsLevel m layout (take k cs))) (sym (same k (subst (λ xs. k ≤ length xs) (sym at) within))) (keeps.fronts k within);
    first = subst (λ o. IsSomeAnd o (IsWholeLevel m)) (sym (same 0 (omega arith))) keeps.first;
    steps = λ k above next within one two.
        subst (λ o. IsSomeAnd o (λ level. IsStep m layout parts' above next level.slot)) (sym (same (k + 1) (subst (λ xs. k + 1 ≤ length xs) (sym at) (omega (arith, within)))))
        (some_weaker _ (λ (level : Level). IsStep m layout parts' above next level.slot) (slice_get levels (k + 1)) (λ level step. more_filled parts parts' above next level.slot filled step)
        (keeps.steps k above next within one two));
  }

  -- without the last choice
  pub left_keeps : (parts : List (Option ChoiceShare)) (levels : List Level) (longer cs : List ℕ) (c : ℕ) → longer ≡ cs ++ c ∷ [] → StandsAt m layout parts levels longer → StandsAt m layout parts levels cs
  left_keeps parts levels longer cs c is keeps = record {
    given = keeps.given;
    laid = keeps.laid;
    shares = keeps.shares;
    made = keeps.made;
    fronts = λ k within. subst (λ xs. IsSomeAnd (slice_get levels k) (IsLevel m layout xs)) (ap (take k) is ∙ front_of cs c k within)
        (keeps.fronts k (subst (λ xs. k ≤ length xs) (sym is) (omega (arith, within, length-append cs (c ∷ [])))));
    first = keeps.first;
    steps = λ k above next within one two.
        let shorter : (j : ℕ) → j ≤ length cs → take j longer ≡ take j cs = λ j less. ap (take j) is ∙ front_of cs c j less in
        keeps.steps k above next (subst (λ xs. k < length xs) (sym is) (omega (arith, within, length-append cs (c ∷ []))))
        (ap (after (forest m)) (shorter k (omega (arith, within))) ∙ one) (ap (after (forest m)) (shorter (k + 1) (omega (arith, within))) ∙ two);
  }

  -- with one choice more, below whose level nothing changed
  pub entered_keeps : (parts parts' : List (Option ChoiceShare)) (levels between levels' : List Level) (cs longer : List ℕ) (c : ℕ) → longer ≡ cs ++ c ∷ [] → StandsAt m layout parts levels cs
      → AreParts m layout parts' → ((slot : ℕ) → IsFilled parts slot → IsFilled parts' slot) → ((k : ℕ) → k ≤ length cs → slice_get between k ≡ slice_get levels k)
      → AreMade m between → ((k : ℕ) → k ≢ length cs + 1 → slice_get levels' k ≡ slice_get between k)
      → IsSomeAnd (slice_get levels' (length cs + 1)) (IsLevel m layout longer)
      → ((above next : Forest Member) → after (forest m) cs ≡ Some above → after (forest m) longer ≡ Some next
      → IsSomeAnd (slice_get levels' (length cs + 1)) (λ level. IsStep m layout parts' above next level.slot)) → StandsAt m layout parts' levels' longer
  entered_keeps parts parts' levels between levels' cs longer c is keeps are filled kept between_made same last step = record {
    given = keeps.given;
    laid = keeps.laid;
    shares = are;
    made = made;
    fronts = each;
    first = subst (λ o. IsSomeAnd o (IsWholeLevel m)) (sym (same 0 (λ e. omega (arith, e)) ∙ kept 0 (omega arith))) keeps.first;
    steps = steps;
  } where
    made : AreMade m levels'
    made k level at = elim (cases_eq k (length cs + 1)) [
      | inl here ↦
          let (l, one, is') = there (IsLevel m layout longer) (slice_get levels' (length cs + 1)) last in (
            participants (settled is'.left),
            subst (λ x. IsKeptFor m x.kept (participants (settled is'.left))) (same_Some l level (sym one ∙ (ap (slice_get levels') (sym here) ∙ at))) is'.kept,
          )
      | inr other ↦ between_made k level (sym (same k other) ∙ at)
    ]

    long_is : length longer ≡ length cs + 1
    long_is = ap length is ∙ length-append cs (c ∷ [])

    each : AreLevels m layout longer levels'
    each k within = elim (cases_eq k (length cs + 1)) [
      | inl here ↦ subst (λ n. IsSomeAnd (slice_get levels' n) (IsLevel m layout (take n longer))) (sym here)
          (subst (λ xs. IsSomeAnd (slice_get levels' (length cs + 1)) (IsLevel m layout xs)) (sym (take_all (length cs + 1) longer (omega (arith, long_is)))) last)
      | inr other ↦
          let less : k ≤ length cs = omega (arith, within, long_is, other) in
          subst (λ o. IsSomeAnd o (IsLevel m layout (take k longer))) (sym (same k other ∙ kept k less))
          (subst (λ xs. IsSomeAnd (slice_get levels k) (IsLevel m layout xs)) (sym (ap (take k) is ∙ front_of cs c k less)) (keeps.fronts k less))
    ]

    steps : AreSteps m layout parts' longer levels'
    steps k above next within one two = elim (cases_eq k (length cs)) as (λ _. IsSomeAnd (slice_get levels' (k + 1)) (λ level. IsStep m layout parts' above next level.slot)) [
      | inl here ↦
          let front : take k longer ≡ cs = ap (λ j. take j longer) here ∙ (ap (take (length cs)) is ∙ (front_of cs c (length cs) (omega arith) ∙ take_all (length cs) cs (omega arith))) in
          let whole : take (k + 1) longer ≡ longer = take_all (k + 1) longer (omega (arith, here, long_is)) in
          subst (λ j. IsSomeAnd (slice_get levels' (j + 1)) (λ level. IsStep m layout parts' above next level.slot)) (sym here)
          (step above next (ap (after (forest m)) (sym front) ∙ one) (ap (after (forest m)) (sym whole) ∙ two))
      | inr other ↦
          let less : k < length cs = omega (arith, within, long_is, other) in
          let shorter : (j : ℕ) → j ≤ length cs → take j longer ≡ take j cs = λ j below. ap (take j) is ∙ front_of cs c j below in
          subst (λ o. IsSomeAnd o (λ level. IsStep m layout parts' above next level.slot)) (sym (same (k + 1) (λ e. omega (arith, e, less)) ∙ kept (k + 1) (omega (arith, less))))
          (some_weaker _ (λ (level : Level). IsStep m layout parts' above next level.slot) (slice_get levels (k + 1)) (λ level old. more_filled parts parts' above next level.slot filled old)
          (keeps.steps k above next less (ap (after (forest m)) (sym (shorter k (omega (arith, less)))) ∙ one) (ap (after (forest m)) (sym (shorter (k + 1) (omega (arith, less)))) ∙ two)))
    ]

  module _ (cs : List ℕ) (c at : ℕ) (above : Level) (is : IsLevel m layout cs above) (law : ChoiceSettlesShare) (child : IsChildPlace layout (numbers m) cs c at)
      (numbers_left : (e : Forest ℕ) × (after (numbers m) cs ≡ Some e)) where
    -- what one choice more settles asks what was asked before, and what its share asks
    pub settles_more : (d : Forest Member) → after (forest m) (cs ++ c ∷ []) ≡ Some d
        → IsPermutation (participants (settled is.left) ++ asked_in m.nodes (share_of layout at)) (participants (settled d))
    settles_more d leads =
        let s = law layout (numbers m) cs c at child in
        let (e, here) = numbers_left in
        let order = taken_in_order (asks_at m.nodes) (settled e ++ share_of layout at) (settled s.left)
        (of_some (λ x. IsPermutation (settled x ++ share_of layout at) (settled s.left)) (after (numbers m) cs) e here s.adds) in
        let before = filter_map-append (asks_at m.nodes) (settled e) (share_of layout at) ∙ ap (λ xs. xs ++ asked_in m.nodes (share_of layout at)) (same_asked m.nodes m.domain cs e is.left here is.leads) in
        subst (λ xs. IsPermutation xs (participants (settled d))) before
        (subst (IsPermutation (asked_in m.nodes (settled e ++ share_of layout at))) (same_asked m.nodes m.domain (cs ++ c ∷ []) s.left d s.leads leads) order)

    -- so the level of one choice more is joined
    pub joined_level : SumsInAnyOrder → (longer : List ℕ) (level : Level) (next : Option ℕ) → longer ≡ cs ++ c ∷ [] → IsPrefix (forest m) (cs ++ c ∷ [])
        → IsKeptFor m level.kept (participants (settled is.left) ++ asked_in m.nodes (share_of layout at)) → level.group ≡ next
        → IsFirstOpen layout (numbers m) (cs ++ c ∷ []) next → IsLevel m layout longer level
    joined_level sums longer level next long prefix kept grouped open' =
        let (d, leads) = some_of (after (forest m) (cs ++ c ∷ [])) prefix in
        subst (λ xs. IsLevel m layout xs level) (sym long) (record {
          left = d;
          leads = leads;
          kept = kept_in_order sums m.platform m.nodes m.base level.kept _ _ (settles_more d leads) kept;
          group = subst (IsFirstOpen layout (numbers m) (cs ++ c ∷ [])) (sym grouped) open';
        })

-- a level of one choice more was joined, from that above it and from a part
abbrev pub IsJoined : Matter → List Level → List Level → ℕ → ℕ → ChoiceShare → Option ℕ → Type 0
IsJoined m between levels' depth slot part next = (ps qs : List Participant) (above old : Level)
    → slice_get between depth ≡ Some above → slice_get between (depth + 1) ≡ Some old → IsKeptFor m above.kept ps → IsPartFor m part qs
    → (others : List Participant) → IsKeptFor m old.kept others
    → IsSomeAnd (slice_get levels' (depth + 1)) (λ level. (level.group ≡ next) × (level.slot ≡ slot) × IsKeptFor m level.kept (ps ++ qs))

at_length : {X : Type 0} (xs : List X) (k : ℕ) → k < length xs → (x : X) × (slice_get xs k ≡ Some x)
at_length [] k less = absurd (omega (arith, less))
at_length (x ∷ xs) zero less = (x, refl)
at_length (x ∷ xs) (suc k) less = at_length xs k (omega (arith, less))

module _ (m : Matter) (layout : Layout) (parts parts' : List (Option ChoiceShare)) (levels between levels' : List Level) (cs longer : List ℕ) (c at slot : ℕ) (part : ChoiceShare) (next : Option ℕ) where
  entered_at : longer ≡ cs ++ c ∷ [] → StandsAt m layout parts levels cs → AreParts m layout parts' → ((at : ℕ) → IsFilled parts at → IsFilled parts' at)
      → ((k : ℕ) → k ≤ length cs → slice_get between k ≡ slice_get levels k) → AreMade m between → length cs + 1 < length between
      → ((k : ℕ) → k ≢ length cs + 1 → slice_get levels' k ≡ slice_get between k) → IsJoined m between levels' (length cs) slot part next → IsSlot at slot
      → slice_get parts' slot ≡ Some (Some part) → SumsInAnyOrder → ChoiceSettlesShare → IsChildPlace layout (numbers m) cs c at → (e : Forest ℕ) × (after (numbers m) cs ≡ Some e) → IsPrefix (forest m) (cs ++ c ∷ [])
      → IsFirstOpen layout (numbers m) (cs ++ c ∷ []) next → StandsAt m layout parts' levels' longer
  entered_at long keeps are filled kept made room others joined own here sums law child numbers_here prefix open' =
      let (above, is, level) = there (IsLevel m layout cs) (slice_get levels (length cs)) (level_here m layout cs levels keeps.fronts) in
      let (old, old_is) = at_length between (length cs + 1) room in
      let (ps, old_kept) = made (length cs + 1) old old_is in
      let last = joined (participants (settled level.left)) (asked_in m.nodes (share_of layout at)) above old (kept (length cs) (omega arith) ∙ is) old_is level.kept (are at slot part own here) ps old_kept in
      entered_keeps m layout parts parts' levels between levels' cs longer c long keeps are filled kept made others
      (some_weaker _ (IsLevel m layout longer) (slice_get levels' (length cs + 1))
      (λ l h. joined_level m layout cs c at above level law child numbers_here sums longer l next long prefix h.2 h.0 open') last)
      (λ d e one two. some_weaker _ (λ (l : Level). IsStep m layout parts' d e l.slot) (slice_get levels' (length cs + 1)) (λ l h. record {
        place = at;
        own = subst (IsSlot at) (sym h.1) own;
        filled = subst (IsFilled parts') (sym h.1) (part, here);
        adds = subst (λ x. IsPermutation (participants (settled x) ++ asked_in m.nodes (share_of layout at)) (participants (settled e))) (same_Some level.left d (sym level.leads ∙ one))
            (settles_more m layout cs c at above level law child numbers_here e (subst (λ xs. after (forest m) xs ≡ Some e) long two));
      }) last)

  -- where a search stands after one choice more
  pub entered : (items : List ℕ) → items ≡ cs → longer ≡ cs ++ c ∷ [] → StandsAt m layout parts levels cs → AreParts m layout parts' → ((at : ℕ) → IsFilled parts at → IsFilled parts' at)
      → ((k : ℕ) → k ≤ length items → slice_get between k ≡ slice_get levels k) → AreMade m between → length items + 1 < length between
      → ((k : ℕ) → k ≢ length items + 1 → slice_get levels' k ≡ slice_get between k) → IsJoined m between levels' (length items) slot part next → IsSlot at slot
      → slice_get parts' slot ≡ Some (Some part) → SumsInAnyOrder → ChoiceSettlesShare → IsChildPlace layout (numbers m) cs c at → (e : Forest ℕ) × (after (numbers m) cs ≡ Some e) → IsPrefix (forest m) (cs ++ c ∷ [])
      → IsFirstOpen layout (numbers m) (cs ++ c ∷ []) next → StandsAt m layout parts' levels' longer
  entered items same long keeps are filled kept made room others joined = entered_at long keeps are filled
      (subst (λ xs. (k : ℕ) → k ≤ length xs → slice_get between k ≡ slice_get levels k) same kept) made (subst (λ xs. length xs + 1 < length between) same room)
      (subst (λ xs. (k : ℕ) → k ≢ length xs + 1 → slice_get levels' k ≡ slice_get between k) same others) (subst (λ xs. IsJoined m between levels' (length xs) slot part next) same joined)

-- what is kept beside a slot for nothing more was kept before
pub kept_before : (xs : List (Option ChoiceShare)) (at : ℕ) (part : ChoiceShare) → slice_get (xs ++ None ∷ []) at ≡ Some (Some part) → slice_get xs at ≡ Some (Some part)
kept_before [] zero part is = absurd (cc)
kept_before [] (suc at) part is = absurd (cc)
kept_before (x ∷ xs) zero part is = is
kept_before (x ∷ xs) (suc at) part is = kept_before xs at part is

-- nor is less kept
pub filled_more : (xs : List (Option ChoiceShare)) (at : ℕ) → IsFilled xs at → IsFilled (xs ++ None ∷ []) at
filled_more [] at (part, is) = absurd (cc)
filled_more (x ∷ xs) zero filled = filled
filled_more (x ∷ xs) (suc at) filled = filled_more xs at filled

-- where something is set, something is kept still
pub set_filled : (xs : List (Option ChoiceShare)) (slot at : ℕ) (part : ChoiceShare) → IsFilled xs at → IsFilled (slice_set xs slot (Some part)) at
set_filled [] slot at part (old, is) = absurd (cc)
set_filled (x ∷ xs) zero zero part filled = (part, refl)
set_filled (x ∷ xs) zero (suc at) part filled = filled
set_filled (x ∷ xs) (suc slot) zero part filled = filled
set_filled (x ∷ xs) (suc slot) (suc at) part filled = set_filled xs slot at part filled

-- a child has one slot
pub only_slot : (parts : List (Option ChoiceShare)) (place slot own : ℕ) (kept : Option ChoiceShare) → IsSlot place slot → IsSlot place own → slice_get parts own ≡ Some kept → slice_get parts slot ≡ Some kept
only_slot parts place slot own kept one two is =
    let same : own ≡ slot = omega (arith, one, two) in
    subst (λ k. slice_get parts k ≡ Some kept) same is

-- what is there where a test says so
pub some_there : {X : Type 0} (o : Option X) (b : Bool) → b ≡ is_some o → b ≡ true → (x : X) × (o ≡ Some x)
some_there None b is yes' = absurd (cc)
some_there (Some x) b is yes' = (x, refl)

-- a part that is kept now, beside those of before
pub part_kept : (m : Matter) (layout : Layout) (parts : List (Option ChoiceShare)) (place slot : ℕ) (part : ChoiceShare) → IsSlot place slot → IsPartFor m part (asked_in m.nodes (share_of layout place))
    → AreParts m layout parts → AreParts m layout (slice_set parts slot (Some part))
part_kept m layout parts place slot part own is are at s other here there' = elim (cases_eq s slot) [
  | inl equal ↦
      let same = slice_get-set_same parts slot (Some part) (Some other) (within parts slot s other equal there') (ap (slice_get (slice_set parts slot (Some part))) (sym equal) ∙ there') in
      let places : place ≡ at = omega (arith, own, here, equal) in
      subst (λ k. IsPartFor m other (asked_in m.nodes (share_of layout k))) places
      (subst (λ p. IsPartFor m p (asked_in m.nodes (share_of layout place))) (same_Some part other same) is)
  | inr elsewhere ↦ are at s other here (slice_get-set_other parts slot s (Some part) (Some other) elsewhere there')
] where
  within : (parts : List (Option ChoiceShare)) (slot s : ℕ) (other : ChoiceShare) → s ≡ slot → slice_get (slice_set parts slot (Some part)) s ≡ Some (Some other) → slot < length parts
  within parts slot s other equal there' = by (slice_get_within (slice_set parts slot (Some part)) s (Some other) there') where
    by : s < length (slice_set parts slot (Some part)) → slot < length parts
    by less = omega (arith, equal, less, length-set parts slot (Some part))

pub part_there : (parts : List (Option ChoiceShare)) (place : ℕ) (part : ChoiceShare) → place < length parts → slice_get (slice_set parts place (Some part)) place ≡ Some (Some part)
part_there [] place part less = absurd (omega (arith, less))
part_there (x ∷ xs) zero part less = refl
part_there (x ∷ xs) (suc k) part less = part_there xs k part (omega (arith, less))

-- what is set again is what it was set to last
pub set_again : {X : Type 0} (xs : List X) (k : ℕ) (a b : X) → slice_set (slice_set xs k a) k b ≡ slice_set xs k b
set_again [] k a b = refl
set_again (x ∷ xs) zero a b = refl
set_again (x ∷ xs) (suc k) a b = ap (λ ys. x ∷ ys) (set_again xs k a b)

-- where nothing is open, there is no first group
pub none_next : (layout : Layout) (d : Forest ℕ) (cs : List ℕ) → NoneOpenIsSelection → IsFirstOpen layout d cs None → IfSome (after d cs) (λ e. None ≡ first_group e)
none_next layout d cs law open' =
    let w = law layout d cs None open' in
    if_some (λ e. None ≡ first_group e) (after d cs) (λ e leads. by (first_group e) (sym (first_many e) ∙ ap (option_map length) (ap choices (same_Some e w.left (sym leads ∙ w.leads)) ∙ w.whole.0 refl))) where
      by : (o : Option (ℕ × ℕ)) → option_map (λ (g : ℕ × ℕ). g.1) o ≡ None → None ≡ o
      by None h = refl
      by (Some x) h = absurd (cc)

-- a share has at most 128 nodes
pub share_few : (layout : Layout) (d : Forest ℕ) (cs : List ℕ) (c at : ℕ) → ChoiceSettlesShare → IsChildPlace layout d cs c at → (e : Forest ℕ) × (after d cs ≡ Some e)
    → ((xs : List ℕ) (e : Forest ℕ) → after d xs ≡ Some e → length (settled e) ≤ 128) → length (share_of layout at) ≤ 128
share_few layout d cs c at law child here few =
    let s = law layout d cs c at child in
    let (e, leads) = here in
    let long = length_permutation (settled e ++ share_of layout at) (settled s.left)
    (of_some (λ x. IsPermutation (settled x ++ share_of layout at) (settled s.left)) (after d cs) e leads s.adds) in
    let f = few (cs ++ c ∷ []) s.left s.leads in omega (arith, long, length-append (settled e) (share_of layout at), f)

-- where a search stands, a choice's participants fit beside those of before
pub room_for : (m : Matter) (layout : Layout) (parts : List (Option ChoiceShare)) (levels between : List Level) (items cs : List ℕ) (above : Level) (part : ChoiceShare) (share : List ℕ) → items ≡ cs
    → StandsAt m layout parts levels cs → ((k : ℕ) → k ≤ length items → slice_get between k ≡ slice_get levels k) → slice_get between (length items) ≡ Some above
    → IsPartFor m part (asked_in m.nodes share) → length share ≤ 128 → HaveRoom above.kept part
room_for m layout parts levels between items cs above part share same keeps kept is part_is few =
    let tree = keeps.given.tree in
    let (l, here, level) = there (IsLevel m layout cs) (slice_get levels (length cs)) (level_here m layout cs levels keeps.fronts) in
    let is_above : l ≡ above = same_Some l above (sym here ∙ subst (λ xs. slice_get levels (length xs) ≡ Some above) same (sym (kept (length items) (omega arith)) ∙ is)) in
    let root = root_there m.nodes m.domain keeps.given.domain in
    let (e, leads) = numbers_left m.nodes m.domain cs tree root (ap is_some level.leads) in
    let long = ap length (same_asked m.nodes m.domain cs e level.left leads level.leads) in
    have_room m.platform m.nodes m.base above.kept part (participants (settled level.left)) (asked_in m.nodes share)
    (subst (λ x. IsKeptFor m x.kept (participants (settled level.left))) is_above level.kept) part_is
    (few_accepted m.platform m.nodes m.domain m.base tree.few keeps.given.base)
    (omega (arith, long, few_asked_of m.nodes (settled e), few_settled m.nodes m.domain cs e tree root leads))
    (omega (arith, few_asked_of m.nodes share, few))
