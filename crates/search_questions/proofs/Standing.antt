-- Where a search stands when pairs were joined or looked at.
use Rattle.std.proofs.Common.{◌≡◌, ◌≢◌, ◌<◌, ◌≤◌, ◌+◌, ◌++◌, ◌∷◌, [], ℕ, zero, suc, inl, inr, Bool, true, false, List, Option, Some, None, length, is_some, take, get_or, slice_get, slice_set, refl, sym, ◌∙◌, ap, subst, arith, Bor, length-append}
use Rattle.std.specs.Option.{option_copied}
use Rattle.std.specs.Prelude.{IfSome, IsSomeAnd}
use Rattle.std.specs.Slice.{IsItemAt}
use Rattle.std.proofs.lemmas.Bool.{cases_eq}
use Rattle.std.proofs.lemmas.List.{take_all, length-set}
use Rattle.std.proofs.lemmas.Option.{same_Some, slice_get_past, slice_get_read, slice_get_within}
use Rattle.sysmem_merge.specs.declared.settings.Settings.{Settings}
use Rattle.verdict_claims.specs.Matter.{Matter, forest}
use Rattle.verdict_claims.specs.Members.{participants}
use Rattle.verdict_claims.specs.Asked.{asked_in}
use Rattle.search_questions.specs.declared.kept.ChoiceShare.{ChoiceShare}
use Rattle.search_questions.specs.declared.kept.PrefixSum.{PrefixSum}
use Rattle.search_questions.specs.declared.kept.PrefixSum.TheVariants as kept_as
use Rattle.search_questions.specs.declared.levels.Level.{Level}
use Rattle.search_questions.specs.Asking.{HasPairsAt, IsAnswer, IsAnswerAt, IsOpenOf, JoinsPairs, LooksAt}
use Rattle.search_questions.specs.Kept.{HasPairs, IsKeptFor}
use Rattle.search_questions.specs.Standing.{numbers, IsLevel, AreLevels, AreMade, AreSteps, IsFilled, IsStep, IsWholeLevel, StandsAt}
use Rattle.list_lemmas.proofs.CallerLemmas.{of_some, slice_get-append_add, slice_get-append_left}
use Rattle.search_questions.proofs.AskedMembers.{if_some}
use Rattle.search_questions.proofs.Entering.{and_there, at_index, kept_at, level_at, level_here, some_weaker, there}
use Rattle.sysmem_tree.specs.declared.layout.Layout.{Layout}
use Rattle.sysmem_tree.specs.Forest.{Forest, settled}
use Rattle.sysmem_tree.specs.OpenGroups.{IsFirstOpen, share_of}
use Rattle.sysmem_tree.specs.Selection.{after}
use Rattle.sysmem_tree.specs.Shape.{Member}

-- what has pairs has fewer
pub fewer_pairs : (kept : PrefixSum) (m n : ℕ) → m ≤ n → HasPairs kept n → HasPairs kept m
fewer_pairs (kept_as.Sum sum) m n less has = omega (arith, less, has)
fewer_pairs (kept_as.OnBase kept) m n less has = tt

module _ (m : Matter) (layout : Layout) (parts : List (Option ChoiceShare)) (levels levels' : List Level) (cs : List ℕ) (at : ℕ) (old new : Level) where
  -- one level changed, and is of the same choices
  pub changed_keeps : StandsAt m layout parts levels cs → ((k : ℕ) → k ≢ at → slice_get levels' k ≡ slice_get levels k) → slice_get levels at ≡ Some old → slice_get levels' at ≡ Some new
      → new.group ≡ old.group → new.slot ≡ old.slot → (left : Forest Member) → after (forest m) (take at cs) ≡ Some left → IsKeptFor m new.kept (participants (settled left))
      → (at ≡ 0 → IsWholeLevel m old → IsWholeLevel m new) → StandsAt m layout parts levels' cs
  changed_keeps keeps same was is grouped slotted left leads kept has = record {
    given = keeps.given;
    laid = keeps.laid;
    shares = keeps.shares;
    made = made;
    fronts = fronts;
    first = first;
    steps = steps;
  } where
    made : AreMade m levels'
    made k level here = elim (cases_eq k at) [
      | inl equal ↦ (
        participants (settled left),
        subst (λ (l : Level). IsKeptFor m l.kept (participants (settled left))) (same_Some new level (sym is ∙ (ap (slice_get levels') (sym equal) ∙ here))) kept,
      )
      | inr other ↦ keeps.made k level (sym (same k other) ∙ here)
    ]

    level : IsLevel m layout (take at cs) old → IsLevel m layout (take at cs) new
    level l = record {
      left = left;
      leads = leads;
      kept = kept;
      group = subst (λ g. IsFirstOpen layout (numbers m) (take at cs) g) (sym grouped) l.group;
    }

    fronts : AreLevels m layout cs levels'
    fronts k within = elim (cases_eq k at) as (λ _. IsSomeAnd (slice_get levels' k) (IsLevel m layout (take k cs))) [
      | inl equal ↦
          let (l, here, front) = there (IsLevel m layout (take k cs)) (slice_get levels k) (keeps.fronts k within) in
          let old_is : l ≡ old = same_Some l old (sym here ∙ (ap (slice_get levels) equal ∙ was)) in
          let front' = subst (λ j. IsLevel m layout (take j cs) old) equal (subst (IsLevel m layout (take k cs)) old_is front) in
          subst (λ j. IsSomeAnd (slice_get levels' j) (IsLevel m layout (take j cs))) (sym equal)
          (and_there (IsLevel m layout (take at cs)) (slice_get levels' at) new is (level front'))
      | inr other ↦ subst (λ o. IsSomeAnd o (IsLevel m layout (take k cs))) (sym (same k other)) (keeps.fronts k within)
    ]

    first : IsSomeAnd (slice_get levels' 0) (IsWholeLevel m)
    first = elim (cases_eq 0 at) as (λ _. IsSomeAnd (slice_get levels' 0) (IsWholeLevel m)) [
      | inl equal ↦
          let (l, here, whole) = there (IsWholeLevel m) (slice_get levels 0) keeps.first in
          let old_is : l ≡ old = same_Some l old (sym here ∙ (ap (slice_get levels) equal ∙ was)) in
          and_there (IsWholeLevel m) (slice_get levels' 0) new (ap (slice_get levels') equal ∙ is) (has (sym equal) (subst (IsWholeLevel m) old_is whole))
      | inr other ↦ subst (λ o. IsSomeAnd o (IsWholeLevel m)) (sym (same 0 other)) keeps.first
    ]

    steps : AreSteps m layout parts cs levels'
    steps k above next within one two = elim (cases_eq (k + 1) at) as (λ _. IsSomeAnd (slice_get levels' (k + 1)) (λ level. IsStep m layout parts above next level.slot)) [
      | inl equal ↦
          let (l, here, step) = there (λ (l : Level). IsStep m layout parts above next l.slot) (slice_get levels (k + 1)) (keeps.steps k above next within one two) in
          let old_is : l ≡ old = same_Some l old (sym here ∙ (ap (slice_get levels) equal ∙ was)) in
          and_there (λ (l : Level). IsStep m layout parts above next l.slot) (slice_get levels' (k + 1)) new (ap (slice_get levels') equal ∙ is)
          (subst (IsStep m layout parts above next) (ap (λ (l : Level). l.slot) old_is ∙ sym slotted) step)
      | inr other ↦ subst (λ o. IsSomeAnd o (λ (l : Level). IsStep m layout parts above next l.slot)) (sym (same (k + 1) other)) (keeps.steps k above next within one two)
    ]

-- a level was joined, from that above it and from the part in its slot
abbrev pub IsJoinedBelow : List Level → List Level → ℕ → ChoiceShare → ℕ → Type 0
IsJoinedBelow levels levels' depth part pairs = (above old : Level) → slice_get levels depth ≡ Some above → slice_get levels (depth + 1) ≡ Some old
    → IsSomeAnd (slice_get levels' (depth + 1)) (λ level. (level.group ≡ old.group) × (level.slot ≡ old.slot) × JoinsPairs above.kept part pairs old.kept level.kept)

module _ (m : Matter) (layout : Layout) (parts : List (Option ChoiceShare)) (levels : List Level) (cs : List ℕ) (keeps : StandsAt m layout parts levels cs) where
  -- the part in the slot of a level below the first
  pub step_at : (depth : ℕ) → depth < length cs → (old : Level) → slice_get levels (depth + 1) ≡ Some old
      → (above : Level) × (d : Forest Member) × (e : Forest Member) × (slice_get levels depth ≡ Some above) × IsLevel m layout (take depth cs) above × (after (forest m) (take depth cs) ≡ Some d)
      × IsLevel m layout (take (depth + 1) cs) old × (after (forest m) (take (depth + 1) cs) ≡ Some e) × IsStep m layout parts d e old.slot
  step_at depth below old old_is =
      let (above, above_is, front) = there (IsLevel m layout (take depth cs)) (slice_get levels depth) (keeps.fronts depth (omega (arith, below))) in
      let (l, l_is, next) = there (IsLevel m layout (take (depth + 1) cs)) (slice_get levels (depth + 1)) (keeps.fronts (depth + 1) (omega (arith, below))) in
      let same = same_Some l old (sym l_is ∙ old_is) in
      let next' = subst (IsLevel m layout (take (depth + 1) cs)) same next in
      let (k, k_is, step) = there (λ (x : Level). IsStep m layout parts front.left next'.left x.slot) (slice_get levels (depth + 1)) (keeps.steps depth front.left next'.left below front.leads next'.leads) in
      let same' : k ≡ old = same_Some k old (sym k_is ∙ old_is) in
      (above, front.left, next'.left, above_is, front, front.leads, next', next'.leads, subst (λ (x : Level). IsStep m layout parts front.left next'.left x.slot) same' step)

  -- something is kept in its slot
  pub filled_at : (depth above : ℕ) → depth ≡ above + 1 → depth ≤ length cs → (level : Level) → slice_get levels depth ≡ Some level → IsFilled parts level.slot
  filled_at depth above is within level level_is =
      let (a, d, e, above_is, front, leads, next, next_leads, step) = step_at above (omega (arith, is, within)) level (ap (slice_get levels) (sym is) ∙ level_is) in step.filled

  -- the level of no choice has each pair
  pub first_has : (depth pairs : ℕ) → depth ≡ 0 → pairs ≤ length m.platform.pairs → HasPairsAt levels depth pairs
  first_has depth pairs none few = subst (λ k. HasPairsAt levels k pairs) (sym none)
      (some_weaker (IsWholeLevel m) (λ level. HasPairs level.kept pairs) (slice_get levels 0) (λ level whole. fewer_pairs level.kept pairs (length m.platform.pairs) few whole) keeps.first)

  -- what is kept of the level at the last depth is of what the choices settle
  pub read_kept : (depth : ℕ) (level : Level) → length cs ≡ depth → level ≡ get_or levels depth level → (d : Forest Member) → after (forest m) cs ≡ Some d → IsKeptFor m level.kept (participants (settled d))
  read_kept depth level long is = kept_at m layout cs level (level_at m layout parts levels cs cs level refl keeps (subst (λ k. level ≡ get_or levels k level) (sym long) is))

  -- so where it has the pairs above, it has them there
  pub joined_keeps : (levels' : List Level) (depth pairs : ℕ) (part : ChoiceShare) (old : Level) → depth < length cs → ((k : ℕ) → k ≢ depth + 1 → slice_get levels' k ≡ slice_get levels k)
      → IsJoinedBelow levels levels' depth part pairs → slice_get levels (depth + 1) ≡ Some old → slice_get parts old.slot ≡ Some (Some part) → HasPairsAt levels depth pairs
      → StandsAt m layout parts levels' cs × HasPairsAt levels' (depth + 1) pairs
  joined_keeps levels' depth pairs part old below same joined old_is part_is has =
      let (above, d, e, above_is, front, leads, next, next_leads, step) = step_at depth below old old_is in
      let (new, new_is, h) = there _ (slice_get levels' (depth + 1)) (joined above old above_is old_is) in
      let (had, had_is, above_has) = there (λ (x : Level). HasPairs x.kept pairs) (slice_get levels depth) has in
      let kept : IsKeptFor m above.kept (participants (settled d)) = subst (λ x. IsKeptFor m above.kept (participants (settled x))) (same_Some front.left d (sym front.leads ∙ leads)) front.kept in
      let was : IsKeptFor m old.kept (participants (settled e)) = subst (λ x. IsKeptFor m old.kept (participants (settled x))) (same_Some next.left e (sym next.leads ∙ next_leads)) next.kept in
      let both = h.2 m (participants (settled e)) (participants (settled d)) (asked_in m.nodes (share_of layout step.place)) step.adds
      (subst (λ (x : Level). HasPairs x.kept pairs) (same_Some had above (sym had_is ∙ above_is)) above_has) was kept (keeps.shares step.place old.slot part step.own part_is) in (
        changed_keeps m layout parts levels levels' cs (depth + 1) old new keeps same old_is new_is h.0 h.1 e next_leads both.0 (λ zero. absurd (omega (arith, zero))),
        and_there (λ (x : Level). HasPairs x.kept pairs) (slice_get levels' (depth + 1)) new new_is both.1,
      )

  -- the level at a depth was looked at
  pub looked_keeps : (levels' : List Level) (index : ℕ) (whole : Bool) (found : Option Settings) (left : Forest Member) → ((k : ℕ) → k ≢ length cs → slice_get levels' k ≡ slice_get levels k)
      → ((old : Level) → slice_get levels (length cs) ≡ Some old
      → IsSomeAnd (slice_get levels' (length cs)) (λ level. (level.group ≡ old.group) × (level.slot ≡ old.slot) × LooksAt index whole m old.kept level.kept found))
      → HasPairsAt levels (length cs) (index + 1) → after (forest m) cs ≡ Some left → IsOpenOf index whole m (settled left)
      → StandsAt m layout parts levels' cs × IsAnswerAt index whole m (settled left) found
  looked_keeps levels' index whole found left same looked has leads open' =
      let (old, old_is, level) = there (IsLevel m layout cs) (slice_get levels (length cs)) (level_here m layout cs levels keeps.fronts) in
      let (new, new_is, h) = there _ (slice_get levels' (length cs)) (looked old old_is) in
      let (had, had_is, old_has) = there (λ (x : Level). HasPairs x.kept (index + 1)) (slice_get levels (length cs)) has in
      let told = h.2.0 (settled left) (kept_at m layout cs old level left leads) (subst (λ (x : Level). HasPairs x.kept (index + 1)) (same_Some had old (sym had_is ∙ old_is)) old_has) open' in (
        changed_keeps m layout parts levels levels' cs (length cs) old new keeps same old_is new_is h.0 h.1 left (ap (after (forest m)) (take_all (length cs) cs (omega arith)) ∙ leads) told.1
            (λ _. h.2.1 (length m.platform.pairs)),
        told.0,
      )

-- what is read of a slice stands there
pub item_read : {X : Type 0} (xs : List X) (i : ℕ) (r : Option (Bor X)) → IsItemAt xs i r → slice_get xs i ≡ option_copied r
item_read xs i None item = slice_get_past xs i item.3
item_read xs i (Some x) item = slice_get_read xs _ i x.now refl item.3.0 item.1

-- so it is what stands there
pub some_read : {X : Type 0} (xs : List X) (i : ℕ) (x : X) (r : Option (Bor X)) → IsItemAt xs i r → slice_get xs i ≡ Some x → (b : Bor X) × (r ≡ Some b) × (b.now ≡ x)
some_read xs i x None item is = let none = slice_get_past xs i item.3 in absurd (cc)
some_read xs i x (Some b) item is = (b, refl, same_Some b.now x (sym (item_read xs i (Some b) item) ∙ is))

-- what is read of the front of a list, or first of the back
pub in_front : {X : Type 0} (front back xs : List X) (depth : ℕ) (x y : X) → front ++ back ≡ xs → length front ≡ depth + 1 → x ≡ get_or front depth x → slice_get xs depth ≡ Some y → x ≡ y
in_front front back xs depth x y whole long is here =
    same_Some x y (sym (at_index front depth x is (omega (arith, long))) ∙ (sym (slice_get-append_left front back depth (omega (arith, long))) ∙ (ap (λ zs. slice_get zs depth) whole ∙ here)))

pub in_back : {X : Type 0} (front back xs : List X) (depth : ℕ) (x y : X) → front ++ back ≡ xs → length front ≡ depth + 1 → x ≡ get_or back 0 x → slice_get xs (depth + 1) ≡ Some y → x ≡ y
in_back front back xs depth x y whole long is here =
    let at : slice_get (front ++ back) (depth + 1) ≡ Some y = ap (λ zs. slice_get zs (depth + 1)) whole ∙ here in
    let next : depth + 1 + 0 ≡ depth + 1 = omega arith in
    let first : slice_get back 0 ≡ Some y = sym (slice_get-append_add front back (depth + 1) 0 long) ∙ (ap (slice_get (front ++ back)) next ∙ at) in
    same_Some x y (sym (at_index back 0 x is (slice_get_within back 0 y first)) ∙ first)

-- what is written first into the back of a list is read there
pub written_back : {X : Type 0} (front back rest : List X) (many depth : ℕ) (x : X) → length front ≡ depth + 1 → depth + 1 < many → 0 < length back
    → slice_get (take many ((front ++ slice_set back 0 x) ++ rest)) (depth + 1) ≡ Some x
written_back front back rest many depth x long within some =
    let next : depth + 1 ≡ depth + 1 + 0 = omega arith in
    let inside : depth + 1 < length (front ++ slice_set back 0 x) = omega (arith, length-append front (slice_set back 0 x), length-set back 0 x, long, some) in
    taken ((front ++ slice_set back 0 x) ++ rest) many (depth + 1) within
    ∙ (slice_get-append_left (front ++ slice_set back 0 x) rest (depth + 1) inside
    ∙ (ap (slice_get (front ++ slice_set back 0 x)) next ∙ (slice_get-append_add front (slice_set back 0 x) (depth + 1) 0 long ∙ first back x some))) where
      taken : {X : Type 0} (xs : List X) (n i : ℕ) → i < n → slice_get (take n xs) i ≡ slice_get xs i
      taken xs zero i less = absurd (omega (arith, less))
      taken [] (suc n) i less = refl
      taken (x ∷ xs) (suc n) zero less = refl
      taken (x ∷ xs) (suc n) (suc i) less = taken xs n i (omega (arith, less))

      first : {X : Type 0} (back : List X) (x : X) → 0 < length back → slice_get (slice_set back 0 x) 0 ≡ Some x
      first [] x some = absurd (omega (arith, some))
      first (y ∷ ys) x some = refl

-- the pairs up to so many are joined where a search stands
abbrev pub JoinsTo : List (Option ChoiceShare) → List Level → List Level → ℕ → ℕ → Type 0
JoinsTo parts levels levels' depth pairs = (m : Matter) (layout : Layout) (cs : List ℕ) → depth ≤ length cs → pairs ≤ length m.platform.pairs → StandsAt m layout parts levels cs
    → StandsAt m layout parts levels' cs × HasPairsAt levels' depth pairs

-- the level at a depth below the first was joined, once that above it had the pairs
pub joined_to : (parts : List (Option ChoiceShare)) (levels between levels' : List Level) (depth above pairs : ℕ) (part : ChoiceShare) (level : Level) → depth ≡ above + 1 → JoinsTo parts levels between above pairs
    → ((k : ℕ) → above < k → slice_get between k ≡ slice_get levels k) → ((k : ℕ) → k ≢ above + 1 → slice_get levels' k ≡ slice_get between k) → IsJoinedBelow between levels' above part pairs
    → slice_get levels depth ≡ Some level → slice_get parts level.slot ≡ Some (Some part) → JoinsTo parts levels levels' depth pairs
joined_to parts levels between levels' depth above pairs part level is joins same others joined level_is part_is m layout cs within few keeps =
    let first = joins m layout cs (omega (arith, is, within)) few keeps in
    let both = joined_keeps m layout parts between cs first.0 levels' above pairs part level (omega (arith, is, within)) others joined
    (same (above + 1) (omega arith) ∙ (ap (slice_get levels) (sym is) ∙ level_is)) part_is first.1 in
    (both.0, subst (λ k. HasPairsAt levels' k pairs) (sym is) both.1)

-- the level at a depth was looked at
abbrev pub IsLookedAt : Matter → List Level → List Level → ℕ → ℕ → Bool → Option Settings → Type 0
IsLookedAt m levels levels' depth index whole found = (old : Level) → slice_get levels depth ≡ Some old
    → IsSomeAnd (slice_get levels' depth) (λ level. (level.group ≡ old.group) × (level.slot ≡ old.slot) × LooksAt index whole m old.kept level.kept found)

-- one pair more was joined and looked at
pub looked_on : (m : Matter) (layout : Layout) (parts : List (Option ChoiceShare)) (levels between levels' : List Level) (cs : List ℕ) (depth index : ℕ) (whole : Bool) (found : Option Settings) → length cs ≡ depth
    → index < length m.platform.pairs → StandsAt m layout parts levels cs → IfSome (after (forest m) cs) (λ d. IsOpenOf index whole m (settled d)) → StandsAt m layout parts between cs × HasPairsAt between depth (index + 1)
    → ((k : ℕ) → k ≢ depth → slice_get levels' k ≡ slice_get between k) → IsLookedAt m between levels' depth index whole found
    → StandsAt m layout parts levels' cs × IfSome (after (forest m) cs) (λ d. IsAnswerAt index whole m (settled d) found)
looked_on m layout parts levels between levels' cs depth index whole found long less keeps open' joined same looked =
    let (l, l_is, level) = there (IsLevel m layout cs) (slice_get between (length cs)) (level_here m layout cs between joined.0.fronts) in
    let both = looked_keeps m layout parts between cs joined.0 levels' index whole found level.left
    (subst (λ n. (k : ℕ) → k ≢ n → slice_get levels' k ≡ slice_get between k) (sym long) same) (subst (λ n. IsLookedAt m between levels' n index whole found) (sym long) looked)
    (subst (λ n. HasPairsAt between n (index + 1)) (sym long) joined.1) level.leads
    (of_some (λ x. IsOpenOf index whole m (settled x)) (after (forest m) cs) level.left level.leads open') in (
      both.0,
      if_some _ (after (forest m) cs) (λ d leads. subst (λ x. IsAnswerAt index whole m (settled x) found) (same_Some level.left d (sym level.leads ∙ leads)) both.1),
    )

-- what a look finds is the answer
pub found_answers : (index : ℕ) (whole : Bool) (m : Matter) (ms : List Member) (found : Option Settings) (b : Bool) → b ≡ is_some found → b ≡ true → IsAnswerAt index whole m ms found → IsAnswer whole m ms found
found_answers index whole m ms None b is yes' answer = absurd (cc)
found_answers index whole m ms (Some s) b is yes' answer = answer

-- else one pair more was looked at
pub none_found : (index : ℕ) (whole : Bool) (m : Matter) (ms : List Member) (found : Option Settings) (b : Bool) → b ≡ is_some found → b ≡ false → IsAnswerAt index whole m ms found → IsOpenOf (index + 1) whole m ms
none_found index whole m ms None b is no' answer = answer
none_found index whole m ms (Some s) b is no' answer = absurd (cc)
