-- What workers find, joined.
use Rattle.std.proofs.Common.{◌≡◌, ◌<◌, ◌≤◌, ◌+◌, ◌/◌, ◌↔◌, ℕ, Bool, true, false, List, [], ◌∷◌, ◌++◌, Option, Some, None, inl, inr, length, length-append, min, slice_get, is_some, refl, sym, ◌∙◌, ap, subst, arith}
use Rattle.std.specs.Prelude.{IfOk, IfSome, IsSomeAnd, IsTrue, MatchOption, Ok, Result, option_map, option_and_then}
use Rattle.std.specs.Option.{option_or}
use Rattle.std.proofs.lemmas.Bool.{cases_lt}
use Rattle.std.proofs.lemmas.Option.{same_Some}
use Rattle.std.proofs.lemmas.List.{get_or_append_left}
use Rattle.std.proofs.Math.Nat.{zero-div, mul-div_cancel_left, zero-mul}
use Rattle.std.proofs.Math.Seq.{get_or-append_seam}
use Rattle.list_lemmas.proofs.CallerLemmas.{of_some, slice_get_some}
use Rattle.sysmem_merge.specs.declared.settings.Settings.{Settings}
use Rattle.verdict_claims.specs.Chosen.{ChosenFacts}
use Rattle.verdict_claims.specs.Laws.{CutsLoseNothing}
use Rattle.verdict_claims.specs.Matter.{Matter, forest, terms}
use Rattle.verdict_claims.specs.Verdict.{IsForestUnmet, IsChosen, IsOptimalIn}
use Rattle.verdict_claims.proofs.CallerLemmas.{AreUnmet, split_unmet, chosen_below}
use Rattle.search_questions.specs.Live.{SomeMeet, choose}
use Rattle.search_questions.specs.Question.{MeetsOf, MeetsSoFar, IsBestOf}
use Rattle.search_questions.specs.Searching.{IsFoundOf}
use Rattle.search_questions.specs.Standing.{Standing}
use Rattle.sysmem_search.specs.declared.wide.Share.{Share}
use Rattle.sysmem_search.specs.Wide.{IsUnmetAt, IsFirstAt, IsFirstIn, AreFirstIn, IsFirstOfAll, share_start, verdict_of}
use Rattle.sysmem_search.proofs.Decided.{best_is_met, few_counted}
use Rattle.search_questions.proofs.CallerLemmas.{after_push, found_cut, some_best}
use Rattle.sysmem_tree.specs.Forest.{Forest, choices, count, settled}
use Rattle.sysmem_tree.specs.Selection.{IsPrefix, after}
use Rattle.sysmem_tree.specs.Shape.{Member, by_number, forest_of}

-- where the first share begins, and where the last ends
pub share_none : (workers choices : ℕ) → share_start workers choices 0 ≡ 0
share_none workers choices = ap (λ k. k / workers) (zero-mul choices) ∙ zero-div workers

pub share_all : (workers choices : ℕ) → 0 < workers → share_start workers choices workers ≡ choices
share_all workers choices some = mul-div_cancel_left choices some

module _ (m : Matter) where
  -- where the first group has so many children, each can be chosen
  pub prefix_of : (n c : ℕ) → option_map length (choices (forest m)) ≡ Some n → c < n → IsPrefix (forest m) (c ∷ [])
  prefix_of n c many less = by (choices (forest m)) refl many where
    by : (o : Option (List (Forest Member))) → choices (forest m) ≡ o → option_map length o ≡ Some n → IsPrefix (forest m) (c ∷ [])
    by None is e = absurd (cc)
    by (Some es) is e =
        let long : length es ≡ n = same_Some (length es) n e in
        let (x, here) = slice_get_some es c (omega (arith, long, less)) in
        ap is_some (after_push [] (forest m) (forest m) x es c refl is here)

  -- the forest after a choice that can be made
  after_one : (c : ℕ) (e : Forest Member) → choose (forest m) c ≡ Some e → after (forest m) (c ∷ []) ≡ Some e
  after_one c e is = ap (option_and_then (λ (x : Forest Member). Some x)) is

  one_chosen : (c : ℕ) → IsPrefix (forest m) (c ∷ []) → (e : Forest Member) × (choose (forest m) c ≡ Some e)
  one_chosen c prefix = by (choose (forest m) c) refl where
    by : (o : Option (Forest Member)) → choose (forest m) c ≡ o → (e : Forest Member) × (choose (forest m) c ≡ Some e)
    by None is = absurd (none (sym (ap (λ o. is_some (option_and_then (λ (x : Forest Member). Some x) o)) is) ∙ prefix)) where
      none : false ≡ true → ⊥
      none e = cc
    by (Some e) is = (e, is)

  -- what was found after a choice
  module _ (s : Standing) (c : ℕ) (new : List ℕ) (from to : ℕ) (is : s ≡ record { matter = m; choices = c ∷ [] }) (prefix : IsPrefix (forest m) (c ∷ [])) where
    at_choice : (best : Option Settings) → IfSome (after (forest s.matter) s.choices) (λ d. IsFoundOf s.matter d s.choices new from to best)
        → (e : Forest Member) → choose (forest m) c ≡ Some e → IsFoundOf m e (c ∷ []) new from to best
    at_choice best h e here = of_some (λ d. IsFoundOf m d (c ∷ []) new from to best) (after (forest m) (c ∷ [])) e (after_one c e here)
        (subst (λ (x : Standing). IfSome (after (forest x.matter) x.choices) (λ d. IsFoundOf x.matter d x.choices new from to best)) is h)

    pub nothing_at : (best : Option Settings) → best ≡ None → IfSome (after (forest s.matter) s.choices) (λ d. IsFoundOf s.matter d s.choices new from to best)
        → (new ≡ c ∷ []) × IsUnmetAt m c
    nothing_at best none h =
        let (e, here) = one_chosen c prefix in
        let f = at_choice None (subst (λ b. IfSome (after (forest s.matter) s.choices) (λ d. IsFoundOf s.matter d s.choices new from to b)) none h) e here in
        (f.same, subst (λ o. IfSome o (λ x. IsForestUnmet (MeetsOf m) x)) (sym here) f.unmet)

    pub best_at : (found : Option Settings) (r : Matter) (best : Option Settings) → is_some found ≡ true
        → IfSome (after (forest s.matter) s.choices) (λ d. IsFoundOf s.matter d s.choices new from to found) → r ≡ m
        → IfSome (after (forest r) new) (λ d. MatchOption best ((t : Settings) → ¬ (MeetsOf r (settled d) t)) (IsBestOf r (settled d)))
        → MatchOption best ⊥ (λ b. IsFirstAt m c (record { selection = new; settings = b }))
    best_at found r best any h same asked =
        let (first, some) = some_best found any in
        let (e, here) = one_chosen c prefix in
        let f = at_choice (Some first) (subst (λ b. IfSome (after (forest s.matter) s.choices) (λ d. IsFoundOf s.matter d s.choices new from to b)) some h) e here in
        let leads : after (forest m) new ≡ Some f.chosen.members = ap (after (forest m)) f.goes_on ∙ (ap (option_and_then (λ x. after x f.selection)) here ∙ f.chosen.selects.leads) in
        let there = of_some (λ d. MatchOption best ((t : Settings) → ¬ (MeetsOf m (settled d) t)) (IsBestOf m (settled d))) (after (forest m) new) f.chosen.members leads
        (subst (λ x. IfSome (after (forest x) new) (λ d. MatchOption best ((t : Settings) → ¬ (MeetsOf x (settled d) t)) (IsBestOf x (settled d)))) same asked) in
        by first e here f.selection f.goes_on f.chosen best there where
          by : (first : Settings) (e : Forest Member) → choose (forest m) c ≡ Some e → (rest : List ℕ) → new ≡ c ∷ rest → (chosen : IsChosen (MeetsOf m) (IsBestOf m) e rest first)
              → (o : Option Settings) → MatchOption o ((t : Settings) → ¬ (MeetsOf m (settled chosen.members) t)) (IsBestOf m (settled chosen.members))
              → MatchOption o ⊥ (λ b. IsFirstAt m c (record { selection = new; settings = b }))
          by first e here rest goes_on chosen None none = none first (best_is_met m.platform (terms m) (settled chosen.members) first chosen.best)
          by first e here rest goes_on chosen (Some b) best' = subst (λ o. IsSomeAnd o (λ x. (more : List ℕ) × (new ≡ c ∷ more) × IsChosen (MeetsOf m) (IsBestOf m) x more b)) (sym here) (
            rest,
            goes_on,
            record { members = chosen.members; selects = chosen.selects; best = best'; first = chosen.first },
          )

  -- what was found among some choices, and then among the next
  pub then_first : (from between to : ℕ) (a b : Option ChosenFacts) → IsFirstIn m from between a → IsFirstIn m between to b → IsFirstIn m from to (option_or a b)
  then_first from between to None None before behind = λ c low high. elim (cases_lt c between) as (λ _. IsUnmetAt m c) [
    | inl less ↦ before c low less
    | inr more ↦ behind c more high
  ]
  then_first from between to None (Some chosen) before (c, first, unmet) = (
    c,
    first,
    λ b low less. elim (cases_lt b between) as (λ _. IsUnmetAt m b) [
      | inl early ↦ before b low early
      | inr late ↦ unmet b late less
    ],
  )
  then_first from between to (Some chosen) b before behind = before

  -- one share more
  pub joined_more : {E : Type 0} (start : ℕ → ℕ) (xs : List (Result Share E)) (x : Result Share E) (share : Share) (all new : Option ChosenFacts) → x ≡ Ok share
      → (AreFirstIn m start xs → IsFirstIn m (start 0) (start (length xs)) all)
      → (IsFirstIn m (start 0) (start (length xs)) all → IsFirstIn m (start (length xs)) (start (length xs + 1)) share.chosen → IsFirstIn m (start 0) (start (length xs + 1)) new)
      → AreFirstIn m start (xs ++ x ∷ []) → IsFirstIn m (start 0) (start (length (xs ++ x ∷ []))) new
  joined_more {E} start xs x share all new is before more each =
      let long : length (xs ++ x ∷ []) ≡ length xs + 1 = length-append xs (x ∷ []) in
      let front : AreFirstIn m start xs = λ w d less. subst (λ r. IfOk r (λ (one : Share). IsFirstIn m (start w) (start (w + 1)) one.chosen)) (get_or_append_left xs (x ∷ []) d w less)
      (each w d (omega (arith, less, long))) in
      let last : IfOk x (λ (one : Share). IsFirstIn m (start (length xs)) (start (length xs + 1)) one.chosen)
      = subst (λ r. IfOk r (λ (one : Share). IsFirstIn m (start (length xs)) (start (length xs + 1)) one.chosen)) (get_or-append_seam xs x [] x) (each (length xs) x (omega (arith, long))) in
      subst (λ k. IsFirstIn m (start 0) (start k) new) (sym long)
      (more (before front) (subst (λ r. IfOk r (λ (one : Share). IsFirstIn m (start (length xs)) (start (length xs + 1)) one.chosen)) is last))

  -- what was found among all choices
  pub first_of_all : (n : ℕ) (found : Option ChosenFacts) → option_map length (choices (forest m)) ≡ Some n → IsFirstIn m 0 n found → IsFirstOfAll m found
  first_of_all n found many h = by (choices (forest m)) refl many where
    at_place : (es : List (Forest Member)) → choices (forest m) ≡ Some es → (c : ℕ) → choose (forest m) c ≡ slice_get es c
    at_place es open' c = ap (option_and_then (λ xs. slice_get xs c)) open'

    unmet_to : (es : List (Forest Member)) → choices (forest m) ≡ Some es → (k : ℕ) → ((c : ℕ) → 0 ≤ c → c < k → IsUnmetAt m c) → AreUnmet (MeetsOf m) es k
    unmet_to es open' k each = λ i e less here. of_some (λ x. IsForestUnmet (MeetsOf m) x) (choose (forest m) i) e (at_place es open' i ∙ here) (each i (omega arith) less)

    chosen_of : (es : List (Forest Member)) → choices (forest m) ≡ Some es → (c : ℕ) (chosen : ChosenFacts) → ((b : ℕ) → 0 ≤ b → b < c → IsUnmetAt m b)
        → (o : Option (Forest Member)) → choose (forest m) c ≡ o → IsSomeAnd o (λ e. (rest : List ℕ) × (chosen.selection ≡ c ∷ rest) × IsChosen (MeetsOf m) (IsBestOf m) e rest chosen.settings)
        → IsFirstOfAll m (Some chosen)
    chosen_of es open' c chosen before None here first = absurd first
    chosen_of es open' c chosen before (Some e) here (rest, is, below) = subst (λ cs. IsChosen (MeetsOf m) (IsBestOf m) (forest m) cs chosen.settings) (sym is)
        (chosen_below (MeetsOf m) (IsBestOf m) (forest m) e es c rest chosen.settings open' (sym (at_place es open' c) ∙ here) (unmet_to es open' c before) below)

    of : (es : List (Forest Member)) → choices (forest m) ≡ Some es → length es ≡ n → (o : Option ChosenFacts) → IsFirstIn m 0 n o → IsFirstOfAll m o
    of es open' long None none = split_unmet (MeetsOf m) (forest m) es open' (subst (AreUnmet (MeetsOf m) es) (sym long) (unmet_to es open' n none))
    of es open' long (Some chosen) (c, first, before) = chosen_of es open' c chosen before (choose (forest m) c) refl first

    by : (o : Option (List (Forest Member))) → choices (forest m) ≡ o → option_map length o ≡ Some n → IsFirstOfAll m found
    by None is e = absurd (cc)
    by (Some es) is e = of es is (same_Some (length es) n e) found h

  -- where what is settled by no choice can't be met
  pub cut_at_once : (met : Bool) → CutsLoseNothing → met ≡ false → (IsTrue met ↔ SomeMeet (MeetsSoFar m) (forest m)) → IsFirstOfAll m None
  cut_at_once met cuts no' asked = (found_cut m (Some (forest m)) [] 0 1 met cuts no' refl asked).unmet

-- the verdict on a domain that hasn't too many selections, by the first that is met
pub optimal_first : (m : Matter) (counted : ℕ) (found : Option ChosenFacts) → counted ≡ min (count (forest_of by_number m.nodes m.domain [])) 18446744073709551615 → counted ≤ 4096
    → IsFirstOfAll m found → IsOptimalIn m.platform m.nodes m.domain m.base (verdict_of found)
optimal_first m counted None is few none = (few_counted m.platform m.nodes m.domain m.base counted is few, none)
optimal_first m counted (Some chosen) is few first = (few_counted m.platform m.nodes m.domain m.base counted is few, first)
