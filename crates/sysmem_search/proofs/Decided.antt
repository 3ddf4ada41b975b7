-- What a search from no choices on decides.
use Rattle.std.proofs.Common.{◌≡◌, ◌<◌, ◌≤◌, ℕ, true, List, [], Option, Some, None, is_some, min, sym, ap, ◌∙◌, subst, arith}
use Rattle.std.specs.Prelude.{IfSome, MatchOption, option_map}
use Rattle.sysmem_merge.specs.declared.settings.Settings.{Settings}
use Rattle.verdict_claims.specs.Base.{BaseFacts, Terms, terms_of}
use Rattle.verdict_claims.specs.Chosen.{ChosenFacts}
use Rattle.verdict_claims.specs.Matter.{Matter, forest}
use Rattle.verdict_claims.specs.declared.verdict.Verdict.TheVariants as verdicts
use Rattle.verdict_claims.specs.Verdict.{IsChosen, IsBestFor, IsOptimalIn, MeetsFor}
use Rattle.negotiation_inputs.specs.Platform.{PlatformFacts}
use Rattle.search_questions.specs.Live.{IsLiveUpTo}
use Rattle.search_questions.specs.Question.{MeetsOf, MeetsSoFar, IsBestOf}
use Rattle.search_questions.specs.Searching.{FirstFound, IsFoundOf}
use Rattle.search_questions.specs.Visits.{IsRaised, AreVisitsIn}
use Rattle.search_questions.proofs.CallerLemmas.{same_count}
use Rattle.sysmem_tree.specs.Forest.{count, settled}
use Rattle.sysmem_tree.specs.Node.{NodeFacts}
use Rattle.sysmem_tree.specs.Selection.{after}
use Rattle.sysmem_tree.specs.Shape.{Member, by_number, forest_of, shape_of}
use Rattle.list_lemmas.proofs.CallerLemmas.{of_some}

-- the best settings meet
pub best_is_met : (platform : PlatformFacts) (terms : Option Terms) (ms : List Member) (s : Settings) → IsBestFor platform terms ms s → MeetsFor platform terms ms s
best_is_met platform None ms s best = best.meets
best_is_met platform (Some terms) ms s best = best

module _ (platform : PlatformFacts) (nodes : List NodeFacts) (domain : ℕ) (base : Option BaseFacts) where
  abbrev matter : Matter
  matter = record { platform = platform; nodes = nodes; domain = domain; base = base }

  -- how many selections there are, by what was counted
  pub many_counted : (counted : ℕ) → counted ≡ min (count (forest_of by_number nodes domain [])) 18446744073709551615 → 4096 < counted → 4096 < count (shape_of nodes domain)
  many_counted counted is more = let same = same_count nodes domain in omega (arith, is, more, same)

  pub few_counted : (counted : ℕ) → counted ≡ min (count (forest_of by_number nodes domain [])) 18446744073709551615 → counted ≤ 4096 → count (shape_of nodes domain) ≤ 4096
  few_counted counted is few = let same = same_count nodes domain in omega (arith, is, few, same)

  from_none : (q : Matter) (old new : List ℕ) (to : ℕ) (found : Option Settings) → q ≡ matter → old ≡ [] → IfSome (after (forest q) old) (λ d. IsFoundOf q d old new 0 to found)
      → IsFoundOf matter (shape_of nodes domain) [] new 0 to found
  from_none q old new to found same empty h = subst (λ xs. IfSome (after (shape_of nodes domain) xs) (λ d. IsFoundOf matter d xs new 0 to found)) empty
      (subst (λ m. IfSome (after (forest m) old) (λ d. IsFoundOf m d old new 0 to found)) same h)

  pub decided_empty : (q : Matter) (old new : List ℕ) (to : ℕ) (found : Option Settings) → q ≡ matter → old ≡ [] → found ≡ None → count (shape_of nodes domain) ≤ 4096
      → IfSome (after (forest q) old) (λ d. IsFoundOf q d old new 0 to found)
      → IsOptimalIn platform nodes domain base verdicts.IntersectionEmpty × AreVisitsIn platform nodes domain base verdicts.IntersectionEmpty to
  decided_empty q old new to found same empty none few h =
      let f = subst (λ o. IsFoundOf matter (shape_of nodes domain) [] new 0 to o) none (from_none q old new to found same empty h) in ((few, f.unmet), f.visited)

  -- the best settings where a search found some, for what is settled there
  pub best_found : (q : Matter) (old new : List ℕ) (to : ℕ) (found : Option Settings) (r : Matter) (best : Option Settings) → q ≡ matter → old ≡ [] → is_some found ≡ true
      → IfSome (after (forest q) old) (λ d. IsFoundOf q d old new 0 to found) → r ≡ matter
      → IfSome (after (forest r) new) (λ d. MatchOption best ((t : Settings) → ¬ (MeetsOf r (settled d) t)) (IsBestOf r (settled d)))
      → MatchOption best ⊥ (λ s. IsFoundOf matter (shape_of nodes domain) [] new 0 to (Some s))
  best_found q old new to None r best same empty any h same' here = absurd (cc any)
  best_found q old new to (Some s) r best same empty any h same' here = by best
      (of_some (λ d. MatchOption best ((t : Settings) → ¬ (MeetsOf matter (settled d) t)) (IsBestOf matter (settled d))) (after (shape_of nodes domain) new) f.chosen.members
      (ap (after (shape_of nodes domain)) f.goes_on ∙ f.chosen.selects.leads)
      (subst (λ m. IfSome (after (forest m) new) (λ d. MatchOption best ((t : Settings) → ¬ (MeetsOf m (settled d) t)) (IsBestOf m (settled d)))) same' here)) where
        f : FirstFound (MeetsOf matter) (IsBestOf matter) (MeetsSoFar matter) (shape_of nodes domain) [] new 0 to s
        f = from_none q old new to (Some s) same empty h

        by : (o : Option Settings) → MatchOption o ((t : Settings) → ¬ (MeetsOf matter (settled f.chosen.members) t)) (IsBestOf matter (settled f.chosen.members))
            → MatchOption o ⊥ (λ b. IsFoundOf matter (shape_of nodes domain) [] new 0 to (Some b))
        by None none = none s (best_is_met platform (option_map (terms_of nodes) base) (settled f.chosen.members) s f.chosen.best)
        by (Some b) is = record {
          selection = f.selection;
          goes_on = f.goes_on;
          chosen = record { members = f.chosen.members; selects = f.chosen.selects; best = is; first = f.chosen.first };
          visited = f.visited;
        }

  pub decided_chosen : (new : List ℕ) (to : ℕ) (s : Settings) (chosen : ChosenFacts) → count (shape_of nodes domain) ≤ 4096
      → IsFoundOf matter (shape_of nodes domain) [] new 0 to (Some s) → chosen ≡ record { selection = new; settings = s }
      → IsOptimalIn platform nodes domain base (verdicts.Chosen chosen) × AreVisitsIn platform nodes domain base (verdicts.Chosen chosen) to
  decided_chosen new to s chosen few f is =
      let all : (count (shape_of nodes domain) ≤ 4096) × IsChosen (MeetsOf matter) (IsBestOf matter) (shape_of nodes domain) new s
      × IsRaised (IsLiveUpTo (MeetsSoFar matter) (shape_of nodes domain) new) 0 to = (
        few,
        subst (λ xs. IsChosen (MeetsOf matter) (IsBestOf matter) (shape_of nodes domain) xs s) (sym f.goes_on) f.chosen,
        subst (λ xs. IsRaised (IsLiveUpTo (MeetsSoFar matter) (shape_of nodes domain) xs) 0 to) (sym f.goes_on) f.visited,
      ) in
      subst (λ (c : ChosenFacts). IsOptimalIn platform nodes domain base (verdicts.Chosen c) × AreVisitsIn platform nodes domain base (verdicts.Chosen c) to) (sym is) ((all.0, all.1), all.2)
