-- What was found among the choices of a share.
use Rattle.std.proofs.Common.{◌≡◌, ◌<◌, ◌≤◌, [], ◌∷◌, List, ℕ, inl, inr, sym, ◌∙◌, ap, subst, arith}
use Rattle.std.specs.Prelude.{MatchOption}
use Rattle.std.proofs.lemmas.Bool.{cases_lt}
use Rattle.verdict_claims.specs.Matter.{forest}
use Rattle.search_questions.specs.Standing.{Standing}
use Rattle.sysmem_search.specs.Wide.{IsFirstAt, IsUnmetAt}
use Rattle.sysmem_tree.specs.Selection.{IsPrefix}
use Rattle.sysmem_search.proofs.wide.search_share.Goals as goal

pub search_choice-requires-clause-prefix : goal.search_choice-requires-clause-prefix
search_choice-requires-clause-prefix g c = subst (λ (s : Standing). IsPrefix (forest s.matter) (c.loop-choice.choice ∷ [])) (sym c.loop-choice.invariant.same)
    (c.requires.prefixes c.loop-choice.choice (omega (arith, c.loop-choice-test.true, c.first_choice-to.ensures.within)))

pub returns-in-Some : goal.returns-in-Some
returns-in-Some g c =
    let found = subst (λ o. MatchOption o ((c.search_choice.new.question ≡ c.loop-choice.question) × IsUnmetAt c.loop-choice.question.matter c.loop-choice.choice)
    (λ s. IsFirstAt c.loop-choice.question.matter c.loop-choice.choice (record { selection = c.search_choice.new.question.choices; settings = s }))) c.in-Some.is c.in_ok-settings.ensures in
    let made = c.new-chosen.ensures ∙ ap (λ (xs : List ℕ). record { selection = xs; settings = c.in-Some.settings }) c.into_prefix.ensures in (
      c.loop-choice.choice,
      subst (IsFirstAt c.args.subject.now c.loop-choice.choice) (sym made)
          (subst (λ (s : Standing). IsFirstAt s.matter c.loop-choice.choice (record { selection = c.search_choice.new.question.choices; settings = c.in-Some.settings })) c.loop-choice.invariant.same found),
      λ b low less. c.loop-choice.invariant.unmet b (subst (λ k. k ≤ b) (sym c.first_choice-from.ensures.start) low) less,
    )

pub loop-choice-preserved : goal.loop-choice-preserved
loop-choice-preserved g c =
    let found = subst (λ o. MatchOption o ((c.search_choice.new.question ≡ c.loop-choice.question) × IsUnmetAt c.loop-choice.question.matter c.loop-choice.choice)
    (λ s. IsFirstAt c.loop-choice.question.matter c.loop-choice.choice (record { selection = c.search_choice.new.question.choices; settings = s }))) c.in_default.is c.in_ok-settings.ensures in
    let here : IsUnmetAt c.args.subject.now c.loop-choice.choice = subst (λ (s : Standing). IsUnmetAt s.matter c.loop-choice.choice) c.loop-choice.invariant.same found.1 in
    record {
      same = found.0 ∙ c.loop-choice.invariant.same;
      unmet = λ b low less. elim (cases_lt b c.loop-choice.choice) as (λ _. IsUnmetAt c.args.subject.now b) [
        | inl before ↦ c.loop-choice.invariant.unmet b low before
        | inr behind ↦ subst (IsUnmetAt c.args.subject.now) (omega (arith, behind, less)) here
      ];
    }

pub returns : goal.returns
returns g c = λ b low less. c.loop-choice.invariant.unmet b (subst (λ k. k ≤ b) (sym c.first_choice-from.ensures.start) low)
    (let before = subst (λ k. b < k) (sym c.first_choice-to.ensures.start) less in omega (arith, before, c.loop-choice-test.false))
