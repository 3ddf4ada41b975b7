-- What was found after one choice.
use Rattle.std.proofs.Common.{◌≡◌, [], ◌∷◌, ◌++◌, ℕ, List, sym, ◌∙◌, ap, subst}
use Rattle.std.specs.Prelude.{MatchOption}
use Rattle.verdict_claims.specs.Matter.{Matter, forest}
use Rattle.search_questions.specs.Standing.{Standing}
use Rattle.sysmem_search.specs.Wide.{IsFirstAt}
use Rattle.search_questions.proofs.CallerLemmas.{none_best}
use Rattle.sysmem_search.proofs.Sharing.{nothing_at, best_at}
use Rattle.sysmem_tree.specs.Selection.{IsPrefix}
use Rattle.sysmem_search.proofs.wide.search_choice.Goals as goal

-- where the question stands after the choice
entered : (s q : Standing) (c : ℕ) → s ≡ record { matter = q.matter; choices = q.choices ++ c ∷ [] } → q.choices ≡ [] → s ≡ record { matter = q.matter; choices = c ∷ [] }
entered s q c is start = is ∙ ap (λ (cs : List ℕ). record { matter = q.matter; choices = cs ++ c ∷ [] }) start

pub search_from-requires-clause-prefix : goal.search_from-requires-clause-prefix
search_from-requires-clause-prefix g c = subst (λ (s : Standing). IsPrefix (forest s.matter) s.choices) (sym (entered c.enter.new.self c.args.question.now c.args.choice c.in_ok-enter.ensures c.requires.start)) c.requires.prefix

pub returns-then-not-branch : goal.returns-then-not-branch
returns-then-not-branch g c =
    let q = c.args.question.now in
    let at = entered c.enter.new.self q c.args.choice c.in_ok-enter.ensures c.requires.start in
    let (best, any, h) = c.in_ok-search_from.ensures.found in
    let (same, unmet) = nothing_at q.matter c.enter.new.self c.args.choice c.search_from.new.question.choices _ _ at c.requires.prefix best (none_best best (sym any ∙ c.if-not-branch.true)) h in
    let back : c.leave.new.self ≡ record { matter = q.matter; choices = [] }
    = c.leave.ensures [] c.args.choice same ∙ ap (λ (x : Matter). record { matter = x; choices = [] }) (c.in_ok-search_from.ensures.matter ∙ ap (λ (s : Standing). s.matter) at) in
    (back ∙ ap (λ (cs : List ℕ). record { matter = q.matter; choices = cs }) (sym c.requires.start), unmet)

pub unreachable-requires : goal.unreachable-requires
unreachable-requires g c =
    let q = c.args.question.now in
    let at = entered c.enter.new.self q c.args.choice c.in_ok-enter.ensures c.requires.start in
    let (best, any, h) = c.in_ok-search_from.ensures.found in
    subst (λ o. MatchOption o ⊥ (λ b. IsFirstAt q.matter c.args.choice (record { selection = c.search_from.new.question.choices; settings = b }))) c.in_default.is
    (best_at q.matter c.enter.new.self c.args.choice c.search_from.new.question.choices _ _ at c.requires.prefix best c.search_from.new.question.matter c.best.result (sym any ∙ c.if-not-branch.false) h
    (c.in_ok-search_from.ensures.matter ∙ ap (λ (s : Standing). s.matter) at) c.best.ensures.best)

pub returns : goal.returns
returns g c =
    let q = c.args.question.now in
    let at = entered c.enter.new.self q c.args.choice c.in_ok-enter.ensures c.requires.start in
    let (best, any, h) = c.in_ok-search_from.ensures.found in
    subst (λ (s : Standing). IsFirstAt q.matter c.args.choice (record { selection = s.choices; settings = c.in-Some.settings })) (sym c.best.ensures.same)
    (subst (λ o. MatchOption o ⊥ (λ b. IsFirstAt q.matter c.args.choice (record { selection = c.search_from.new.question.choices; settings = b }))) c.in-Some.is
    (best_at q.matter c.enter.new.self c.args.choice c.search_from.new.question.choices _ _ at c.requires.prefix best c.search_from.new.question.matter c.best.result (sym any ∙ c.if-not-branch.false) h
    (c.in_ok-search_from.ensures.matter ∙ ap (λ (s : Standing). s.matter) at) c.best.ensures.best))
