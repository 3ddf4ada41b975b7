-- The verdict is what was found from no choices on.
use Rattle.std.proofs.Common.{[], Some, sym, ◌∙◌, ap, subst}
use Rattle.std.specs.Prelude.{MatchOption, option_map}
use Rattle.search_questions.specs.Standing.{Standing}
use Rattle.sysmem_search.proofs.Decided.{many_counted, few_counted, decided_empty, best_found, decided_chosen}
use Rattle.search_questions.proofs.CallerLemmas.{none_best}
use Rattle.search_questions.specs.Searching.{IsFoundOf}
use Rattle.sysmem_tree.specs.Shape.{shape_of}
use Rattle.sysmem_search.proofs.deciding.search.Goals as goal

pub returns-then-count_selections-gt-MOST_SELECTIONS-clause-optimal : goal.returns-then-count_selections-gt-MOST_SELECTIONS-clause-optimal
returns-then-count_selections-gt-MOST_SELECTIONS-clause-optimal g c =
    let base = option_map (λ b. b.now) c.args.base in
    many_counted c.args.platform.now c.args.tree.now.nodes c.args.domain base c.count_selections.result c.count_selections.ensures c.if-count_selections-gt-MOST_SELECTIONS.true

pub returns-then-not-branch-clause-optimal : goal.returns-then-not-branch-clause-optimal
returns-then-not-branch-clause-optimal g c =
    let base = option_map (λ b. b.now) c.args.base in
    let few = few_counted c.args.platform.now c.args.tree.now.nodes c.args.domain base c.count_selections.result c.count_selections.ensures c.if-count_selections-gt-MOST_SELECTIONS.false in
    let (found, any, h) = c.in_ok-search_from.ensures.found in
    let (optimal, visits) = decided_empty c.args.platform.now c.args.tree.now.nodes c.args.domain base c.in_ok-question.question.matter c.in_ok-question.question.choices c.search_from.new.question.choices
    c.search_from.new.visits found (ap (λ (s : Standing). s.matter) c.in_ok-question.ensures ∙ c.new-subject.ensures) (ap (λ (s : Standing). s.choices) c.in_ok-question.ensures) (none_best found (sym any ∙ c.if-not-branch.true)) few h in
    optimal

pub returns-then-not-branch-clause-visits : goal.returns-then-not-branch-clause-visits
returns-then-not-branch-clause-visits g c =
    let base = option_map (λ b. b.now) c.args.base in
    let few = few_counted c.args.platform.now c.args.tree.now.nodes c.args.domain base c.count_selections.result c.count_selections.ensures c.if-count_selections-gt-MOST_SELECTIONS.false in
    let (found, any, h) = c.in_ok-search_from.ensures.found in
    let (optimal, visits) = decided_empty c.args.platform.now c.args.tree.now.nodes c.args.domain base c.in_ok-question.question.matter c.in_ok-question.question.choices c.search_from.new.question.choices
    c.search_from.new.visits found (ap (λ (s : Standing). s.matter) c.in_ok-question.ensures ∙ c.new-subject.ensures) (ap (λ (s : Standing). s.choices) c.in_ok-question.ensures) (none_best found (sym any ∙ c.if-not-branch.true)) few h in
    visits

pub unreachable-requires : goal.unreachable-requires
unreachable-requires g c =
    let base = option_map (λ b. b.now) c.args.base in
    let (found, any, h) = c.in_ok-search_from.ensures.found in
    let is_best = best_found c.args.platform.now c.args.tree.now.nodes c.args.domain base c.in_ok-question.question.matter c.in_ok-question.question.choices c.search_from.new.question.choices
    c.search_from.new.visits found c.search_from.new.question.matter c.best.result (ap (λ (s : Standing). s.matter) c.in_ok-question.ensures ∙ c.new-subject.ensures) (ap (λ (s : Standing). s.choices) c.in_ok-question.ensures) (sym any ∙ c.if-not-branch.false) h
    (c.in_ok-search_from.ensures.matter ∙ (ap (λ (s : Standing). s.matter) c.in_ok-question.ensures ∙ c.new-subject.ensures)) c.best.ensures.best in
    subst (λ o. MatchOption o ⊥ (λ s. IsFoundOf (record { platform = c.args.platform.now; nodes = c.args.tree.now.nodes; domain = c.args.domain; base = base }) (shape_of c.args.tree.now.nodes c.args.domain) [] c.search_from.new.question.choices 0 c.search_from.new.visits (Some s))) c.in_default.is is_best

pub returns-clause-optimal : goal.returns-clause-optimal
returns-clause-optimal g c =
    let base = option_map (λ b. b.now) c.args.base in
    let few = few_counted c.args.platform.now c.args.tree.now.nodes c.args.domain base c.count_selections.result c.count_selections.ensures c.if-count_selections-gt-MOST_SELECTIONS.false in
    let (found, any, h) = c.in_ok-search_from.ensures.found in
    let is_best = best_found c.args.platform.now c.args.tree.now.nodes c.args.domain base c.in_ok-question.question.matter c.in_ok-question.question.choices c.search_from.new.question.choices
    c.search_from.new.visits found c.search_from.new.question.matter c.best.result (ap (λ (s : Standing). s.matter) c.in_ok-question.ensures ∙ c.new-subject.ensures) (ap (λ (s : Standing). s.choices) c.in_ok-question.ensures) (sym any ∙ c.if-not-branch.false) h
    (c.in_ok-search_from.ensures.matter ∙ (ap (λ (s : Standing). s.matter) c.in_ok-question.ensures ∙ c.new-subject.ensures)) c.best.ensures.best in
    let (optimal, visits) = decided_chosen c.args.platform.now c.args.tree.now.nodes c.args.domain base c.search_from.new.question.choices c.search_from.new.visits c.in-Some.settings c.new-2.result few
    (subst (λ o. MatchOption o ⊥ (λ s. IsFoundOf (record { platform = c.args.platform.now; nodes = c.args.tree.now.nodes; domain = c.args.domain; base = base }) (shape_of c.args.tree.now.nodes c.args.domain) [] c.search_from.new.question.choices 0 c.search_from.new.visits (Some s))) c.in-Some.is is_best)
    (c.new-2.ensures ∙ ap (λ xs. record { selection = xs; settings = c.in-Some.settings }) (c.into_prefix.ensures ∙ ap (λ (s : Standing). s.choices) c.best.ensures.same)) in
    optimal

pub returns-clause-visits : goal.returns-clause-visits
returns-clause-visits g c =
    let base = option_map (λ b. b.now) c.args.base in
    let few = few_counted c.args.platform.now c.args.tree.now.nodes c.args.domain base c.count_selections.result c.count_selections.ensures c.if-count_selections-gt-MOST_SELECTIONS.false in
    let (found, any, h) = c.in_ok-search_from.ensures.found in
    let is_best = best_found c.args.platform.now c.args.tree.now.nodes c.args.domain base c.in_ok-question.question.matter c.in_ok-question.question.choices c.search_from.new.question.choices
    c.search_from.new.visits found c.search_from.new.question.matter c.best.result (ap (λ (s : Standing). s.matter) c.in_ok-question.ensures ∙ c.new-subject.ensures) (ap (λ (s : Standing). s.choices) c.in_ok-question.ensures) (sym any ∙ c.if-not-branch.false) h
    (c.in_ok-search_from.ensures.matter ∙ (ap (λ (s : Standing). s.matter) c.in_ok-question.ensures ∙ c.new-subject.ensures)) c.best.ensures.best in
    let (optimal, visits) = decided_chosen c.args.platform.now c.args.tree.now.nodes c.args.domain base c.search_from.new.question.choices c.search_from.new.visits c.in-Some.settings c.new-2.result few
    (subst (λ o. MatchOption o ⊥ (λ s. IsFoundOf (record { platform = c.args.platform.now; nodes = c.args.tree.now.nodes; domain = c.args.domain; base = base }) (shape_of c.args.tree.now.nodes c.args.domain) [] c.search_from.new.question.choices 0 c.search_from.new.visits (Some s))) c.in-Some.is is_best)
    (c.new-2.ensures ∙ ap (λ xs. record { selection = xs; settings = c.in-Some.settings }) (c.into_prefix.ensures ∙ ap (λ (s : Standing). s.choices) c.best.ensures.same)) in
    visits
