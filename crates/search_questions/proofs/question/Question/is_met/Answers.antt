-- Some settings meet exactly where there is an answer.
use Rattle.std.proofs.Common.{false}
use Rattle.list_lemmas.proofs.CallerLemmas.{of_some}
use Rattle.search_questions.specs.Asking.{IsAnswer}
use Rattle.search_questions.proofs.AskedMembers.{if_some}
use Rattle.search_questions.proofs.Keeping.{told_met}
use Rattle.sysmem_tree.specs.Forest.{settled}
use Rattle.sysmem_tree.specs.Selection.{after}
use Rattle.verdict_claims.specs.Matter.{forest}
use Rattle.search_questions.proofs.question.Question.is_met.Goals as goal

pub returns-clause-met : goal.returns-clause-met
returns-clause-met c =
    let m = c.args.self.now.matter in
    let left = after (forest m) c.args.self.now.choices in
    if_some _ left (λ d leads. told_met m d c.best_as.result c.is_some.result c.is_some.ensures
    (of_some (λ x. IsAnswer false m (settled x) c.best_as.result) left d leads c.best_as.ensures.answer))
