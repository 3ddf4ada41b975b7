-- Those are the best that were found.
use Rattle.search_questions.proofs.question.Question.has_best.Goals as goal

pub returns-clause-best : goal.returns-clause-best
returns-clause-best c = (c.best_as.result, c.is_some.ensures, c.best_as.ensures.answer)
