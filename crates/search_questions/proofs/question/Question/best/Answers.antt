-- Those are the best that were found.
use Rattle.search_questions.proofs.question.Question.best.Goals as goal

pub returns-clause-best : goal.returns-clause-best
returns-clause-best c = c.best_as.ensures.answer
