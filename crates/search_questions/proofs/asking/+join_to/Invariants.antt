-- Each level needs that above it.
use Rattle.search_questions.proofs.asking.+join_to.Given as goal

abbrev pub decreases-join_to : goal.decreases-join_to
decreases-join_to l = l.depth
