use Rattle.live_script.proofs.Recurring.{recurs}
use Rattle.live_script.proofs.laws.settled_calls_recur.Goals as goal

pub returns : goal.returns
returns c = recurs c.one_answer.ensures
