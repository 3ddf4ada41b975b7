-- What is kept stands for all of the list.
use Rattle.flat_negotiation.proofs.settling.settled.Goals as goal

pub returns-in-Ok-clause-best : goal.returns-in-Ok-clause-best
returns-in-Ok-clause-best c = c.in-Ok.ensures.best c.args.platform.now c.args.asked.now c.in_ok-aggregate.ensures

pub refused-requires-clause-unmet : goal.refused-requires-clause-unmet
refused-requires-clause-unmet c = c.in-Err.ensures.none c.args.platform.now c.args.asked.now c.in_ok-aggregate.ensures
