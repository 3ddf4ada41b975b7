-- Those up to an index are all of them, where there aren't more.
use Rattle.std.proofs.Common.{◌≡◌, arith}
use Rattle.flat_negotiation.proofs.Lists.{all-up-to}
use Rattle.flat_negotiation.proofs.blaming.up_to.Goals as goal

pub returns-else-who-asked : goal.returns-else-who-asked
returns-else-who-asked c = all-up-to c.args.asked.now c.args.who (omega (arith, c.if-who-asked.false))
