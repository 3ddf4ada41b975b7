use Rattle.std.proofs.Common.{arith}
use Rattle.sysmem_image.proofs.Divide.{first_step, next_step, last_step}
use Rattle.sysmem_image.proofs.multiples.gcd.Goals as goal

pub loop-y-init : goal.loop-y-init
loop-y-init c = first_step c.args.a c.args.b c.requires.a_some

pub loop-y-preserved : goal.loop-y-preserved
loop-y-preserved c = next_step c.args.a c.args.b c.loop-y.x c.loop-y.y (omega arith) c.loop-y.invariant

pub returns-clause-left : goal.returns-clause-left
returns-clause-left c = (last_step c.args.a c.args.b c.loop-y.x c.loop-y.y (omega arith) c.loop-y.invariant).0

pub returns-clause-right : goal.returns-clause-right
returns-clause-right c = (last_step c.args.a c.args.b c.loop-y.x c.loop-y.y (omega arith) c.loop-y.invariant).1
