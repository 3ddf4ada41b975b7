use Rattle.sysmem_tree.specs.ActionKind.{deed_of}
use Rattle.sysmem_tree.proofs.steps.Entering.{still_there}
use Rattle.sysmem_tree.proofs.tree.Tree.apply.Goals as goal

pub returns-clause-there : goal.returns-clause-there
returns-clause-there c = (still_there c.args.self.now c.event.inside.0.0.0 (deed_of c.event.inside.0.1.0) _ c.enter.ensures).0

pub returns-clause-grows : goal.returns-clause-grows
returns-clause-grows c = (still_there c.args.self.now c.event.inside.0.0.0 (deed_of c.event.inside.0.1.0) _ c.enter.ensures).1
