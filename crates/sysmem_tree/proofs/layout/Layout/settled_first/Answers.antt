-- The walk over the whole layout.
use Rattle.sysmem_tree.proofs.layouts.Shares.{gives_first}
use Rattle.sysmem_tree.proofs.layout.Layout.settled_first.Goals as goal

pub returns : goal.returns
returns c = λ d laid. gives_first c.args.self.now d laid
