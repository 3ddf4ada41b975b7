-- The root's place tells the first group.
use Rattle.std.proofs.Common.{[], None, Some, sym, subst}
use Rattle.sysmem_tree.specs.OpenGroups.{IsFirstOpen}
use Rattle.sysmem_tree.proofs.layouts.GroupWalks.{opens_first}
use Rattle.sysmem_tree.proofs.layout.Layout.first_open.Goals as goal

pub returns-in_err-self : goal.returns-in_err-self
returns-in_err-self c = λ d laid. subst (IsFirstOpen c.args.self.now d []) (sym c.from_residual.ensures) (opens_first c.args.self.now d _ None laid c.in_err-self.was)

pub returns : goal.returns
returns c = λ d laid. opens_first c.args.self.now d _ (Some c.in_ok-self.field-0) laid c.in_ok-self.was
