-- The layout's marks are the domain's.
use Rattle.std.proofs.Common.{false, get_or, arith}
use Rattle.sysmem_tree.proofs.layout.Layout.settled_marks.Goals as goal
use Rattle.sysmem_tree.proofs.layouts.NextGroups.{prefix_of_places}
use Rattle.sysmem_tree.proofs.layouts.ToldMembers.{told_member}

pub marks_after-requires-clause-prefix : goal.marks_after-requires-clause-prefix
marks_after-requires-clause-prefix c = let (d, laid, prefix) = c.requires.prefix in (d, laid, prefix_of_places c.args.self.now d laid _ _ c.choices.ensures prefix)

pub marks_after-requires-clause-numbers : goal.marks_after-requires-clause-numbers
marks_after-requires-clause-numbers c = λ k p is. let (nodes, tree, holds) = c.requires.nodes in let less = holds k p is in omega (arith, less, tree.few)

pub returns : goal.returns
returns c = λ nodes r laid prefix k. told_member c.args.self.now nodes r k _ _ (get_or c.marks_after.result k false) laid c.choices.ensures prefix (c.marks_after.ensures _ laid k)
