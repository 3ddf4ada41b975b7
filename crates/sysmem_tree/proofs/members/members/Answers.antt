-- The layout's marks are the domain's.
use Rattle.std.proofs.Common.{false, get_or, refl, arith}
use Rattle.sysmem_tree.proofs.members.members.Goals as goal
use Rattle.sysmem_tree.proofs.layouts.NextGroups.{prefix_of_places}
use Rattle.sysmem_tree.proofs.layouts.ToldMembers.{told_member}

pub marks_after-requires-clause-prefix : goal.marks_after-requires-clause-prefix
marks_after-requires-clause-prefix c = (_, c.new.ensures.layout, prefix_of_places c.new.result _ c.new.ensures.layout _ _ refl c.requires.prefix)

pub marks_after-requires-clause-numbers : goal.marks_after-requires-clause-numbers
marks_after-requires-clause-numbers c = λ k p is. let less = c.new.ensures.numbers k p is in omega (arith, less, c.requires.tree.few)

pub returns : goal.returns
returns c = λ k. told_member c.new.result c.args.nodes.now c.args.root k _ _ (get_or c.marks_after.result k false) c.new.ensures.layout refl c.requires.prefix (c.marks_after.ensures _ c.new.ensures.layout k)
