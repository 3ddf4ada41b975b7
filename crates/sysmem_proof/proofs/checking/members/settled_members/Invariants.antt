-- What the choices so far settle.
use Rattle.std.proofs.Common.{[], take}
use Rattle.sysmem_proof.proofs.Gathering.{AreGathered}
use Rattle.sysmem_tree.specs.Shape.{by_number, forest_of}
use Rattle.sysmem_proof.proofs.checking.members.settled_members.Given as goal

abbrev pub invariant-loop-choice : goal.invariant-loop-choice
invariant-loop-choice l = AreGathered l.layout (forest_of by_number l.tree.nodes l.fn.domain []) (take l.choice-index l.choice-items) l.members l.group
