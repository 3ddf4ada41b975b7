-- What is open after the choices so far.
use Rattle.std.proofs.Common.{ℕ, take}
use Rattle.sysmem_tree.specs.Forest.{Forest}
use Rattle.sysmem_tree.specs.Layout.{IsLayout}
use Rattle.sysmem_tree.specs.OpenGroups.{IsFirstOpen}
use Rattle.sysmem_tree.proofs.settled.is_prefix.Given as goal

abbrev pub invariant-loop-choice : goal.invariant-loop-choice
invariant-loop-choice l = ((d : Forest ℕ) → IsLayout l.layout d → IsFirstOpen l.layout d (take l.choice-index l.choices) l.group)
