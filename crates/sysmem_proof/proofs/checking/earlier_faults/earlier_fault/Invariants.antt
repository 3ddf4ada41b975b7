-- What is earlier than the choices so far is refuted.
use Rattle.std.proofs.Common.{◌≡◌, Some, take}
use Rattle.sysmem_tree.specs.Forest.{Forest}
use Rattle.sysmem_tree.specs.Selection.{after}
use Rattle.sysmem_tree.specs.Shape.{Member}
use Rattle.verdict_claims.specs.Matter.{forest, terms}
use Rattle.sysmem_proof.proofs.Left.{EarlierTo}
use Rattle.sysmem_proof.proofs.checking.earlier_faults.earlier_fault.Given as goal

abbrev pub invariant-loop-index : goal.invariant-loop-index
invariant-loop-index l = record {
  same : l.prefix ≡ take l.index l.chosen;
  left : (e : Forest Member) → after (forest l.checker) (take l.index l.chosen) ≡ Some e
      → EarlierTo l.checker.platform (terms l.checker) (forest l.checker) l.chosen l.earlier l.index e;
}
