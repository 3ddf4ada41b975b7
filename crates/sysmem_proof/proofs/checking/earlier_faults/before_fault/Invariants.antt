-- The choices so far are refuted.
use Rattle.std.proofs.Common.{◌≡◌, List, Some, take}
use Rattle.sysmem_tree.specs.Forest.{Forest, choices}
use Rattle.sysmem_tree.specs.Selection.{after}
use Rattle.sysmem_tree.specs.Shape.{Member}
use Rattle.verdict_claims.specs.Matter.{forest, terms}
use Rattle.sysmem_proof.proofs.Left.{BeforeTo}
use Rattle.sysmem_proof.proofs.checking.earlier_faults.before_fault.Given as goal

abbrev pub invariant-loop-index : goal.invariant-loop-index
invariant-loop-index l = record {
  same : l.prefix ≡ l.fn.prefix;
  left : (d : Forest Member) (es : List (Forest Member)) → after (forest l.checker) l.fn.prefix ≡ Some d → choices d ≡ Some es
      → BeforeTo l.checker.platform (terms l.checker) l.index (take l.choice es) l.refutations;
}
