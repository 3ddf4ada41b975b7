-- What is left of the items once some children were read.
use Rattle.std.proofs.Common.{◌≡◌, ◌<◌, ◌-◌, Some, length}
use Rattle.sysmem_tree.specs.Forest.{Forest}
use Rattle.sysmem_tree.specs.Selection.{after}
use Rattle.sysmem_tree.specs.Shape.{Member}
use Rattle.verdict_claims.specs.Matter.{forest, terms}
use Rattle.sysmem_proof.proofs.Left.{ReadTo}
use Rattle.sysmem_proof.proofs.checking.refutation_faults.+refuted_to.Given as goal

abbrev pub decreases-refuted_to : goal.decreases-refuted_to
decreases-refuted_to l = length l.items.now - l.start

abbrev pub invariant-loop-choice : goal.invariant-loop-choice
invariant-loop-choice l = record {
  same : l.prefix ≡ l.fn.prefix;
  on : l.start < l.at;
  read : (d : Forest Member) → after (forest l.checker) l.fn.prefix ≡ Some d → ReadTo l.checker.platform (terms l.checker) l.items l.start l.at l.choice d;
}
