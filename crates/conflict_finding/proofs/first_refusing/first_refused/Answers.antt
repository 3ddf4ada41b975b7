-- One more to whom the place isn't refused.
use Rattle.std.proofs.Common.{◌≡◌, Some, arith}
use Rattle.sysmem_memory.specs.PlaceTable.{AllowsPlace, first_refusing}
use Rattle.conflict_finding.proofs.FirstOnes.{all_more, all_have}
use Rattle.conflict_finding.proofs.FirstWithout.{first_here}
use Rattle.conflict_finding.proofs.first_refusing.first_refused.Goals as goal

pub loop-node-preserved : goal.loop-node-preserved
loop-node-preserved c = record {
  asked = c.answer.ensures.asked;
  allowed = all_more c.args.those.now.tree.now.nodes c.args.those.now.nodes.now c.args.those.now.there c.loop-node.node-index c.node-item.result c.loop-node-test.true c.node-item.is _ c.constraints_of-constraints.ensures
      (λ p. AllowsPlace p.memory p.usage c.args.heap.now c.args.place.coherency) c.loop-node.invariant.allowed c.in_default.ensures.answer.allowed;
}

pub returns-clause-allowed : goal.returns-clause-allowed
returns-clause-allowed c = all_have c.args.those.now.tree.now.nodes c.args.those.now.nodes.now c.loop-node.node-index (λ p. AllowsPlace p.memory p.usage c.args.heap.now c.args.place.coherency)
    (omega (arith, c.loop-node-test.false)) c.loop-node.invariant.allowed

pub returns-in-Some-clause-first : goal.returns-in-Some-clause-first
returns-in-Some-clause-first c = first_here c.args.those.now.tree.now.nodes c.args.those.now.nodes.now c.args.those.now.there c.loop-node.node-index c.node-item.result c.loop-node-test.true c.node-item.is _ c.constraints_of-constraints.ensures
    (λ p. AllowsPlace p.memory p.usage c.args.heap.now c.args.place.coherency) (λ p. first_refusing p.memory p.usage c.args.heap.now c.args.place.coherency ≡ Some c.in-Some.field)
    c.loop-node.invariant.allowed c.in-Some.ensures.answer.first
