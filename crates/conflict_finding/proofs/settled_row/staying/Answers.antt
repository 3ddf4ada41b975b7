-- One more who is among the nodes, or the same ones.
use Rattle.std.proofs.Common.{◌∙◌, sym, ap, subst}
use Rattle.std.specs.Prelude.{All, Contains}
use Rattle.conflict_finding.proofs.FirstOnes.{contained_at}
use Rattle.conflict_finding.proofs.SameOnes.{one_pushed}
use Rattle.conflict_finding.proofs.settled_row.staying.Goals as goal
use Rattle.conflict_finding.proofs.settled_row.staying.Goals.{then-stands_at+in_ok-push, else-stands_at}

pub loop-node-preserved : goal.loop-node-preserved
loop-node-preserved c = elim c.if-stands_at.branch [
  | then-stands_at+in_ok-push w ↦
      one_pushed (Contains c.args.nodes.now) c.loop-node.stay.items _ c.node-item.result (ap (λ v. v.items) w.stay-is ∙ w.in_ok-push.ensures.items) c.loop-node.invariant
      (contained_at c.args.nodes.now _ c.node-item.result (c.stands_at.ensures.within w.if-stands_at.true) (c.stands_at.ensures.is w.if-stands_at.true))
  | else-stands_at w ↦ subst (λ v. All (Contains c.args.nodes.now) v.items) (sym w.stay-is) c.loop-node.invariant
]
