-- The choices are choices for the numbers of the nodes too.
use Rattle.verdict_claims.proofs.Marked.{both_marked}
use Rattle.verdict_claims.proofs.Rolls.{prefix_numbers}
use Rattle.sysmem_proof.proofs.roll.Roll.new.Goals as goal

pub settled_marks-marks-requires-clause-prefix : goal.settled_marks-marks-requires-clause-prefix
settled_marks-marks-requires-clause-prefix c =
    (_, c.requires.lays, prefix_numbers c.args.tree.now.nodes c.args.domain c.args.prefix.now (c.choices_leave_one_forest.ensures c.args.tree.now.nodes c.args.domain c.args.prefix.now) c.requires.prefix)

pub settled_marks-marks-requires-clause-nodes : goal.settled_marks-marks-requires-clause-nodes
settled_marks-marks-requires-clause-nodes c = (c.args.tree.now.nodes, c.recall_sound.ensures.tree, c.requires.nodes)

pub invariant_of-result : goal.invariant_of-result
invariant_of-result c = (
  c.requires.domain,
  c.recall_sound.ensures,
  c.requires.there,
  both_marked _ _ c.args.accepted.now _ c.mark_all.ensures
      (c.settled_marks-marks.ensures c.args.tree.now.nodes c.args.domain c.requires.lays
      (prefix_numbers c.args.tree.now.nodes c.args.domain c.args.prefix.now (c.choices_leave_one_forest.ensures c.args.tree.now.nodes c.args.domain c.args.prefix.now) c.requires.prefix)),
)
