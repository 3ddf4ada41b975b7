use Rattle.script_threads.proofs.Lines.{both_by_one, both_by_other, line_more}
use Rattle.script_threads.proofs.domains.lines_of.Goals as goal
use Rattle.script_threads.proofs.domains.lines_of.Goals.{then-is_starved, else-is_starved}

pub loop-root-preserved : goal.loop-root-preserved
loop-root-preserved c = elim c.if-is_starved.branch [
  | then-is_starved w ↦
      line_more c.loop-root.is_starved c.in_ok-says.says _ _ _ _ c.loop-root.invariant c.in_ok-says.ensures (both_by_one _ _ _ w.if-is_starved.true w.is_starved-is)
  | else-is_starved w ↦
      line_more c.loop-root.is_starved c.in_ok-says.says _ _ _ _ c.loop-root.invariant c.in_ok-says.ensures (both_by_other _ _ _ w.if-is_starved.false w.is_starved-is)
]
