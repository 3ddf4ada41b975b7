use Rattle.std.proofs.Common.{length}
use Rattle.workbench.proofs.handles.ending.end.Given as goal

-- each turn ends one
abbrev pub decreases-loop-hand : goal.decreases-loop-hand
decreases-loop-hand g l = length l.hands.items
