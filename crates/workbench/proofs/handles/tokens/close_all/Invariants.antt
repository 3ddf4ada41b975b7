use Rattle.std.proofs.Common.{length}
use Rattle.workbench.proofs.handles.tokens.close_all.Given as goal

-- each turn closes one
abbrev pub decreases-loop-token : goal.decreases-loop-token
decreases-loop-token g l = length l.tokens.items
