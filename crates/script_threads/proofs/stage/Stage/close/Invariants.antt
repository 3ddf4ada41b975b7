use Rattle.std.specs.Vec.Iter.{into_iter_len}
use Rattle.script_threads.proofs.stage.Stage.close.Given as goal

-- the names whose handles are yet to be closed
abbrev pub decreases-loop-place : goal.decreases-loop-place
decreases-loop-place g l = into_iter_len l.places
