use Rattle.std.proofs.Common.{◌≡◌, ◌≤◌}
use Rattle.std.specs.Vec.{vec_capacity, vec_len}
use Rattle.script_threads.proofs.stage.Stage.new.Given as goal

-- there is room for those that are yet to be made
abbrev pub invariant-loop-made : goal.invariant-loop-made
invariant-loop-made g l = (vec_len l.places ≡ l._made) × (l.count ≤ vec_capacity l.places)
