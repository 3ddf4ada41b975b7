-- Each turn so far has entered a decision to which memory was refused.
use Rattle.std.proofs.Common.{◌≡◌, ◌≤◌, ℕ, List, length}
use Rattle.sysmem_room.specs.Lacking.{without_memory}
use Rattle.sysmem_room.proofs.room.Room.next_frozen.Given as goal

abbrev pub invariant-loop : goal.invariant-loop
invariant-loop g l = (l.counter ≤ length l.self.history) × ((domains : List ℕ) × (l.self ≡ without_memory l.initial.self domains))
