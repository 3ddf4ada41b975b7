-- Names that stand for nodes go on doing so.
use Rattle.std.proofs.Common.{ℕ, ◌<◌, ◌≤◌, List, Option, length, arith}
use Rattle.sysmem_tree.specs.Node.{NodeFacts}
use Rattle.script_replay.specs.State.{AreThere}

-- names that stand for nodes still do where there are as many or more
pub still_there : (old new : List NodeFacts) (names : List (Option ℕ)) → length old ≤ length new → AreThere old names → AreThere new names
still_there old new names grows all place k here = let own : k < length old = all place k here in omega (arith, grows, own)
