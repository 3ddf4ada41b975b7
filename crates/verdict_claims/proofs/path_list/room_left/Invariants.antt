-- So much room is left beside the numbers of the paths so far.
use Rattle.std.proofs.Common.{◌≡◌, ◌+◌, length, take}
use Rattle.verdict_claims.specs.PathList.{numbers_of}
use Rattle.verdict_claims.proofs.path_list.room_left.Given as goal

abbrev pub invariant-loop-path : goal.invariant-loop-path
invariant-loop-path l = length (numbers_of (take l.path-index l.paths)) + l.left ≡ l.room
