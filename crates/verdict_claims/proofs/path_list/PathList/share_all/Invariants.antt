-- The first of the others stand behind the paths.
use Rattle.std.proofs.Common.{◌≡◌, ◌++◌, take}
use Rattle.verdict_claims.proofs.path_list.PathList.share_all.Given as goal

abbrev pub invariant-loop-path : goal.invariant-loop-path
invariant-loop-path l = l.self ≡ l.fn.self ++ take l.path-index l.paths
