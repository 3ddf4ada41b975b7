-- If what is left of both is the same, all is.
use Rattle.std.proofs.Common.{◌≡◌, drop}
use Rattle.verdict_claims.proofs.path_list.are_same.Given as goal

abbrev pub invariant-loop-path : goal.invariant-loop-path
invariant-loop-path l = drop l.path-index l.paths ≡ l.left → l.paths ≡ l.others
