-- The paths, with those of the other list that are left, are all.
use Rattle.std.proofs.Common.{◌≡◌, ◌++◌}
use Rattle.verdict_claims.proofs.path_list.PathList.put_each.Given as goal

abbrev pub invariant-loop-path : goal.invariant-loop-path
invariant-loop-path l = l.self ++ l.path-iterator ≡ l.fn.self ++ l.other
