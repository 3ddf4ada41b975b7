-- One more of the others.
use Rattle.std.proofs.Common.{◌∙◌}
use Rattle.verdict_claims.proofs.PathLists.{one_behind}
use Rattle.verdict_claims.proofs.path_list.PathList.share_all.Goals as goal

pub loop-path-preserved : goal.loop-path-preserved
loop-path-preserved c = c.in_ok-share.ensures ∙ one_behind c.args.self.now c.args.paths.now c.loop-path.self c.loop-path.path-index c.path-item.result c.loop-path-test.true c.path-item.is c.loop-path.invariant
