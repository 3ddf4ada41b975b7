-- One share more.
use Rattle.std.proofs.Common.{◌+◌, length}
use Rattle.sysmem_search.proofs.Sharing.{joined_more}
use Rattle.sysmem_search.proofs.wide.join_shares.Goals as goal

pub loop-share-preserved : goal.loop-share-preserved
loop-share-preserved c = λ m start. joined_more m start c.loop-share.yielded c.in-Some.share c.in_ok-share.field-0 c.loop-share.all.chosen c.then-all.result.chosen c.in_ok-share.was
    (c.loop-share.invariant m start) (c.then-all.ensures m (start 0) (start (length c.loop-share.yielded)) (start (length c.loop-share.yielded + 1)))
