use Rattle.sysmem_merge.proofs.Joining.{refused_first, refused_second}
use Rattle.sysmem_merge.proofs.kept.KeptBounds.join_of.Goals as goal

pub returns-in-Refused : goal.returns-in-Refused
returns-in-Refused c o ds es left right = rw c.become_refused.ensures (refused_first c.in-Refused.field o ds es (rw c.in-Refused.is at left))

pub returns-in-Refused-more : goal.returns-in-Refused-more
returns-in-Refused-more c o ds es left right = rw c.become_refused-in-Refused-more.ensures (refused_second c.in-Refused-more.field o ds es (rw c.in-Refused-more.is at right))
