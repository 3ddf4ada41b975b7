use Rattle.std.proofs.Common.{◌-◌, length}
use Rattle.sysmem_formats.specs.Offers.{offers}
use Rattle.sysmem_merge.proofs.Many.{AreNew}
use Rattle.sysmem_merge.proofs.offers.kept_offers.Given as goal

-- each offer so far is kept
abbrev pub invariant-loop-offer : goal.invariant-loop-offer
invariant-loop-offer l = AreNew l.index (offers l.platform.pairs l.platform.colours) l.kept.items

abbrev pub decreases-loop-offer : goal.decreases-loop-offer
decreases-loop-offer l = length (offers l.platform.pairs l.platform.colours) - l.index
