-- What those so far ask was read.
use Rattle.std.proofs.Common.{take}
use Rattle.offer_fits.specs.Demands.{offer_demands}
use Rattle.sysmem_merge.specs.OfferRead.{IsOfferRead}
use Rattle.verdict_claims.specs.Members.{members_at, participants}
use Rattle.conflict_finding.proofs.first_refusing.read_all.Given as goal

abbrev pub invariant-loop-node : goal.invariant-loop-node
invariant-loop-node l = IsOfferRead l.offer (offer_demands (participants (members_at l.tree.nodes (take l.node-index l.nodes)))) l.read
