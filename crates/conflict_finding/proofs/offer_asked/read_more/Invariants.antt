-- What the first ask was read, and is kept of each front of them.
use Rattle.std.proofs.Common.{◌≡◌, ◌≤◌, length, take}
use Rattle.offer_fits.specs.Demands.{offer_demands}
use Rattle.sysmem_merge.specs.OfferRead.{IsOfferRead}
use Rattle.verdict_claims.specs.Members.{members_at, participants}
use Rattle.conflict_finding.specs.OfferAsked.{AreFrontReads}
use Rattle.conflict_finding.proofs.offer_asked.read_more.Given as goal

abbrev pub invariant-loop-index : goal.invariant-loop-index
invariant-loop-index l = record {
  many : length l.reads.items ≡ l.index;
  few : l.index ≤ length l.row;
  reads : AreFrontReads l.tree.nodes l.row l.offer l.reads.items;
  read : IsOfferRead l.offer (offer_demands (participants (members_at l.tree.nodes (take l.index l.row)))) l.read;
}
