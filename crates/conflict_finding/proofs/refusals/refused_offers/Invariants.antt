-- A line for each offer so far; as many as there are lines. The last refuses the offer before.
use Rattle.std.proofs.Common.{List, ◌-◌, drop, length}
use Rattle.negotiation_inputs.specs.Platform.{offers_of}
use Rattle.sysmem_tree.specs.Shape.{Member}
use Rattle.conflict_finding.specs.Learnt.{IsLearnt}
use Rattle.verdict_claims.specs.FirstConflict.{IsOfferLineGiven}
use Rattle.std.specs.Prelude.{IfSome}
use Rattle.verdict_claims.specs.Members.{members_at, StandFor}
use Rattle.conflict_finding.specs.OffersAsked.{AreAskedOf}
use Rattle.conflict_finding.specs.Refusals.{AreSoFar, RefusesLast}
use Rattle.conflict_finding.specs.Whom.{NamesThose}
use Rattle.conflict_finding.proofs.refusals.refused_offers.Given as goal

abbrev pub invariant-loop-offer : goal.invariant-loop-offer
invariant-loop-offer l = record {
  so_far : (ms : List Member) → StandFor (members_at l.those.tree.now.nodes l.those.nodes.now) ms
      → AreSoFar (IsOfferLineGiven l.those.whole ms) (offers_of l.those.platform.now) l.lines (drop (length l.lines) (offers_of l.those.platform.now));
  learnt : IsLearnt l.those.tree.now.nodes l.those.platform.now.heaps l.learnt;
  named : IfSome l.kept (NamesThose l.those.tree.now.nodes l.those.nodes.now l.lines);
  asked : AreAskedOf l.those.tree.now.nodes l.those.nodes.now l.learnt.offers;
  last : (ms : List Member) → StandFor (members_at l.those.tree.now.nodes l.those.nodes.now) ms → RefusesLast (IsOfferLineGiven l.those.whole ms) l.earlier l.lines;
}

abbrev pub decreases-loop-offer : goal.decreases-loop-offer
decreases-loop-offer l = length (offers_of l.those.platform.now) - length l.lines
