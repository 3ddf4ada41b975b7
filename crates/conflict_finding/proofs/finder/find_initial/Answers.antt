-- A count line of all, or settings of the count, the first place and
-- the first offer that are shared.
use Rattle.std.proofs.Common.{None, sym, refl, subst}
use Rattle.std.specs.Prelude.{is_none}
use Rattle.sysmem_merge.specs.declared.reason.Reason.TheVariants as reasons
use Rattle.offer_fits.specs.Demands.{counts_asked}
use Rattle.sysmem_merge.specs.Reasons.{IsFirstReason}
use Rattle.sysmem_memory.specs.Listed.{HeapPlace, places_of}
use Rattle.sysmem_formats.specs.declared.offer.Offer.{Offer}
use Rattle.negotiation_inputs.specs.Platform.{offers_of}
use Rattle.sysmem_tree.specs.Forest.{choices, settled}
use Rattle.verdict_claims.specs.FirstConflict.{IsOfferLineGiven, IsPlaceLineGiven}
use Rattle.verdict_claims.specs.Line.{LineFacts}
use Rattle.verdict_claims.specs.Members.{participants}
use Rattle.conflict_finding.specs.Refusals.{AreRefusals, Ends, ShareOffer, SharePlace}
use Rattle.sysmem_merge.proofs.CallerLemmas.{first_count}
use Rattle.conflict_finding.proofs.FirstKinds.{offers_conflict, offers_found, places_found, places_refuse}
use Rattle.conflict_finding.proofs.FoundConflicts.{count_found, initial_met, tally_of_all}
use Rattle.conflict_finding.proofs.finder.find_initial.Goals as goal

pub returns-in-Err-clause-conflict : goal.returns-in-Err-clause-conflict
returns-in-Err-clause-conflict c = λ d stand whole.
    count_found c.args.tree.now.nodes c.args.nodes.now c.args.nodes.now c.args.nodes.now refl refl (settled d) stand c.counts_at.result c.counts_at.ensures c.in-Err.field (λ ps tally. c.in-Err.ensures.line ps tally)
    c.in_ok-line.line c.in_ok-line.ensures.line

pub returns-in-Err-clause-first : goal.returns-in-Err-clause-first
returns-in-Err-clause-first c = λ d stand whole.
    let tally = tally_of_all c.args.tree.now.nodes c.args.nodes.now c.args.nodes.now c.args.nodes.now refl refl (settled d) stand c.counts_at.result c.counts_at.ensures in
    subst (λ (line : LineFacts). IsFirstReason (is_none (choices d)) c.args.platform.now (participants (settled d)) (reasons.Count line.field)) (sym c.in_ok-line.ensures.line)
    (first_count (is_none (choices d)) c.args.platform.now (participants (settled d)) c.in-Err.field (c.in-Err.ensures.cases (counts_asked (participants (settled d))) tally))

pub returns-in-Whole-clause-conflict : goal.returns-in-Whole-clause-conflict
returns-in-Whole-clause-conflict c = λ d stand whole. places_refuse (settled d) (places_of c.args.platform.now.heaps) c.in-Whole.lines
    (subst (AreRefusals (IsPlaceLineGiven (settled d)) (Ends None (λ (p : HeapPlace). p.place) (SharePlace (settled d))) (places_of c.args.platform.now.heaps)) c.in-Whole.is (c.in_ok-places.ensures.lines (settled d) stand))

pub returns-in-Whole-clause-first : goal.returns-in-Whole-clause-first
returns-in-Whole-clause-first c = λ d stand whole.
    let tally = tally_of_all c.args.tree.now.nodes c.args.nodes.now c.args.nodes.now c.args.nodes.now refl refl (settled d) stand c.counts_at.result c.counts_at.ensures in
    places_found c.args.platform.now d c.in_default.field-0 (c.in_default.ensures.cases (counts_asked (participants (settled d))) tally).counted c.in-Whole.lines
    (subst (AreRefusals (IsPlaceLineGiven (settled d)) (Ends None (λ (p : HeapPlace). p.place) (SharePlace (settled d))) (places_of c.args.platform.now.heaps)) c.in-Whole.is (c.in_ok-places.ensures.lines (settled d) stand))

pub returns-in-Whole-2-clause-conflict : goal.returns-in-Whole-2-clause-conflict
returns-in-Whole-2-clause-conflict c = λ d stand whole. offers_conflict c.args.platform.now d c.args.whole c.in-Whole-2.lines whole
    (subst (AreRefusals (IsOfferLineGiven c.args.whole (settled d)) (Ends None (λ (o : Offer). o) (ShareOffer c.args.whole (settled d))) (offers_of c.args.platform.now)) c.in-Whole-2.is (c.in_ok-lines.ensures.lines (settled d) stand))

pub returns-in-Whole-2-clause-first : goal.returns-in-Whole-2-clause-first
returns-in-Whole-2-clause-first c = λ d stand whole.
    let tally = tally_of_all c.args.tree.now.nodes c.args.nodes.now c.args.nodes.now c.args.nodes.now refl refl (settled d) stand c.counts_at.result c.counts_at.ensures in
    offers_found c.args.platform.now d c.in_default.field-0 (c.in_default.ensures.cases (counts_asked (participants (settled d))) tally).counted c.args.whole c.in_default-places.field-0 c.in-Whole-2.lines whole
    (subst (AreRefusals (IsPlaceLineGiven (settled d)) (Ends None (λ (p : HeapPlace). p.place) (SharePlace (settled d))) (places_of c.args.platform.now.heaps)) c.in_default-places.is (c.in_ok-places.ensures.lines (settled d) stand))
    (subst (AreRefusals (IsOfferLineGiven c.args.whole (settled d)) (Ends None (λ (o : Offer). o) (ShareOffer c.args.whole (settled d))) (offers_of c.args.platform.now)) c.in-Whole-2.is (c.in_ok-lines.ensures.lines (settled d) stand))

pub returns-clause-none : goal.returns-clause-none
returns-clause-none c = λ d stand whole.
    let tally = tally_of_all c.args.tree.now.nodes c.args.nodes.now c.args.nodes.now c.args.nodes.now refl refl (settled d) stand c.counts_at.result c.counts_at.ensures in
    initial_met c.args.platform.now d c.args.whole (IsPlaceLineGiven (settled d)) (IsOfferLineGiven c.args.whole (settled d)) c.in_default-places.field-0 c.in-UpTo.field-0 c.in_default.field-0 whole
    (c.in_default.ensures.cases (counts_asked (participants (settled d))) tally).counted
    (subst (AreRefusals (IsPlaceLineGiven (settled d)) (Ends None (λ (p : HeapPlace). p.place) (SharePlace (settled d))) (places_of c.args.platform.now.heaps)) c.in_default-places.is (c.in_ok-places.ensures.lines (settled d) stand))
    (subst (AreRefusals (IsOfferLineGiven c.args.whole (settled d)) (Ends None (λ (o : Offer). o) (ShareOffer c.args.whole (settled d))) (offers_of c.args.platform.now)) c.in-UpTo.is (c.in_ok-lines.ensures.lines (settled d) stand))
