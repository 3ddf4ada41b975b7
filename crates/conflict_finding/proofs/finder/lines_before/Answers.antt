-- The lines end at the offer and the place of the settings.
use Rattle.std.proofs.Common.{◌≡◌, true, None, [], sym, ◌∙◌, subst}
use Rattle.sysmem_memory.specs.Listed.{places_of}
use Rattle.negotiation_inputs.specs.Platform.{offers_of}
use Rattle.std.proofs.lemmas.Option.{same_Some}
use Rattle.sysmem_tree.specs.Forest.{settled}
use Rattle.verdict_claims.specs.Base.{IsElsewhere}
use Rattle.verdict_claims.specs.Conflict.{RefusesOffer, RefusesPlace}
use Rattle.verdict_claims.specs.FirstConflict.{IsOfferLineGiven, IsPlaceLineGiven}
use Rattle.verdict_claims.specs.Verdict.{IsBestFor}
use Rattle.conflict_finding.proofs.BeforeBest.{before_initial, best_initial, offers_before, places_before}
use Rattle.verdict_claims.proofs.Conflicts.{LineLaws}
use Rattle.conflict_finding.proofs.FirstKinds.{refusals_weaker}
use Rattle.conflict_finding.proofs.FoundNodes.{found_at, no_nodes}
use Rattle.verdict_claims.proofs.SettledNodes.{no_pairs}
use Rattle.conflict_finding.proofs.finder.lines_before.Goals as goal

pub invariant_of-those : goal.invariant_of-those
invariant_of-those c = record {
  there = (found_at c.args.tree.now.nodes c.requires.best.members [] c.in_ok-nodes.nodes.items c.deref.result.now c.deref.ensures.value
      (c.in_ok-nodes.ensures c.requires.best.members [] c.requires.best.selects.leads (no_nodes (IsElsewhere c.args.tree.now.nodes c.args.domain)) no_pairs)).there;
}

pub refused_offers-requires : goal.refused_offers-requires
refused_offers-requires c = record { learnt = c.new-learnt.ensures c.args.tree.now.nodes c.args.platform.now.heaps }

pub returns : goal.returns
returns c = λ members selects earlier.
    let laws : LineLaws = record { offer = c.offer_line_leaves_none.ensures; place = c.place_line_leaves_none.ensures; count = c.count_line_leaves_none.ensures; unnamed = c.unnamed_line_leaves_none.ensures } in
    let none = sym c.is_some.ensures ∙ c.if-is_some.false in
    let same : c.requires.best.members ≡ members = same_Some c.requires.best.members members (sym c.requires.best.selects.leads ∙ selects.leads) in
    let best = subst (λ e. IsBestFor c.args.platform.now None (settled e) c.args.settings.now) same
    (best_initial _ c.args.base c.args.platform.now c.args.tree.now.nodes (settled c.requires.best.members) c.args.settings.now none c.requires.best.best) in
    let one = found_at c.args.tree.now.nodes members [] c.in_ok-nodes.nodes.items c.deref.result.now c.deref.ensures.value
    (c.in_ok-nodes.ensures members [] selects.leads (no_nodes (IsElsewhere c.args.tree.now.nodes c.args.domain)) no_pairs) in
    before_initial _ c.args.base c.args.platform.now c.args.tree.now.nodes (settled members) c.args.settings.now (record { earlier = earlier; offers = c.into_lines.result; places = c.into_lines-2.result }) none (record {
      offers = offers_before laws c.args.platform.now (settled members) c.args.settings.now best c.in_ok-offers.offers c.into_lines.result c.into_lines.ensures (refusals_weaker (IsOfferLineGiven true (settled members)) (RefusesOffer true (settled members)) (λ o line given. given.refuses) _ (offers_of c.args.platform.now) _ (c.in_ok-offers.ensures.lines (settled members) one.stand));
      places = places_before laws c.args.platform.now (settled members) c.args.settings.now best c.in_ok-places.places c.into_lines-2.result c.into_lines-2.ensures (refusals_weaker (IsPlaceLineGiven (settled members)) (RefusesPlace (settled members)) (λ p line given. given.refuses) _ (places_of c.args.platform.now.heaps) _ (c.in_ok-places.ensures.lines (settled members) one.stand));
    })
