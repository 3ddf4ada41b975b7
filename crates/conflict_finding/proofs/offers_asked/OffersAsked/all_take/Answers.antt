-- As its offer says.
use Rattle.std.proofs.Common.{refl, sym, subst}
use Rattle.std.specs.Prelude.{All}
use Rattle.std.proofs.lemmas.List.Elements.{All-set}
use Rattle.std.proofs.lemmas.Option.{slice_get_read}
use Rattle.sysmem_tree.specs.Nodes.{HasNode}
use Rattle.verdict_claims.specs.Members.{members_at, participants}
use Rattle.conflict_finding.specs.OfferAsked.{IsOfferAsked, TakesOffer}
use Rattle.conflict_finding.proofs.AskedOffers.{take_it}
use Rattle.conflict_finding.proofs.SameOnes.{have_at}
use Rattle.conflict_finding.proofs.offers_asked.OffersAsked.all_take.Goals as goal

pub returns-in_err-reserve-clause-asked : goal.returns-in_err-reserve-clause-asked
returns-in_err-reserve-clause-asked c = c.reserve.ensures.asked c.args.tree.now.nodes c.args.nodes.now c.requires.asked

pub returns-then-not-branch-clause-asked : goal.returns-then-not-branch-clause-asked
returns-then-not-branch-clause-asked c = c.reserve.ensures.asked c.args.tree.now.nodes c.args.nodes.now c.requires.asked

pub all_take-requires-clause-there : goal.all_take-requires-clause-there
all_take-requires-clause-there c = subst (All (HasNode c.args.tree.now.nodes)) (sym c.deref.ensures.value) (c.reserve.ensures.asked c.args.tree.now.nodes c.args.nodes.now c.requires.asked).known.there

pub all_take-requires-clause-asked : goal.all_take-requires-clause-asked
all_take-requires-clause-asked c =
    let was = c.reserve.ensures.asked c.args.tree.now.nodes c.args.nodes.now c.requires.asked in
    subst (λ row. IsOfferAsked c.args.tree.now.nodes row c.index_mut.result.now) (sym c.deref.ensures.value)
    (have_at (IsOfferAsked c.args.tree.now.nodes c.reserve.new.self.row.items) c.reserve.new.self.offers.items c.args.number c.index_mut.result.now was.known.each
    (slice_get_read c.reserve.new.self.offers.items _ c.args.number c.index_mut.result.now refl (c.in_ok-reserve.ensures.there c.if-not-branch.false) c.index_mut.ensures.value))

pub returns-clause-asked : goal.returns-clause-asked
returns-clause-asked c =
    let was = c.reserve.ensures.asked c.args.tree.now.nodes c.args.nodes.now c.requires.asked in
    record {
      known = record {
        there = was.known.there;
        each = All-set (IsOfferAsked c.args.tree.now.nodes c.reserve.new.self.row.items) c.reserve.new.self.offers.items c.args.number _
            (subst (λ row. IsOfferAsked c.args.tree.now.nodes row c.all_take.new.self) c.deref.ensures.value c.all_take.ensures.asked) was.known.each;
      };
      askers = was.askers;
      some = was.some;
      row = was.row;
    }

pub returns-clause-take : goal.returns-clause-take
returns-clause-take c = λ yes'.
    let was = c.reserve.ensures.asked c.args.tree.now.nodes c.args.nodes.now c.requires.asked in
    let at = slice_get_read c.reserve.new.self.offers.items _ c.args.number c.index_mut.result.now refl (c.in_ok-reserve.ensures.there c.if-not-branch.false) c.index_mut.ensures.value in
    take_it c.args.tree.now.nodes c.args.nodes.now c.reserve.new.self was c.args.offer.now
    (subst (λ row. All (TakesOffer c.args.offer.now) (participants (members_at c.args.tree.now.nodes row))) c.deref.ensures.value
    (subst (λ o. All (TakesOffer o) (participants (members_at c.args.tree.now.nodes c.deref.result.now))) (c.in_ok-reserve.ensures.of c.if-not-branch.false c.index_mut.result.now at) (c.all_take.ensures.take yes')))
