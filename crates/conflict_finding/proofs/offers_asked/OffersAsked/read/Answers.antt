-- As its offer says.
use Rattle.std.proofs.Common.{refl, sym, ◌∙◌, subst}
use Rattle.std.specs.Prelude.{All}
use Rattle.std.proofs.lemmas.List.Elements.{All-set}
use Rattle.std.proofs.lemmas.Option.{slice_get_read}
use Rattle.offer_fits.specs.Demands.{offer_demands}
use Rattle.sysmem_merge.specs.OfferRead.{IsOfferRead}
use Rattle.sysmem_tree.specs.Nodes.{HasNode}
use Rattle.verdict_claims.specs.Members.{members_at, participants}
use Rattle.conflict_finding.specs.OfferAsked.{IsOfferAsked}
use Rattle.conflict_finding.proofs.AskedOffers.{read_it}
use Rattle.conflict_finding.proofs.SameOnes.{have_at}
use Rattle.conflict_finding.proofs.offers_asked.OffersAsked.read.Goals as goal

pub returns-in_err-reserve-clause-asked : goal.returns-in_err-reserve-clause-asked
returns-in_err-reserve-clause-asked c = c.reserve.ensures.asked c.args.tree.now.nodes c.args.nodes.now c.requires.asked

pub returns-then-not-branch-clause-asked : goal.returns-then-not-branch-clause-asked
returns-then-not-branch-clause-asked c = c.reserve.ensures.asked c.args.tree.now.nodes c.args.nodes.now c.requires.asked

pub all_take-requires-clause-there : goal.all_take-requires-clause-there
all_take-requires-clause-there c = subst (All (HasNode c.args.tree.now.nodes)) (sym c.deref.ensures.value) (c.reserve.ensures.asked c.args.tree.now.nodes c.args.nodes.now c.requires.asked).known.there

pub read-requires-clause-there : goal.read-requires-clause-there
read-requires-clause-there c = subst (All (HasNode c.args.tree.now.nodes)) (sym c.deref-2.ensures.value) (c.reserve.ensures.asked c.args.tree.now.nodes c.args.nodes.now c.requires.asked).known.there

pub all_take-requires-clause-asked : goal.all_take-requires-clause-asked
all_take-requires-clause-asked c =
    let was = c.reserve.ensures.asked c.args.tree.now.nodes c.args.nodes.now c.requires.asked in
    subst (λ row. IsOfferAsked c.args.tree.now.nodes row c.index_mut-one.result.now) (sym c.deref.ensures.value)
    (have_at (IsOfferAsked c.args.tree.now.nodes c.reserve.new.self.row.items) c.reserve.new.self.offers.items c.args.number c.index_mut-one.result.now was.known.each
    (slice_get_read c.reserve.new.self.offers.items _ c.args.number c.index_mut-one.result.now refl (c.in_ok-reserve.ensures.there c.if-not-branch.false) c.index_mut-one.ensures.value))

pub returns-then-not-all_take-clause-asked : goal.returns-then-not-all_take-clause-asked
returns-then-not-all_take-clause-asked c =
    let was = c.reserve.ensures.asked c.args.tree.now.nodes c.args.nodes.now c.requires.asked in
    record {
      known = record {
        there = was.known.there;
        each = All-set (IsOfferAsked c.args.tree.now.nodes c.reserve.new.self.row.items) c.reserve.new.self.offers.items c.args.number _
            (subst (λ row. IsOfferAsked c.args.tree.now.nodes row c.all_take.new.self) c.deref.ensures.value c.all_take.ensures.asked) was.known.each;
      };
      askers = was.askers;
      some = was.some;
      row = was.row;
    }

pub returns-in_err-read-clause-asked : goal.returns-in_err-read-clause-asked
returns-in_err-read-clause-asked c =
    let was = c.reserve.ensures.asked c.args.tree.now.nodes c.args.nodes.now c.requires.asked in
    record {
      known = record {
        there = was.known.there;
        each = All-set (IsOfferAsked c.args.tree.now.nodes c.reserve.new.self.row.items) c.reserve.new.self.offers.items c.args.number _
            (subst (λ row. IsOfferAsked c.args.tree.now.nodes row c.read.new.self) c.deref-2.ensures.value c.read.ensures.asked) was.known.each;
      };
      askers = was.askers;
      some = was.some;
      row = was.row;
    }

pub returns-clause-asked : goal.returns-clause-asked
returns-clause-asked c =
    let was = c.reserve.ensures.asked c.args.tree.now.nodes c.args.nodes.now c.requires.asked in
    record {
      known = record {
        there = was.known.there;
        each = All-set (IsOfferAsked c.args.tree.now.nodes c.reserve.new.self.row.items) c.reserve.new.self.offers.items c.args.number _
            (subst (λ row. IsOfferAsked c.args.tree.now.nodes row c.read.new.self) c.deref-2.ensures.value c.read.ensures.asked) was.known.each;
      };
      askers = was.askers;
      some = was.some;
      row = was.row;
    }

pub returns-clause-read : goal.returns-clause-read
returns-clause-read c =
    let was = c.reserve.ensures.asked c.args.tree.now.nodes c.args.nodes.now c.requires.asked in
    let at = slice_get_read c.reserve.new.self.offers.items _ c.args.number c.index_mut-one.result.now refl (c.in_ok-reserve.ensures.there c.if-not-branch.false) c.index_mut-one.ensures.value in
    read_it c.args.tree.now.nodes c.args.nodes.now c.reserve.new.self was c.args.offer.now c.in_ok-read.read
    (subst (λ row. IsOfferRead c.args.offer.now (offer_demands (participants (members_at c.args.tree.now.nodes row))) c.in_ok-read.read) c.deref-2.ensures.value
    (subst (λ o. IsOfferRead o (offer_demands (participants (members_at c.args.tree.now.nodes c.deref-2.result.now))) c.in_ok-read.read)
    (c.all_take.ensures.offer ∙ c.in_ok-reserve.ensures.of c.if-not-branch.false c.index_mut-one.result.now at) c.in_ok-read.ensures.read))
