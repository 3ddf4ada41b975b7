-- The offer is there, is added, or takes the place of another.
use Rattle.std.proofs.Common.{refl, sym, ◌∙◌, ap, arith}
use Rattle.std.proofs.lemmas.List.Elements.{All-set}
use Rattle.std.proofs.lemmas.Option.{same_Some, slice_get_read, slice_get_within}
use Rattle.list_lemmas.proofs.CallerLemmas.{slice_get-set_same}
use Rattle.conflict_finding.specs.declared.offer_asked.OfferAsked.{OfferAsked}
use Rattle.conflict_finding.specs.OfferAsked.{IsOfferAsked}
use Rattle.conflict_finding.proofs.offers_asked.OffersAsked.reserve.Goals as goal

pub returns-in_err-fill-clause-asked : goal.returns-in_err-fill-clause-asked
returns-in_err-fill-clause-asked c = λ nodes ns was. record {
  known = record { there = was.known.there; each = c.fill.ensures nodes c.args.self.now.row.items was.known.each };
  askers = was.askers;
  some = was.some;
  row = was.row;
}

pub returns-then-number-len-clause-asked : goal.returns-then-number-len-clause-asked
returns-then-number-len-clause-asked c = λ nodes ns was. record {
  known = record { there = was.known.there; each = c.fill.ensures nodes c.args.self.now.row.items was.known.each };
  askers = was.askers;
  some = was.some;
  row = was.row;
}

pub returns-then-is_of-clause-asked : goal.returns-then-is_of-clause-asked
returns-then-is_of-clause-asked c = λ nodes ns was. record {
  known = record { there = was.known.there; each = c.fill.ensures nodes c.args.self.now.row.items was.known.each };
  askers = was.askers;
  some = was.some;
  row = was.row;
}

pub returns-then-is_of-clause-of : goal.returns-then-is_of-clause-of
returns-then-is_of-clause-of c = λ _ one at.
    sym (ap (λ (a : OfferAsked). a.offer) (same_Some c.index.result.now one (sym (slice_get_read c.fill.new.offers.items _ c.args.number c.index.result.now refl (slice_get_within c.fill.new.offers.items c.args.number one at) c.index.ensures) ∙ at)))
    ∙ c.is_of.ensures c.if-is_of.true

pub returns-clause-asked : goal.returns-clause-asked
returns-clause-asked c = λ nodes ns was. record {
  known = record {
    there = was.known.there;
    each = All-set (IsOfferAsked nodes c.args.self.now.row.items) c.fill.new.offers.items c.args.number _ (c.new.ensures.asked nodes c.args.self.now.row.items) (c.fill.ensures nodes c.args.self.now.row.items was.known.each);
  };
  askers = was.askers;
  some = was.some;
  row = was.row;
}

pub returns-clause-of : goal.returns-clause-of
returns-clause-of c = λ _ one at.
    sym (ap (λ (a : OfferAsked). a.offer) (slice_get-set_same c.fill.new.offers.items c.args.number _ one (omega (arith, c.if-number-len.false, c.len.ensures, c.fill.new.offers.ok)) at)) ∙ c.new.ensures.offer
