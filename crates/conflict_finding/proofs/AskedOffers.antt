-- What those in a row say of an offer is said by all of whom they are those who ask something.
use Rattle.std.proofs.Common.{List, ℕ, subst}
use Rattle.std.specs.Prelude.{All}
use Rattle.sysmem_formats.specs.declared.offer.Offer.{Offer}
use Rattle.sysmem_merge.specs.declared.offer_read.OfferRead.{OfferRead}
use Rattle.offer_fits.specs.Demands.{offer_demands}
use Rattle.sysmem_merge.specs.OfferRead.{IsOfferRead}
use Rattle.sysmem_tree.specs.Node.{NodeFacts}
use Rattle.verdict_claims.specs.Members.{members_at, participants}
use Rattle.conflict_finding.specs.declared.offers_asked.OffersAsked.{OffersAsked}
use Rattle.conflict_finding.specs.OfferAsked.{TakesOffer}
use Rattle.conflict_finding.specs.OffersAsked.{AreAskedOf}
use Rattle.conflict_finding.proofs.SameOnes.{have_of_row, read_of_row}
use Rattle.conflict_finding.proofs.ThoseAsking.{all_take, has_colour_too, has_format_too, read_of_all}

module _ (nodes : List NodeFacts) (ns : List ℕ) (asked : OffersAsked) (are : AreAskedOf nodes ns asked) (o : Offer) where
  pub take_it : All (TakesOffer o) (participants (members_at nodes asked.row.items)) → All (TakesOffer o) (participants (members_at nodes ns))
  take_it has = all_take (TakesOffer o) (λ p no'. record { format = has_format_too o p no'; colour = has_colour_too o p no' }) (participants (members_at nodes ns))
      (subst (All (TakesOffer o)) are.some.asks (have_of_row nodes asked.row.items are.askers are.row (TakesOffer o) has))

  pub read_it : (read : OfferRead) → IsOfferRead o (offer_demands (participants (members_at nodes asked.row.items))) read → IsOfferRead o (offer_demands (participants (members_at nodes ns))) read
  read_it read is = read_of_all o (participants (members_at nodes ns)) read
      (subst (λ ps. IsOfferRead o (offer_demands ps) read) are.some.asks (read_of_row nodes asked.row.items are.askers are.row o read is))
