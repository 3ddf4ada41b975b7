-- Two offers that the test calls equal are equal.
use Rattle.std.proofs.Common.{◌≡◌, ◌≢◌, true, false, Option, Some, None, refl, sym, ◌∙◌, ap, Decides}
use Rattle.std.specs.Option.{option_eq}
use Rattle.std.proofs.lemmas.Bool.Decides.{Decides-and, Decides-like}
use Rattle.std.proofs.lemmas.Option.{same_Some}
use Rattle.sysmem_formats.specs.contracts.offer.OfferPartialEq.TheImpl as offer
use Rattle.sysmem_formats.specs.declared.colour_space.ColourSpace.{ColourSpace}
use Rattle.sysmem_formats.specs.declared.offer.Offer.{Offer}
use Rattle.sysmem_formats.specs.declared.offer.Offer.TheVariants.{NoImage, Image}
use Rattle.sysmem_formats.specs.declared.offer.Pair.{Pair}
use Rattle.sysmem_sanitise.proofs.CallerLemmas.{same_pair, same_colour}

abbrev pair_of : Offer → Pair → Pair
pair_of NoImage p = p
pair_of (Image q d) p = q

abbrev colour_of : Offer → ColourSpace → ColourSpace
colour_of NoImage c = c
colour_of (Image q d) c = d

pub same_offer : (a b : Offer) → Decides (offer.ghosts.eq a b) (a ≡ b)
same_offer NoImage NoImage = (λ e. refl, λ e. refl)
same_offer NoImage (Image q d) = (λ e. absurd (cc), λ e. absurd (cc))
same_offer (Image p c) NoImage = (λ e. absurd (cc), λ e. absurd (cc))
same_offer (Image p c) (Image q d) = Decides-like (offer.ghosts.eq (Image p c) (Image q d))
    (λ both. ap (λ x. Image x c) both.0 ∙ ap (λ x. Image q x) both.1)
    (λ e. (ap (λ o. pair_of o p) e, ap (λ o. colour_of o c) e)) (Decides-and _ _ (same_pair p q) (same_colour c d))

pub is_until : (until : Option Offer) (o : Offer) → true ≡ option_eq offer.ghosts.eq until (Some o) → until ≡ Some o
is_until None o e = absurd (cc)
is_until (Some u) o e = ap (λ x. Some x) ((same_offer u o).0 (sym e))

pub is_before : (until : Option Offer) (o : Offer) → false ≡ option_eq offer.ghosts.eq until (Some o) → until ≢ Some o
is_before None o e same = absurd (cc)
is_before (Some u) o e same = (let yes' = (same_offer u o).1 (same_Some u o same) in absurd (cc))
