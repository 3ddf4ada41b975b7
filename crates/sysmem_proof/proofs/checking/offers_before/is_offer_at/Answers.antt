-- The offer that is read is this one, or isn't.
use Rattle.std.proofs.Common.{Some, sym, ◌∙◌, ap}
use Rattle.std.proofs.lemmas.Bool.Decides.{Decides-at}
use Rattle.std.proofs.lemmas.Option.{same_Some}
use Rattle.verdict_claims.proofs.Equal.{same_offer}
use Rattle.sysmem_proof.proofs.OffersFirst.{offer_read}
use Rattle.sysmem_proof.proofs.checking.offers_before.is_offer_at.Goals as goal

pub returns-in-Some : goal.returns-in-Some
returns-in-Some c =
    let here = offer_read c.args.platform.now _ _ c.args.index (Some c.in-Some.one) c.pairs.ensures.pairs c.colours.ensures.colours c.in-Some.ensures in
    let test = Decides-at c.eq.result _ c.eq.ensures (same_offer c.in-Some.one c.args.offer.now) in (
      λ is. here ∙ ap Some (test.0 is),
      λ is. test.1 (same_Some c.in-Some.one c.args.offer.now (sym here ∙ is)),
    )
