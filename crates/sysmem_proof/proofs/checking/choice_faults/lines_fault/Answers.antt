-- The lines for offers, and then those for places.
use Rattle.std.proofs.Common.{true, inl, ◌∙◌, subst}
use Rattle.negotiation_inputs.specs.Platform.{offers_of}
use Rattle.verdict_claims.specs.Conflict.{RefusesOffer}
use Rattle.verdict_claims.specs.Fault.{LinesFault}
use Rattle.verdict_claims.specs.Roll.{listed}
use Rattle.sysmem_proof.proofs.Left.{of_err}
use Rattle.sysmem_proof.proofs.Choosing.{lines_both}
use Rattle.sysmem_proof.proofs.checking.choice_faults.lines_fault.Goals as goal

pub offers_before_fault-requires : goal.offers_before_fault-requires
offers_before_fault-requires c = c.requires.loosely.sound.offer

pub places_before_fault-requires : goal.places_before_fault-requires
places_before_fault-requires c = (c.requires.loosely.heap, c.requires.loosely.sound.place)

pub returns-in_err-offers_before_fault : goal.returns-in_err-offers_before_fault
returns-in_err-offers_before_fault c =
    of_err c.from_residual.result _ _ _ c.from_residual.ensures.1 (λ y same. same)
    (inl (subst (λ ls. LinesFault (RefusesOffer true (listed c.args.roll.now)) (listed c.args.roll.now) (offers_of c.args.platform.now) c.args.settings.now.offer ls c.in_err-offers_before_fault.field-0.0)
    (c.as_slice.ensures ∙ c.offers.ensures) c.in_err-offers_before_fault.ensures))

pub returns : goal.returns
returns c = lines_both c.args.platform.now (listed c.args.roll.now) c.args.settings.now c.args.certificate.now _ _ c.places_before_fault.result
    (c.as_slice.ensures ∙ c.offers.ensures) (c.as_slice-2.ensures ∙ c.places.ensures) c.in_ok-offers_before_fault.ensures c.places_before_fault.ensures
