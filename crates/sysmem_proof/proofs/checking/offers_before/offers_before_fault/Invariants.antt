-- None of the offers so far is that of the settings, and their lines hold.
use Rattle.std.proofs.Common.{◌≢◌, All, true, take}
use Rattle.std.specs.List.{AllZip}
use Rattle.verdict_claims.specs.Conflict.{RefusesOffer}
use Rattle.verdict_claims.specs.Roll.{listed}
use Rattle.negotiation_inputs.specs.Platform.{offers_of}
use Rattle.sysmem_proof.proofs.checking.offers_before.offers_before_fault.Given as goal

abbrev pub invariant-loop-index : goal.invariant-loop-index
invariant-loop-index l = record {
  none : All (λ o. o ≢ l.settings.offer) (take l.index (offers_of l.platform));
  told : AllZip (RefusesOffer true (listed l.roll)) (take l.index (offers_of l.platform)) (take l.index l.lines);
}
