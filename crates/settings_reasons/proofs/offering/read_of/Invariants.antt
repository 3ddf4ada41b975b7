-- What those so far ask.
use Rattle.std.proofs.Common.{take}
use Rattle.offer_fits.specs.Demands.{offer_demands}
use Rattle.sysmem_merge.specs.OfferRead.{IsOfferRead}
use Rattle.value_sources.specs.Sources.{all_asked}
use Rattle.settings_reasons.proofs.offering.read_of.Given as goal

abbrev pub invariant-loop-participant : goal.invariant-loop-participant
invariant-loop-participant l = IsOfferRead l.offer (offer_demands (all_asked (take l.participant-index l.participants))) l.read
