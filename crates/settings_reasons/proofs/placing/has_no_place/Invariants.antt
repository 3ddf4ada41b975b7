-- What those so far leave.
use Rattle.std.proofs.Common.{take}
use Rattle.sysmem_memory.specs.Place.{AreDomainsLeft}
use Rattle.offer_fits.specs.Demands.{place_demands}
use Rattle.value_sources.specs.Sources.{all_asked}
use Rattle.settings_reasons.proofs.placing.has_no_place.Given as goal

abbrev pub invariant-loop-participant : goal.invariant-loop-participant
invariant-loop-participant l = AreDomainsLeft l.bounds l.heaps (place_demands (all_asked (take l.participant-index l.participants)))
