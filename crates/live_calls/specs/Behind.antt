-- What lies behind a handle.
use Rattle.std.specs.Prelude.{◌≢◌, Option, Some, None}
use Rattle.std.specs.Arc.{arc_value}
use Rattle.negotiation_inputs.specs.Participant.{Participant}
use Rattle.live_book.specs.declared.object.Object.{Object}
use Rattle.live_book.specs.declared.object.Object.TheVariants.{Collection, Constraints, Decision}
use Rattle.live_book.specs.declared.object.Object.TheVariants.{Platform}
use Rattle.live_book.specs.Collection.{CollectionFacts}
use Rattle.live_book.specs.Decision.{DecisionFacts}
use Rattle.negotiation_inputs.specs.Platform.{PlatformFacts}

-- no collection
abbrev pub IsNoCollection : Option Object → Type 0
IsNoCollection object = (c : CollectionFacts) → object ≢ Some (Collection c)

-- no platform
abbrev pub IsNoPlatform : Option Object → Type 0
IsNoPlatform object = (p : PlatformFacts) → object ≢ Some (Platform p)

-- no decision
abbrev pub IsNoDecision : Option Object → Type 0
IsNoDecision object = (d : DecisionFacts) → object ≢ Some (Decision d)

-- the constraints that it is, if it is some
abbrev pub constraints_in : Option Object → Option Participant
constraints_in (Some (Constraints shared)) = Some (arc_value shared)
constraints_in _ = None
