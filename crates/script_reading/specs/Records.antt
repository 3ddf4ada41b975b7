-- What the record that a call states is read as.
use Rattle.std.specs.Prelude.{Option, Some, None, Result}
use Rattle.negotiation_inputs.specs.Participant.{Participant}
use Rattle.record_reading.specs.declared.fault.Fault.{Fault}
use Rattle.record_reading.specs.Reading.{participant_of}
use Rattle.script_reading.specs.Call.{ActFacts, states}

-- the constraints of the record that an act states, or its first fault, if it states one
abbrev pub record_of : ActFacts → Option (Result Participant Fault)
record_of (states (Some d)) = Some (participant_of d)
record_of _ = None
