-- Those so far are as entries may be.
use Rattle.std.proofs.Common.{take}
use Rattle.std.specs.Prelude.{All}
use Rattle.negotiation_inputs.specs.Participant.{IsEntry}
use Rattle.negotiation_inputs.proofs.amiss.amiss_in_entries.Given as goal

abbrev pub invariant-loop-entry : goal.invariant-loop-entry
invariant-loop-entry l = All IsEntry (take l.entry-index l.entries)
