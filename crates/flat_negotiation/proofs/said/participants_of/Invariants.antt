-- Those so far.
use Rattle.std.proofs.Common.{take}
use Rattle.std.specs.List.{AllZip}
use Rattle.flat_negotiation.specs.Said.{IsParticipantSaid}
use Rattle.flat_negotiation.proofs.said.participants_of.Given as goal

abbrev pub invariant-loop-who : goal.invariant-loop-who
invariant-loop-who l = AllZip IsParticipantSaid (take l.who l.flats) l.asked.items
