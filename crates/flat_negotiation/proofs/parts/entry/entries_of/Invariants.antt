-- Those so far.
use Rattle.std.proofs.Common.{take}
use Rattle.std.specs.List.{AllZip}
use Rattle.flat_negotiation.specs.Entries.{IsEntrySaid}
use Rattle.flat_negotiation.proofs.parts.entry.entries_of.Given as goal

abbrev pub invariant-loop-index : goal.invariant-loop-index
invariant-loop-index l = AllZip IsEntrySaid (take l.index l.flats) l.entries.items
