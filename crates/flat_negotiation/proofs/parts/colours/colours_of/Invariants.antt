-- Those so far.
use Rattle.std.proofs.Common.{take}
use Rattle.std.specs.List.{AllZip}
use Rattle.flat_negotiation.specs.Colours.{IsColourSaid}
use Rattle.flat_negotiation.proofs.parts.colours.colours_of.Given as goal

abbrev pub invariant-loop-index : goal.invariant-loop-index
invariant-loop-index l = AllZip IsColourSaid (take l.index l.bits) l.colours.items
