-- Those so far.
use Rattle.std.proofs.Common.{take}
use Rattle.std.specs.List.{AllZip}
use Rattle.flat_negotiation.specs.Pairs.{IsPairSaid}
use Rattle.flat_negotiation.proofs.parts.pairs.pairs_of.Given as goal

abbrev pub invariant-loop-index : goal.invariant-loop-index
invariant-loop-index l = AllZip IsPairSaid (take l.index l.flats) l.pairs.items
