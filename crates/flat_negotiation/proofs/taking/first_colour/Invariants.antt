-- They don't come so near to any before.
use Rattle.std.proofs.Common.{◌≡◌, ℕ, ◌<◌, Some, slice_get}
use Rattle.sysmem_formats.specs.declared.colour_space.ColourSpace.{ColourSpace}
use Rattle.flat_negotiation.specs.Nearness.{Take}
use Rattle.flat_negotiation.proofs.taking.first_colour.Given as goal

abbrev pub invariant-loop-index : goal.invariant-loop-index
invariant-loop-index l = (k : ℕ) (other : ColourSpace) → k < l.index → slice_get l.colours k ≡ Some other → ¬ Take l.near l.asked l.pair other
