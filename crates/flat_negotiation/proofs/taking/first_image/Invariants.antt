-- They don't come so near to any before.
use Rattle.std.proofs.Common.{◌≡◌, ℕ, ◌<◌, Some, slice_get}
use Rattle.sysmem_formats.specs.declared.offer.Pair.{Pair}
use Rattle.flat_negotiation.specs.Nearness.{Take}
use Rattle.flat_negotiation.specs.Own.{InSome}
use Rattle.flat_negotiation.proofs.taking.first_image.Given as goal

abbrev pub invariant-loop-index : goal.invariant-loop-index
invariant-loop-index l = (k : ℕ) (other : Pair) → k < l.index → slice_get l.pairs k ≡ Some other → ¬ InSome (Take l.near l.asked) l.colours other
