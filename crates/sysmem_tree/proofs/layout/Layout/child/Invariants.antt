-- The alternatives that are left from here on.
use Rattle.std.proofs.Common.{◌≡◌, ◌<◌, ◌+◌, length, slice_get}
use Rattle.sysmem_tree.specs.Forest.{Forest, each}
use Rattle.sysmem_tree.specs.Layout.{Spot}
use Rattle.sysmem_tree.specs.Prefix.{AreAlternatives}
use Rattle.sysmem_tree.proofs.layout.Layout.child.Given as goal

abbrev pub invariant-loop-left : goal.invariant-loop-left
invariant-loop-left l = (kids : Forest Spot) → AreAlternatives l.self.places (l.group + 1) kids → l.choice < length (each kids)
    → (ks : Forest Spot) × AreAlternatives l.self.places l.at ks × (l.left < length (each ks)) × (slice_get (each ks) l.left ≡ slice_get (each kids) l.choice)

abbrev pub decreases-loop-left : goal.decreases-loop-left
decreases-loop-left l = l.left
