-- What the walk has yet to meet.
use Rattle.std.proofs.Common.{◌≡◌, ◌-◌, ℕ, Bool, List, Option}
use Rattle.std.specs.List.{list_any}
use Rattle.sysmem_tree.specs.Forest.{Forest, settled}
use Rattle.sysmem_tree.specs.Layout.{Spot, AreLaid, start}
use Rattle.sysmem_tree.proofs.layouts.Settling.{Meets, is_at}
use Rattle.sysmem_tree.proofs.settled.settles.Given as goal

abbrev pub invariant-loop-at : goal.invariant-loop-at
invariant-loop-at l = (w : Forest Spot) (g : Bool) (next : Option ℕ) → AreLaid g l.layout.places w l.to next → start w l.to ≡ l.from
    → (ss : List Spot) × Meets l.layout.places l.to l.at ss × (list_any (is_at l.node) (settled w) ≡ list_any (is_at l.node) ss)

abbrev pub decreases-loop-at : goal.decreases-loop-at
decreases-loop-at l = l.to - l.at
