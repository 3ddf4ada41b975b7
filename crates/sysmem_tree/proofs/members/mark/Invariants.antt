-- What is marked and what has yet to be is what was marked and what is settled.
use Rattle.std.proofs.Common.{◌≡◌, ◌-◌, ◌||◌, ℕ, Bool, false, List, Option, length, get_or}
use Rattle.std.specs.List.{list_any}
use Rattle.sysmem_tree.specs.Forest.{Forest, settled}
use Rattle.sysmem_tree.specs.Layout.{Spot, AreLaid, start}
use Rattle.sysmem_tree.proofs.layouts.Settling.{Meets, is_at}
use Rattle.sysmem_tree.proofs.members.mark.Given as goal

abbrev pub invariant-loop-at : goal.invariant-loop-at
invariant-loop-at l = (w : Forest Spot) (g : Bool) (next : Option ℕ) → AreLaid g l.layout.places w l.to next → start w l.to ≡ l.from
    → (length l.marks ≡ 128) × (ss : List Spot) × Meets l.layout.places l.to l.at ss
    × ((k : ℕ) → (get_or l.marks k false || list_any (is_at k) ss) ≡ (get_or l.initial.marks k false || list_any (is_at k) (settled w)))

abbrev pub decreases-loop-at : goal.decreases-loop-at
decreases-loop-at l = l.to - l.at
