-- What the choices so far settle is marked.
use Rattle.std.proofs.Common.{◌≡◌, ℕ, false, None, get_or, drop}
use Rattle.std.specs.List.{list_any}
use Rattle.sysmem_tree.specs.Forest.{Forest, settled}
use Rattle.sysmem_tree.specs.Layout.{IsLayout, Spot, first_place}
use Rattle.sysmem_tree.specs.Prefix.{AreOpen}
use Rattle.sysmem_tree.specs.Selection.{IsPrefix, after}
use Rattle.sysmem_tree.proofs.layouts.Settling.{is_at}
use Rattle.sysmem_tree.proofs.members.marks_after.Given as goal

abbrev pub invariant-loop-choice : goal.invariant-loop-choice
invariant-loop-choice l = (d : Forest ℕ) (laid : IsLayout l.layout d) → IsPrefix laid.spots l.choices
    → (e : Forest Spot) × (after laid.spots l.choices ≡ after e (drop l.choice-index l.choices)) × AreOpen l.layout.places e None × (l.group ≡ first_place e)
    × ((k : ℕ) → get_or l.marks k false ≡ list_any (is_at k) (settled e))
