-- What the choices so far lead to.
use Rattle.std.proofs.Common.{◌≡◌, ℕ, None, drop}
use Rattle.sysmem_tree.specs.Forest.{Forest}
use Rattle.sysmem_tree.specs.Layout.{IsLayout, Spot, first_place}
use Rattle.sysmem_tree.specs.Prefix.{AreOpen}
use Rattle.sysmem_tree.specs.Selection.{IsPrefix, after}
use Rattle.sysmem_tree.proofs.layout.Layout.group_after.Given as goal

abbrev pub invariant-loop-choice : goal.invariant-loop-choice
invariant-loop-choice l = (d : Forest ℕ) (laid : IsLayout l.self d) → IsPrefix laid.spots l.choices
    → (e : Forest Spot) × (after laid.spots l.choices ≡ after e (drop l.choice-index l.choices)) × AreOpen l.self.places e None × (l.group ≡ first_place e)
