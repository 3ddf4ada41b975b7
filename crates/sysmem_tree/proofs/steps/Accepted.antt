-- What an accepted action says of its node and of the tree.
use Rattle.std.proofs.Common.{◌≡◌, ℕ, Bool, true, false, not, ◌&&◌, Option, Some, None, Result, Ok, Err, slice_get, refl, ap}
use Rattle.std.specs.Prelude.{if◌then◌else◌}
use Rattle.sysmem_tree.specs.declared.refusal.Refusal.{Refusal}
use Rattle.sysmem_tree.specs.declared.refusal.Refusal.TheVariants.{DomainFailed, NotSelected, WrongState, NoChildren, TooManyNodes}
use Rattle.sysmem_tree.specs.ActionKind.{Deed, ends_node, kind_of}
use Rattle.sysmem_tree.specs.Domain.{TreeFacts}
use Rattle.sysmem_tree.specs.Node.{NodeFacts}
use Rattle.sysmem_tree.specs.Table.{allows, wants_child}
use Rattle.sysmem_tree.specs.Tree.{Applied, applied, applied_at, is_barred, has_room, number_after, tree_after}

let_through : {A : Type 0} (barred out allowed wants room : Bool) (x y : A)
    → ◌≡◌ {A = Result A Refusal} (if barred then Err DomainFailed else if out then Err NotSelected else if not allowed then Err WrongState else if wants then Err NoChildren else if not room then Err TooManyNodes else Ok x) (Ok y)
    → (allowed ≡ true) × (wants ≡ false) × (room ≡ true) × (x ≡ y)
let_through true out allowed wants room x y e = absurd (cc)
let_through false true allowed wants room x y e = absurd (cc)
let_through false false false wants room x y e = absurd (cc)
let_through false false true true room x y e = absurd (cc)
let_through false false true false false x y e = absurd (cc)
let_through false false true false true x y e = (refl, refl, refl, cc)

-- an accepted action: its node is there and allows it, there is room, and the
-- tree and the node are those after it
pub record IsAccepted (t : TreeFacts) (i : ℕ) (deed : Deed) (after : Applied) (n : NodeFacts) : Type 0 where
  pub there : slice_get t.nodes i ≡ Some n
  pub allowed : allows (kind_of deed) n.state ≡ true
  pub content : wants_child (kind_of deed) n.state ≡ false
  pub room : has_room t.nodes (kind_of deed) ≡ true
  pub tree : tree_after t i n deed ≡ after.tree
  pub node : number_after t.nodes i (kind_of deed) ≡ after.node

accepted_at : (t : TreeFacts) (i : ℕ) (deed : Deed) (after : Applied) (o : Option NodeFacts) → slice_get t.nodes i ≡ o → applied_at t i deed o ≡ Ok after
    → (n : NodeFacts) × IsAccepted t i deed after n
accepted_at t i deed after None here is = absurd (cc)
accepted_at t i deed after (Some n) here is =
    let (allowed, content, room, same) = let_through (is_barred t n.domain && not (ends_node (kind_of deed))) (n.is_left_out && not (ends_node (kind_of deed))) (allows (kind_of deed) n.state)
    (wants_child (kind_of deed) n.state) (has_room t.nodes (kind_of deed)) _ after is in
    (n, record { there = here; allowed = allowed; content = content; room = room; tree = ap (λ (a : Applied). a.tree) same; node = ap (λ (a : Applied). a.node) same })

pub accepted : (t : TreeFacts) (i : ℕ) (deed : Deed) (after : Applied) → applied t i deed ≡ Ok after → (n : NodeFacts) × IsAccepted t i deed after n
accepted t i deed after is = accepted_at t i deed after (slice_get t.nodes i) refl is
