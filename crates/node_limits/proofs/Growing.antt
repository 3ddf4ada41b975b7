-- How many nodes an action adds.
use Rattle.std.proofs.Common.{◌≡◌, ℕ, suc, ◌+◌, List, [], ◌∷◌, length, Option, Some, None, Ok, slice_set, refl, sym, ◌∙◌, ap, arith, length-append}
use Rattle.std.specs.Prelude.{is_some, if◌then◌else◌}
use Rattle.std.proofs.lemmas.List.{length-set}
use Rattle.sysmem_tree.specs.declared.action.ActionKind.{ActionKind}
use Rattle.sysmem_tree.specs.declared.state.NodeState.{NodeState}
use Rattle.sysmem_tree.specs.ActionKind.{Deed, kind_of}
use Rattle.sysmem_tree.specs.Domain.{TreeFacts}
use Rattle.sysmem_tree.specs.Node.{NodeFacts}
use Rattle.sysmem_tree.specs.Shape.{members_of}
use Rattle.sysmem_tree.specs.Table.{makes}
use Rattle.sysmem_tree.specs.Tree.{Applied, applied, node_after, nodes_made, nodes_after, left_out_but, decided}
use Rattle.sysmem_tree.proofs.CallerLemmas.{accepted}

-- how many an action makes
abbrev pub made_by : ActionKind → ℕ
made_by kind = if is_some (makes kind) then 1 else 0

made_many : (number i : ℕ) (n : NodeFacts) (k : ActionKind) (s : Option NodeState) → length (nodes_made number i n k s) ≡ (if is_some s then 1 else 0)
made_many number i n k None = refl
made_many number i n k (Some s) = refl

-- an accepted one makes as many as its kind says
pub grows : (t : TreeFacts) (i : ℕ) (deed : Deed) (after : Applied) → applied t i deed ≡ Ok after → length after.tree.nodes ≡ length t.nodes + made_by (kind_of deed)
grows t i deed after is =
    let (n, a) = accepted t i deed after is in
    let made = made_many (length t.nodes) i n (kind_of deed) (makes (kind_of deed)) in
    let set : length (slice_set t.nodes i (node_after deed n)) ≡ length t.nodes = length-set t.nodes i (node_after deed n) in
    let both : length (nodes_after t.nodes i n deed) ≡ length (slice_set t.nodes i (node_after deed n)) + length (nodes_made (length t.nodes) i n (kind_of deed) (makes (kind_of deed))) = length-append (slice_set t.nodes i (node_after deed n)) (nodes_made (length t.nodes) i n (kind_of deed) (makes (kind_of deed))) in
    sym (ap (λ (u : TreeFacts). length u.nodes) a.tree) ∙ omega (arith, both, set, made)

left_many : (ms : List ℕ) (r i : ℕ) (ns : List NodeFacts) → length (left_out_but ms r i ns) ≡ length ns
left_many ms r i [] = refl
left_many ms r i (n ∷ ns) = ap suc (left_many ms r (i + 1) ns)

pub decided_many : (t : TreeFacts) (r : ℕ) (choices : Option (List ℕ)) → length (decided t r choices).nodes ≡ length t.nodes
decided_many t r None = refl
decided_many t r (Some cs) = left_many (members_of t.nodes r cs) r 0 t.nodes
