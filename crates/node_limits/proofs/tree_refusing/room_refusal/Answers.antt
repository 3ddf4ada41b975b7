-- An action that makes a node wants fewer than 128.
use Rattle.std.proofs.Common.{◌≡◌, ◌<◌, ◌≤◌, Bool, None, Some, ap, false, length, rules, sym, true}
use Rattle.std.specs.Prelude.{is_some, if◌then◌else◌}
use Rattle.sysmem_tree.specs.declared.refusal.Refusal.TheVariants.{TooManyNodes}
use Rattle.sysmem_tree.specs.Table.{makes}
use Rattle.node_limits.proofs.TreeRefusing.{has_place, makes_none, no_room}
use Rattle.node_limits.proofs.tree_refusing.room_refusal.Goals as goal

pub returns-then-is_none : goal.returns-then-is_none
returns-then-is_none c =
    let none : is_some (makes c.args.kind) ≡ false = search rules in
    sym (ap (λ (b : Bool). if b then None else Some TooManyNodes) (makes_none c.args.tree.now.nodes c.args.kind none))

pub returns-then-node_count-ge-MOST_NODES : goal.returns-then-node_count-ge-MOST_NODES
returns-then-node_count-ge-MOST_NODES c =
    let made : is_some (makes c.args.kind) ≡ true = search rules in
    let many : 128 ≤ length c.args.tree.now.nodes = search rules in
    sym (ap (λ (b : Bool). if b then None else Some TooManyNodes) (no_room c.args.tree.now.nodes c.args.kind made many))

pub returns-else-node_count-ge-MOST_NODES : goal.returns-else-node_count-ge-MOST_NODES
returns-else-node_count-ge-MOST_NODES c =
    let few : length c.args.tree.now.nodes < 128 = search rules in
    sym (ap (λ (b : Bool). if b then None else Some TooManyNodes) (has_place c.args.tree.now.nodes c.args.kind few))
