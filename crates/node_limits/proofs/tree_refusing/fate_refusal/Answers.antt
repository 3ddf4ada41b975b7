-- What became of the domain refuses an action for, as the tree tells it.
use Rattle.std.proofs.Common.{◌≡◌, ◌⊎◌, Bool, None, Some, false, rules, slice_get, subst, true}
use Rattle.std.specs.Prelude.{IfSome, if◌then◌else◌}
use Rattle.sysmem_tree.specs.declared.fate.Fate.TheVariants as fates
use Rattle.sysmem_tree.specs.declared.refusal.Refusal.TheVariants.{NotSelected}
use Rattle.sysmem_tree.specs.ActionKind.{ends_node}
use Rattle.sysmem_tree.specs.Domain.{fate_of}
use Rattle.node_limits.specs.TreeRefusals.{fate_refusal}
use Rattle.node_limits.proofs.TreeRefusing.{barred_refuses, chosen_refuses, ends_unrefused, undecided_refuses}
use Rattle.node_limits.proofs.tree_refusing.fate_refusal.Goals as goal

pub returns-then-ends_node : goal.returns-then-ends_node
returns-then-ends_node c =
    let ends : ends_node c.args.kind ≡ true = search rules in
    ends_unrefused c.args.tree.now (slice_get c.args.tree.now.nodes c.args.node) c.args.kind ends

pub returns-in-Undecided : goal.returns-in-Undecided
returns-in-Undecided c =
    let stays : ends_node c.args.kind ≡ false = search rules in
    let fate : fate_of c.args.tree.now c.domain_of.result ≡ fates.Undecided = search rules in
    undecided_refuses c.args.tree.now c.args.node c.domain_of.result c.args.kind stays c.recall_sound.ensures c.domain_of.ensures.domain fate

pub returns-then-is_selected : goal.returns-then-is_selected
returns-then-is_selected c =
    let stays : ends_node c.args.kind ≡ false = search rules in
    let fate : fate_of c.args.tree.now c.domain_of.result ≡ fates.Chosen = search rules in
    subst (λ (b : Bool). IfSome (slice_get c.args.tree.now.nodes c.args.node) (λ n. (if b then None else Some NotSelected) ≡ fate_refusal c.args.tree.now n c.args.kind)) c.if-is_selected.true
    (chosen_refuses c.args.tree.now c.args.node c.domain_of.result c.is_selected.result c.args.kind stays c.domain_of.ensures.domain fate c.is_selected.ensures)

pub returns-else-is_selected : goal.returns-else-is_selected
returns-else-is_selected c =
    let stays : ends_node c.args.kind ≡ false = search rules in
    let fate : fate_of c.args.tree.now c.domain_of.result ≡ fates.Chosen = search rules in
    subst (λ (b : Bool). IfSome (slice_get c.args.tree.now.nodes c.args.node) (λ n. (if b then None else Some NotSelected) ≡ fate_refusal c.args.tree.now n c.args.kind)) c.if-is_selected.false
    (chosen_refuses c.args.tree.now c.args.node c.domain_of.result c.is_selected.result c.args.kind stays c.domain_of.ensures.domain fate c.is_selected.ensures)

pub returns-in-Failed : goal.returns-in-Failed
returns-in-Failed c =
    let stays : ends_node c.args.kind ≡ false = search rules in
    let fate : (fate_of c.args.tree.now c.domain_of.result ≡ fates.Failed) ⊎ (fate_of c.args.tree.now c.domain_of.result ≡ fates.NoneChosen) = search rules in
    barred_refuses c.args.tree.now c.args.node c.domain_of.result c.args.kind stays c.domain_of.ensures.domain fate
