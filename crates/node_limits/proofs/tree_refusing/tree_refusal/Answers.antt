-- The refusals in their order are the tree's first.
use Rattle.std.proofs.Common.{◌∙◌, ap}
use Rattle.sysmem_tree.specs.ActionKind.{deed_of}
use Rattle.node_limits.specs.TreeRefusals.{first_of, state_refusal}
use Rattle.node_limits.proofs.TreeRefusing.{refusal_is}
use Rattle.node_limits.proofs.tree_refusing.tree_refusal.Goals as goal

pub returns : goal.returns
returns c =
    c.first_of-2.ensures
    ∙ (ap (first_of c.fate_refusal-fate.result) c.first_of.ensures
    ∙ (ap (λ own. first_of c.fate_refusal-fate.result (first_of own c.room_refusal.result)) c.state_refusal-own.ensures
    ∙ (ap (λ full. first_of c.fate_refusal-fate.result (first_of (state_refusal c.state.result c.kind-kind.result) full)) c.room_refusal.ensures
    ∙ refusal_is c.args.tree.now c.args.node (deed_of c.args.action.now) c.kind-kind.result c.state.result c.fate_refusal-fate.result c.kind-kind.ensures c.requires c.state.ensures c.fate_refusal-fate.ensures)))
