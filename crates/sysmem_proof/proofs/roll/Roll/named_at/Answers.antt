-- A node that is marked and asks something, and what it asks.
use Rattle.std.proofs.Common.{Bor, sym, ◌∙◌, ap}
use Rattle.std.specs.Prelude.{option_map}
use Rattle.negotiation_inputs.specs.Participant.{Participant}
use Rattle.verdict_claims.specs.Naming.{asked_at}
use Rattle.verdict_claims.specs.Roll.{RollFacts, listed}
use Rattle.verdict_claims.proofs.Rolls.{told_nowhere, told_marked}
use Rattle.sysmem_proof.proofs.roll.Roll.named_at.Goals as goal

pub returns-in_err-node-clause-asks : goal.returns-in_err-node-clause-asks
returns-in_err-node-clause-asks c = rw c.from_residual.ensures (told_nowhere c.self.inside.tree.now.nodes c.self.invariant.1.tree c.one_path.ensures c.self.inside.domain c.self.invariant.0
    (c.one_forest.ensures c.self.inside.tree.now.nodes c.self.inside.domain) c.self.inside.prefix.now c.self.inside.accepted.now c.self.invariant.2 c.args.path.now (sym c.node_at.ensures.node ∙ c.in_err-node.was)
    ∙ ap (λ (r : RollFacts). asked_at (listed r) c.args.path.now) c.self.view_is)

pub returns-in_err-asked-clause-asks : goal.returns-in_err-asked-clause-asks
returns-in_err-asked-clause-asks c = rw c.from_residual-in_err-asked.ensures (ap (option_map (λ (one : Bor Participant). one.now)) (sym c.in_err-asked.was) ∙ (c.marked.ensures ∙ (told_marked c.self.inside.tree.now.nodes c.self.invariant.1.tree c.one_path.ensures c.self.inside.domain c.self.invariant.0
    (c.one_forest.ensures c.self.inside.tree.now.nodes c.self.inside.domain) c.self.inside.prefix.now c.self.inside.accepted.now c.self.invariant.2 c.args.path.now
    c.in_ok-node.node c.in_ok-node.ensures.there (sym c.node_at.ensures.node ∙ c.in_ok-node.was) _ (c.self.invariant.3 c.in_ok-node.node)
    ∙ ap (λ (r : RollFacts). asked_at (listed r) c.args.path.now) c.self.view_is)))

pub returns-clause-asks : goal.returns-clause-asks
returns-clause-asks c = ap (option_map (λ (one : Bor Participant). one.now)) (sym c.in_ok-asked.was) ∙ (c.marked.ensures ∙ (told_marked c.self.inside.tree.now.nodes c.self.invariant.1.tree c.one_path.ensures c.self.inside.domain c.self.invariant.0
    (c.one_forest.ensures c.self.inside.tree.now.nodes c.self.inside.domain) c.self.inside.prefix.now c.self.inside.accepted.now c.self.invariant.2 c.args.path.now
    c.in_ok-node.node c.in_ok-node.ensures.there (sym c.node_at.ensures.node ∙ c.in_ok-node.was) _ (c.self.invariant.3 c.in_ok-node.node)
    ∙ ap (λ (r : RollFacts). asked_at (listed r) c.args.path.now) c.self.view_is))
