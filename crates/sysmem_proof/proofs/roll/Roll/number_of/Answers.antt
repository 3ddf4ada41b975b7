-- A node that is marked and asks something.
use Rattle.std.proofs.Common.{sym, ◌∙◌, ap}
use Rattle.std.specs.Prelude.{is_some}
use Rattle.verdict_claims.specs.Naming.{asked_at}
use Rattle.verdict_claims.specs.Roll.{RollFacts, listed}
use Rattle.verdict_claims.proofs.Rolls.{told_nowhere, told_marked, some_mapped}
use Rattle.sysmem_proof.proofs.roll.Roll.number_of.Goals as goal

pub returns-in_err-node-clause-named : goal.returns-in_err-node-clause-named
returns-in_err-node-clause-named c = ap is_some c.from_residual.ensures ∙ ap is_some (told_nowhere c.self.inside.tree.now.nodes c.self.invariant.1.tree c.one_path.ensures c.self.inside.domain c.self.invariant.0
    (c.one_forest.ensures c.self.inside.tree.now.nodes c.self.inside.domain) c.self.inside.prefix.now c.self.inside.accepted.now c.self.invariant.2 c.args.path.now (sym c.node_at.ensures.node ∙ c.in_err-node.was)
    ∙ ap (λ (r : RollFacts). asked_at (listed r) c.args.path.now) c.self.view_is)

pub returns-in_err-marked-clause-named : goal.returns-in_err-marked-clause-named
returns-in_err-marked-clause-named c = ap is_some c.from_residual-in_err-marked.ensures
    ∙ (ap is_some (sym c.in_err-marked.was) ∙ (sym (some_mapped _ c.marked.result) ∙ ap is_some (c.marked.ensures ∙ (told_marked c.self.inside.tree.now.nodes c.self.invariant.1.tree c.one_path.ensures c.self.inside.domain c.self.invariant.0
    (c.one_forest.ensures c.self.inside.tree.now.nodes c.self.inside.domain) c.self.inside.prefix.now c.self.inside.accepted.now c.self.invariant.2 c.args.path.now
    c.in_ok-node.node c.in_ok-node.ensures.there (sym c.node_at.ensures.node ∙ c.in_ok-node.was) _ (c.self.invariant.3 c.in_ok-node.node)
    ∙ ap (λ (r : RollFacts). asked_at (listed r) c.args.path.now) c.self.view_is))))

pub returns-clause-named : goal.returns-clause-named
returns-clause-named c = ap is_some (sym c.in_ok-marked.was) ∙ (sym (some_mapped _ c.marked.result) ∙ ap is_some (c.marked.ensures ∙ (told_marked c.self.inside.tree.now.nodes c.self.invariant.1.tree c.one_path.ensures c.self.inside.domain c.self.invariant.0
    (c.one_forest.ensures c.self.inside.tree.now.nodes c.self.inside.domain) c.self.inside.prefix.now c.self.inside.accepted.now c.self.invariant.2 c.args.path.now
    c.in_ok-node.node c.in_ok-node.ensures.there (sym c.node_at.ensures.node ∙ c.in_ok-node.was) _ (c.self.invariant.3 c.in_ok-node.node)
    ∙ ap (λ (r : RollFacts). asked_at (listed r) c.args.path.now) c.self.view_is)))
