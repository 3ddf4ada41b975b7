-- Those accepted before are nodes of the tree.
use Rattle.std.proofs.Common.{◌≡◌, ◌++◌, Some, sym, ◌∙◌, ap, subst}
use Rattle.std.specs.Prelude.{All}
use Rattle.sysmem_tree.specs.Nodes.{HasNode}
use Rattle.sysmem_tree.specs.Selection.{IsPrefix, after}
use Rattle.sysmem_tree.specs.Shape.{Member}
use Rattle.sysmem_tree.specs.Forest.{Forest, settled}
use Rattle.verdict_claims.specs.Matter.{Matter, forest}
use Rattle.verdict_claims.specs.Members.{members_at}
use Rattle.verdict_claims.specs.Roll.{listed}
use Rattle.verdict_claims.proofs.Rolls.{accepted_there, listed_with}
use Rattle.sysmem_proof.proofs.checking.checker.Checker.with_accepted.Goals as goal

pub new-requires-clause-prefix : goal.new-requires-clause-prefix
new-requires-clause-prefix c = subst (λ (x : Matter). IsPrefix (forest x) c.args.prefix.now) (sym c.self.view_is) c.requires.prefix

pub new-requires-clause-there : goal.new-requires-clause-there
new-requires-clause-there c = subst (All (HasNode c.self.inside.tree.now.nodes)) (sym c.accepted.ensures)
    (accepted_there c.self.inside.platform.now c.self.inside.tree.now.nodes c.self.inside.domain _ c.args.base.now c.self.invariant.2
    (ap (λ (x : Matter). x.base) c.self.view_is ∙ c.requires.base))

pub returns : goal.returns
returns c = subst (λ (x : Matter). (d : Forest Member) → after (forest x) c.args.prefix.now ≡ Some d → listed c.new.result ≡ members_at x.nodes c.args.base.now.accepted ++ settled d) c.self.view_is
    (λ d leads. ap listed c.new.ensures ∙ (listed_with c.self.inside.tree.now.nodes c.self.inside.domain c.args.prefix.now c.accepted.result.now d leads
    ∙ ap (λ xs. members_at c.self.inside.tree.now.nodes xs ++ settled d) c.accepted.ensures))
