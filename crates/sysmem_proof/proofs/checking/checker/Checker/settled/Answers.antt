-- Nobody else is on the roll.
use Rattle.std.proofs.Common.{◌≡◌, Some, sym, ◌∙◌, ap, subst}
use Rattle.sysmem_tree.specs.Selection.{IsPrefix, after}
use Rattle.sysmem_tree.specs.Shape.{Member}
use Rattle.sysmem_tree.specs.Forest.{Forest, settled}
use Rattle.verdict_claims.specs.Matter.{Matter, forest}
use Rattle.verdict_claims.specs.Roll.{listed}
use Rattle.verdict_claims.proofs.Rolls.{listed_settled}
use Rattle.sysmem_proof.proofs.checking.checker.Checker.settled.Goals as goal

pub new-requires-clause-prefix : goal.new-requires-clause-prefix
new-requires-clause-prefix c = subst (λ (x : Matter). IsPrefix (forest x) c.args.prefix.now) (sym c.self.view_is) c.requires

pub returns : goal.returns
returns c = subst (λ (x : Matter). (d : Forest Member) → after (forest x) c.args.prefix.now ≡ Some d → listed c.new.result ≡ settled d) c.self.view_is
    (λ d leads. ap listed c.new.ensures ∙ listed_settled c.self.inside.tree.now.nodes c.self.inside.domain c.args.prefix.now d leads)
