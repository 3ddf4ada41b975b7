-- By numbers and by the shape.
use Rattle.std.proofs.Common.{◌≡◌, Some, sym, subst}
use Rattle.std.specs.Prelude.{IsPermutation}
use Rattle.sysmem_tree.specs.Forest.{Forest, settled}
use Rattle.sysmem_tree.specs.Selection.{IsPrefix, after}
use Rattle.sysmem_tree.specs.Shape.{Member}
use Rattle.verdict_claims.specs.Asked.{asked_in}
use Rattle.verdict_claims.specs.Matter.{Matter, forest}
use Rattle.verdict_claims.specs.Members.{participants}
use Rattle.verdict_claims.proofs.Rolls.{prefix_numbers}
use Rattle.sysmem_proof.proofs.Shown.{asked_of_settled}
use Rattle.sysmem_proof.proofs.checking.checker.Checker.members.Goals as goal

pub settled_members-requires-clause-prefix : goal.settled_members-requires-clause-prefix
settled_members-requires-clause-prefix c =
    prefix_numbers c.self.inside.tree.now.nodes c.self.inside.domain c.args.prefix.now (c.choices_leave_one_forest.ensures c.self.inside.tree.now.nodes c.self.inside.domain c.args.prefix.now)
    (subst (λ (x : Matter). IsPrefix (forest x) c.args.prefix.now) (sym c.self.view_is) c.requires)

pub returns-clause-asks : goal.returns-clause-asks
returns-clause-asks c = subst (λ (x : Matter). (d : Forest Member) → after (forest x) c.args.prefix.now ≡ Some d → IsPermutation (asked_in x.nodes c.settled_members.result) (participants (settled d))) c.self.view_is
    (λ d leads. asked_of_settled c.self.inside.tree.now.nodes c.recall_sound.ensures.tree c.one_path.ensures c.self.inside.domain c.self.invariant.0
    (c.one_forest.ensures c.self.inside.tree.now.nodes c.self.inside.domain) c.args.prefix.now c.settled_members.result c.settled_members.ensures.order d leads)
