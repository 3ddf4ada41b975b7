-- What a base names is there, each once.
use Rattle.std.proofs.Common.{◌≡◌, ◌≤◌, Some, All, length, subst}
use Rattle.sysmem_tree.specs.Nodes.{HasNode}
use Rattle.verdict_claims.specs.Base.{BaseFacts}
use Rattle.verdict_claims.specs.Matter.{Matter}
use Rattle.sysmem_proof.proofs.Shown.{few_before}
use Rattle.sysmem_proof.proofs.checking.checker.Checker.few_accepted.Goals as goal

pub returns-clause-there : goal.returns-clause-there
returns-clause-there c = subst (λ (x : Matter). (b : BaseFacts) → x.base ≡ Some b → All (HasNode x.nodes) b.accepted) c.self.view_is
    (λ b some. (few_before c.self.inside.platform.now c.self.inside.tree.now.nodes c.self.inside.domain _ b c.recall_sound.ensures.tree.few c.self.invariant.2 some).0)

pub returns-clause-few : goal.returns-clause-few
returns-clause-few c = subst (λ (x : Matter). (b : BaseFacts) → x.base ≡ Some b → length b.accepted ≤ 128) c.self.view_is
    (λ b some. (few_before c.self.inside.platform.now c.self.inside.tree.now.nodes c.self.inside.domain _ b c.recall_sound.ensures.tree.few c.self.invariant.2 some).1)
