-- A prefix of the shape is one of the numbers.
use Rattle.std.proofs.Common.{◌≤◌, ℕ, List, length, subst}
use Rattle.sysmem_tree.specs.Selection.{IsPrefix}
use Rattle.verdict_claims.specs.Matter.{Matter, forest}
use Rattle.sysmem_proof.proofs.Ways.{few_of}
use Rattle.sysmem_proof.proofs.checking.checker.Checker.few_choices.Goals as goal

pub returns : goal.returns
returns c = subst (λ (x : Matter). (cs : List ℕ) → IsPrefix (forest x) cs → length cs ≤ 128) c.self.view_is
    (λ cs prefix. few_of c.self.inside.tree.now.nodes c.self.inside.domain c.few_choices.ensures c.recall_sound.ensures.tree cs
    (c.choices_leave_one_forest.ensures c.self.inside.tree.now.nodes c.self.inside.domain cs) prefix)
