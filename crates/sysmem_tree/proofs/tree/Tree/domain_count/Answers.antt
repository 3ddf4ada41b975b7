use Rattle.std.proofs.Common.{◌∙◌, arith}
use Rattle.sysmem_tree.proofs.domains.Soundness.{count_few}
use Rattle.sysmem_tree.proofs.tree.Tree.domain_count.Goals as goal

pub overflow_cast-result : goal.overflow_cast-result
overflow_cast-result c = let few = (count_few _ c.len.result c.self.invariant.0 (c.len.ensures ∙ c.self.inside.domains.ok.0)).1 in omega (arith, few)

pub returns-clause-some : goal.returns-clause-some
returns-clause-some c = (count_few _ c.len.result c.self.invariant.0 (c.len.ensures ∙ c.self.inside.domains.ok.0)).0

pub returns-clause-few : goal.returns-clause-few
returns-clause-few c = (count_few _ c.len.result c.self.invariant.0 (c.len.ensures ∙ c.self.inside.domains.ok.0)).1
