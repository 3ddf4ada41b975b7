-- What is counted by numbers.
use Rattle.std.proofs.Common.{refl}
use Rattle.sysmem_proof.proofs.Selections.{few_told, many_told}
use Rattle.sysmem_proof.proofs.selecting.are_few.Goals as goal

pub returns-then-count_selections-gt-MOST_SELECTIONS : goal.returns-then-count_selections-gt-MOST_SELECTIONS
returns-then-count_selections-gt-MOST_SELECTIONS c = (
  λ is. absurd (cc),
  λ few. absurd (many_told c.args.tree.now.nodes c.args.domain c.count_selections.result (c.one_forest.ensures c.args.tree.now.nodes c.args.domain) c.count_selections.ensures c.if-count_selections-gt-MOST_SELECTIONS.true few),
)

pub returns : goal.returns
returns c = (
  λ is. few_told c.args.tree.now.nodes c.args.domain c.count_selections.result (c.one_forest.ensures c.args.tree.now.nodes c.args.domain) c.count_selections.ensures c.if-count_selections-gt-MOST_SELECTIONS.false,
  λ few. refl,
)
