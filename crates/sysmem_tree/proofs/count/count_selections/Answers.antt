-- The root's own children are all that is counted.
use Rattle.std.proofs.Common.{min, None, sym, ◌∙◌, ap}
use Rattle.std.proofs.Math.Nat.{mul-one}
use Rattle.std.specs.Prelude.{slice_index_or}
use Rattle.sysmem_tree.specs.Forest.{Empty, count}
use Rattle.sysmem_tree.specs.Layout.{count_as}
use Rattle.sysmem_tree.specs.Links.{siblings_from}
use Rattle.sysmem_tree.proofs.count.count_selections.Goals as goal
use Rattle.sysmem_tree.proofs.forests.Linking.{starts_at}
use Rattle.sysmem_tree.proofs.forests.Numbers.{count_plain}

pub count_children-requires-clause-links : goal.count_children-requires-clause-links
count_children-requires-clause-links c =
    let at = starts_at c.args.nodes.now c.new-links.result c.args.root c.requires.tree c.requires.there c.new-links.ensures in
    (c.args.root, c.new-links.ensures, at.below)

pub returns : goal.returns
returns c =
    let at = starts_at c.args.nodes.now c.new-links.result c.args.root c.requires.tree c.requires.there c.new-links.ensures in
    let kids = siblings_from c.args.nodes.now (slice_index_or c.new-links.result.first c.args.root None) in
    c.count_children.ensures
    ∙ (ap (λ g. min (count_as g kids) 18446744073709551615) c.has_alternatives.ensures
    ∙ ap (λ x. min x 18446744073709551615) (sym (ap count (at.tree c.index-nodes-root.result c.index-nodes-root.is)
    ∙ (count_plain c.index-nodes-root.result.state.kind c.args.root kids Empty ∙ mul-one _))))
