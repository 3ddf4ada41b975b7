-- By kind and constraints first, and then by paths.
use Rattle.std.proofs.Common.{length, refl, sym, ◌∙◌}
use Rattle.std.proofs.lemmas.Option.{slice_get_read}
use Rattle.sysmem_tree.proofs.nodes.PathsUp.{from_shown, to_shown}
use Rattle.sysmem_tree.proofs.shapes.show_same.Goals as goal

pub returns-then-are_alike : goal.returns-then-are_alike
returns-then-are_alike c =
    let here = slice_get_read c.args.nodes.now (length c.args.nodes.now) c.args.node c.index-nodes-node.result refl c.requires.own_there c.index-nodes-node.is in
    let there = slice_get_read c.args.others.now (length c.args.others.now) c.args.other c.index-others-other.result refl c.requires.other_there c.index-others-other.is in (
      λ t. to_shown c.args.nodes.now c.args.others.now c.args.node c.args.other c.index-nodes-node.result c.index-others-other.result here there (c.have_same_path.ensures.0 t) (c.are_alike.ensures.0 c.if-are_alike.true),
      λ e. c.have_same_path.ensures.1 (from_shown c.args.nodes.now c.args.others.now c.args.node c.args.other c.index-nodes-node.result c.index-others-other.result here there e).0,
    )

pub returns-else-are_alike : goal.returns-else-are_alike
returns-else-are_alike c =
    let here = slice_get_read c.args.nodes.now (length c.args.nodes.now) c.args.node c.index-nodes-node.result refl c.requires.own_there c.index-nodes-node.is in
    let there = slice_get_read c.args.others.now (length c.args.others.now) c.args.other c.index-others-other.result refl c.requires.other_there c.index-others-other.is in (
      λ t. absurd (let no = sym t ∙ c.if-are_alike.false in cc),
      λ e. c.are_alike.ensures.1 (from_shown c.args.nodes.now c.args.others.now c.args.node c.args.other c.index-nodes-node.result c.index-others-other.result here there e).1,
    )
