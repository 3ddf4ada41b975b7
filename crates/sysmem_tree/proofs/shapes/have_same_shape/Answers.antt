-- See forests/Levels.antt.
use Rattle.sysmem_tree.proofs.forests.Levels.{same_shape}
use Rattle.sysmem_tree.proofs.shapes.have_same_shape.Goals as goal

pub returns : goal.returns
returns c =
    let same = same_shape c.args.nodes.now c.args.others.now c.args.root c.args.root c.requires.own_tree c.requires.other_tree c.requires.own c.requires.other in
    let told = c.lay_out_same.ensures _ _ c.new.ensures.layout c.new-2.ensures.layout in
    (λ t. same.0 (told.0 t), λ e. told.1 (same.1 e))
