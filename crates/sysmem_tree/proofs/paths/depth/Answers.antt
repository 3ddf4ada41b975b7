-- One step from a node to its parent.
use Rattle.std.proofs.Common.{length, refl, sym, ◌∙◌, arith}
use Rattle.std.proofs.lemmas.Option.{slice_get_read}
use Rattle.sysmem_tree.proofs.nodes.Kids.{parent_of}
use Rattle.sysmem_tree.proofs.steps.Steps.{no_step, one_step}
use Rattle.sysmem_tree.proofs.nodes.Ways.{root_alone}
use Rattle.sysmem_tree.proofs.paths.depth.Goals as goal

pub loop-birth-smaller : goal.loop-birth-smaller
loop-birth-smaller c =
    let here = slice_get_read c.args.nodes.now (length c.args.nodes.now) c.loop-birth.number c.index-nodes-number.result refl c.loop-birth.invariant.0 c.index-nodes-number.is in
    parent_of c.args.nodes.now c.requires.tree c.loop-birth.number c.index-nodes-number.result c.in-Some.birth here (sym c.birth.ensures ∙ c.in-Some.is)

pub loop-birth-preserved : goal.loop-birth-preserved
loop-birth-preserved c =
    let here = slice_get_read c.args.nodes.now (length c.args.nodes.now) c.loop-birth.number c.index-nodes-number.result refl c.loop-birth.invariant.0 c.index-nodes-number.is in
    let is = sym c.birth.ensures ∙ c.in-Some.is in
    let older = parent_of c.args.nodes.now c.requires.tree c.loop-birth.number c.index-nodes-number.result c.in-Some.birth here is in
    let longer = one_step c.args.nodes.now c.requires.tree c.loop-birth.number c.index-nodes-number.result c.in-Some.birth here is in
    let (within, few, all) = c.loop-birth.invariant in
    (omega (arith, older, within), omega (arith, older, few), omega (arith, longer, all))

pub returns : goal.returns
returns c =
    let here = slice_get_read c.args.nodes.now (length c.args.nodes.now) c.loop-birth.number c.index-nodes-number.result refl c.loop-birth.invariant.0 c.index-nodes-number.is in
    let root = root_alone c.args.nodes.now c.loop-birth.number c.index-nodes-number.result c.requires.tree here (sym c.birth.ensures ∙ c.in_default.is) in
    let none = no_step c.args.nodes.now c.requires.tree c.loop-birth.number root in
    let (within, few, all) = c.loop-birth.invariant in
    omega (arith, none, all)
