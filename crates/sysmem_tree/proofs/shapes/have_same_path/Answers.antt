-- One step from two nodes to their parents.
use Rattle.std.proofs.Common.{length, is_some, refl, sym, ◌∙◌, ap, arith}
use Rattle.std.proofs.lemmas.Option.{slice_get_read}
use Rattle.sysmem_tree.proofs.nodes.Kids.{parent_of}
use Rattle.sysmem_tree.proofs.nodes.PathsUp.{same_up, other_child, at_top}
use Rattle.sysmem_tree.proofs.shapes.have_same_path.Goals as goal

pub returns-then-birth-other_birth : goal.returns-then-birth-other_birth
returns-then-birth-other_birth c =
    let here = slice_get_read c.args.nodes.now (length c.args.nodes.now) c.loop-birth.own c.index-nodes-own.result refl c.loop-birth.invariant.own c.index-nodes-own.is in
    let there = slice_get_read c.args.others.now (length c.args.others.now) c.loop-birth.its c.index-others-its.result refl c.loop-birth.invariant.other c.index-others-its.is in
    let apart = other_child c.args.nodes.now c.args.others.now c.requires.own_tree c.requires.other_tree c.loop-birth.own c.loop-birth.its c.index-nodes-own.result c.index-others-its.result here there
    c.in-Some.birth c.in-Some-birth.other_birth (sym c.birth.ensures ∙ c.in-Some.is) (sym c.birth-in-Some.ensures ∙ c.in-Some-birth.is) c.if-birth-other_birth.true in
    (λ no. absurd (cc), λ e. absurd (apart (c.loop-birth.invariant.same.1 e)))

pub loop-birth-smaller : goal.loop-birth-smaller
loop-birth-smaller c =
    let here = slice_get_read c.args.nodes.now (length c.args.nodes.now) c.loop-birth.own c.index-nodes-own.result refl c.loop-birth.invariant.own c.index-nodes-own.is in
    parent_of c.args.nodes.now c.requires.own_tree c.loop-birth.own c.index-nodes-own.result c.in-Some.birth here (sym c.birth.ensures ∙ c.in-Some.is)

pub loop-birth-preserved : goal.loop-birth-preserved
loop-birth-preserved c =
    let here = slice_get_read c.args.nodes.now (length c.args.nodes.now) c.loop-birth.own c.index-nodes-own.result refl c.loop-birth.invariant.own c.index-nodes-own.is in
    let there = slice_get_read c.args.others.now (length c.args.others.now) c.loop-birth.its c.index-others-its.result refl c.loop-birth.invariant.other c.index-others-its.is in
    let is = sym c.birth.ensures ∙ c.in-Some.is in
    let its = sym c.birth-in-Some.ensures ∙ c.in-Some-birth.is in
    let older = parent_of c.args.nodes.now c.requires.own_tree c.loop-birth.own c.index-nodes-own.result c.in-Some.birth here is in
    let older' = parent_of c.args.others.now c.requires.other_tree c.loop-birth.its c.index-others-its.result c.in-Some-birth.other_birth there its in
    let step = same_up c.args.nodes.now c.args.others.now c.requires.own_tree c.requires.other_tree c.loop-birth.own c.loop-birth.its c.index-nodes-own.result c.index-others-its.result here there
    c.in-Some.birth c.in-Some-birth.other_birth is its c.if-birth-other_birth.false in
    let all = c.loop-birth.invariant.same in
    record {
      own = omega (arith, older, c.loop-birth.invariant.own);
      other = omega (arith, older', c.loop-birth.invariant.other);
      same = (λ e. all.0 (step.0 e), λ e. step.1 (all.1 e));
    }

pub returns : goal.returns
returns c =
    let here = slice_get_read c.args.nodes.now (length c.args.nodes.now) c.loop-birth.own c.index-nodes-own.result refl c.loop-birth.invariant.own c.index-nodes-own.is in
    let there = slice_get_read c.args.others.now (length c.args.others.now) c.loop-birth.its c.index-others-its-2.result refl c.loop-birth.invariant.other c.index-others-its-2.is in
    let top = at_top c.args.nodes.now c.args.others.now c.requires.own_tree c.requires.other_tree c.loop-birth.own c.loop-birth.its c.index-nodes-own.result c.index-others-its-2.result here there
    c.is_none.result (sym c.birth.ensures ∙ c.in_default.is) (sym c.is_none.ensures ∙ ap is_some c.birth-2.ensures) in
    let all = c.loop-birth.invariant.same in
    (λ t. all.0 (top.0 t), λ e. top.1 (all.1 e))
