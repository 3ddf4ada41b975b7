-- One node before those that were passed.
use Rattle.std.proofs.Common.{◌≡◌, ◌<◌, ◌+◌, ◌-◌, length, refl, sym, ◌∙◌, subst, arith}
use Rattle.std.proofs.lemmas.List.{length-set}
use Rattle.std.proofs.lemmas.Option.{slice_get_read}
use Rattle.sysmem_tree.specs.Links.{AreLinks}
use Rattle.sysmem_tree.proofs.links.Links.new.Goals as goal
use Rattle.sysmem_tree.proofs.forests.Linking.{none_linked, parent_before, past_kid, past_other}

pub loop-number-init : goal.loop-number-init
loop-number-init c = (c.requires.there, omega arith, refl, none_linked c.args.nodes.now c.args.root)

pub offset_bounds-links-parent : goal.offset_bounds-links-parent
offset_bounds-links-parent c =
    let (less, most, long, so_far) = c.loop-number.invariant in
    let within : c.loop-number.number - 1 < length c.args.nodes.now = omega (arith, less, most) in
    let there = slice_get_read c.args.nodes.now (length c.args.nodes.now) (c.loop-number.number - 1) c.index-nodes-number.result refl within c.index-nodes-number.is in
    let before = parent_before c.args.nodes.now c.requires.tree c.args.root (c.loop-number.number - 1) c.in-Some.parent c.index-nodes-number.result there (sym c.parent_in.ensures ∙ c.in-Some.is) in
    omega (arith, before, within, c.requires.tree.few)

pub bounds-links-parent : goal.bounds-links-parent
bounds-links-parent c =
    let (less, most, long, so_far) = c.loop-number.invariant in
    let within : c.loop-number.number - 1 < length c.args.nodes.now = omega (arith, less, most) in
    let there = slice_get_read c.args.nodes.now (length c.args.nodes.now) (c.loop-number.number - 1) c.index-nodes-number.result refl within c.index-nodes-number.is in
    let before = parent_before c.args.nodes.now c.requires.tree c.args.root (c.loop-number.number - 1) c.in-Some.parent c.index-nodes-number.result there (sym c.parent_in.ensures ∙ c.in-Some.is) in
    omega (arith, before, within, c.requires.tree.few)

pub offset_bounds-links-parent-in-Some : goal.offset_bounds-links-parent-in-Some
offset_bounds-links-parent-in-Some c =
    let (less, most, long, so_far) = c.loop-number.invariant in
    let within : c.loop-number.number - 1 < length c.args.nodes.now = omega (arith, less, most) in
    let there = slice_get_read c.args.nodes.now (length c.args.nodes.now) (c.loop-number.number - 1) c.index-nodes-number.result refl within c.index-nodes-number.is in
    let before = parent_before c.args.nodes.now c.requires.tree c.args.root (c.loop-number.number - 1) c.in-Some.parent c.index-nodes-number.result there (sym c.parent_in.ensures ∙ c.in-Some.is) in
    omega (arith, before, within, c.requires.tree.few)

pub bounds-links-parent-in-Some : goal.bounds-links-parent-in-Some
bounds-links-parent-in-Some c =
    let (less, most, long, so_far) = c.loop-number.invariant in
    let within : c.loop-number.number - 1 < length c.args.nodes.now = omega (arith, less, most) in
    let there = slice_get_read c.args.nodes.now (length c.args.nodes.now) (c.loop-number.number - 1) c.index-nodes-number.result refl within c.index-nodes-number.is in
    let before = parent_before c.args.nodes.now c.requires.tree c.args.root (c.loop-number.number - 1) c.in-Some.parent c.index-nodes-number.result there (sym c.parent_in.ensures ∙ c.in-Some.is) in
    omega (arith, before, within, c.requires.tree.few)

pub loop-number-preserved-in-Some : goal.loop-number-preserved-in-Some
loop-number-preserved-in-Some c =
    let (less, most, long, so_far) = c.loop-number.invariant in
    let within : c.loop-number.number - 1 < length c.args.nodes.now = omega (arith, less, most) in
    let there = slice_get_read c.args.nodes.now (length c.args.nodes.now) (c.loop-number.number - 1) c.index-nodes-number.result refl within c.index-nodes-number.is in
    let some = sym c.parent_in.ensures ∙ c.in-Some.is in
    let before = parent_before c.args.nodes.now c.requires.tree c.args.root (c.loop-number.number - 1) c.in-Some.parent c.index-nodes-number.result there some in
    let on : c.loop-number.number ≡ c.loop-number.number - 1 + 1 = omega (arith, less) in (
      omega (arith, less, c.loop-number-test.true),
      omega (arith, most),
      length-set c.loop-number.links.next (c.loop-number.number - 1) _ ∙ long,
      past_kid c.args.nodes.now c.args.root (c.loop-number.number - 1) c.index-nodes-number.result there c.loop-number.links
          (subst (λ i. AreLinks c.args.nodes.now c.args.root i c.loop-number.links) on so_far) c.in-Some.parent some
          (omega (arith, before, within, c.requires.tree.few)) (omega (arith, within, c.requires.tree.few, long)),
    )

pub loop-number-preserved : goal.loop-number-preserved
loop-number-preserved c =
    let (less, most, long, so_far) = c.loop-number.invariant in
    let within : c.loop-number.number - 1 < length c.args.nodes.now = omega (arith, less, most) in
    let there = slice_get_read c.args.nodes.now (length c.args.nodes.now) (c.loop-number.number - 1) c.index-nodes-number.result refl within c.index-nodes-number.is in
    let on : c.loop-number.number ≡ c.loop-number.number - 1 + 1 = omega (arith, less) in (
      omega (arith, less, c.loop-number-test.true),
      omega (arith, most),
      long,
      past_other c.args.nodes.now c.args.root (c.loop-number.number - 1) c.index-nodes-number.result there c.loop-number.links
          (subst (λ i. AreLinks c.args.nodes.now c.args.root i c.loop-number.links) on so_far) (sym c.parent_in.ensures ∙ c.in_default.is),
    )
