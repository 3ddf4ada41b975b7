-- The domain's root in front of all that is below it.
use Rattle.std.proofs.Common.{◌≡◌, ◌<◌, suc, ◌-◌, false, length, None, refl, arith}
use Rattle.std.specs.Prelude.{slice_index_or}
use Rattle.sysmem_tree.specs.Forest.{Empty}
use Rattle.sysmem_tree.specs.Links.{siblings_from}
use Rattle.sysmem_tree.proofs.layout.Layout.new.Goals as goal
use Rattle.sysmem_tree.proofs.layouts.Layouts.{kid_laid_as}
use Rattle.sysmem_tree.proofs.forests.Linking.{starts_at}
use Rattle.sysmem_tree.proofs.layouts.Marking.{hold_first, hold_written}

pub lay-kids-requires-clause-links : goal.lay-kids-requires-clause-links
lay-kids-requires-clause-links c =
    let at = starts_at c.args.nodes.now c.new-links.result c.args.root c.requires.tree c.requires.there c.new-links.ensures in
    (c.args.root, c.new-links.ensures, at.below)

pub lay-kids-requires-clause-room : goal.lay-kids-requires-clause-room
lay-kids-requires-clause-room c =
    let at = starts_at c.args.nodes.now c.new-links.result c.args.root c.requires.tree c.requires.there c.new-links.ensures in omega (arith, at.small)

pub overflow_sub-start : goal.overflow_sub-start
overflow_sub-start c =
    let at = starts_at c.args.nodes.now c.new-links.result c.args.root c.requires.tree c.requires.there c.new-links.ensures in
    let long = c.lay-kids.ensures.laid.long in omega (arith, at.small, long)

pub returns-clause-layout : goal.returns-clause-layout
returns-clause-layout c =
    let at = starts_at c.args.nodes.now c.new-links.result c.args.root c.requires.tree c.requires.there c.new-links.ensures in
    let long = c.lay-kids.ensures.laid.long in
    let before : suc (c.lay-kids.result.start - 1) ≡ c.lay-kids.result.start = omega (arith, at.small, long) in
    let laid = kid_laid_as false c.lay-kids.new.places c.lay-kids.new.places c.args.root 128 None (siblings_from c.args.nodes.now (slice_index_or c.new-links.result.first c.args.root None)) Empty
    c.lay-kids.result (record { start = 128; children = 0; next = None })
    (record { spots = Empty; numbers = refl; starts = refl; long = refl; many = refl; few = omega arith; goes_on = refl; places_laid = tt })
    (λ k p. refl) (c.lay-kids.result.start - 1) before (omega (arith, before, long, c.lay-kids.array_long))
    c.index-nodes-root.result.state.kind c.has_alternatives-is_group.result c.has_alternatives-is_group.ensures c.either-next.result c.either-next.result c.either-next.ensures refl
    _ (at.tree c.index-nodes-root.result c.index-nodes-root.is) c.lay-kids.ensures.laid in
    record {
      spots = laid.spots;
      numbers = laid.numbers;
      starts = laid.starts;
      within = omega (arith, before, long);
      laid = laid.places_laid;
    }

pub returns-clause-numbers : goal.returns-clause-numbers
returns-clause-numbers c =
    let some : 0 < length c.args.nodes.now = omega (arith, c.requires.there) in
    hold_written (length c.args.nodes.now) c.lay-kids.new.places (c.lay-kids.result.start - 1) _ (c.lay-kids.ensures.numbers (hold_first (length c.args.nodes.now) some 128)) c.requires.there
