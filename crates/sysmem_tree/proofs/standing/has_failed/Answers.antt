use Rattle.std.proofs.Common.{◌∙◌, ap, option_map, Bor, sym}
use Rattle.sysmem_tree.specs.Node.{NodeFacts}
use Rattle.sysmem_tree.proofs.domains.Climbing.{climb_starts, climb_passes, climb_closed, climb_lost, climb_ends, climb_goes_on}
use Rattle.sysmem_tree.proofs.standing.has_failed.Goals.{then-one-via-then-one, then-one-via-else-one+then-is_lost_by}
use Rattle.sysmem_tree.proofs.standing.has_failed.Goals as goal

pub loop-index-init : goal.loop-index-init
loop-index-init c =
    climb_starts _ c.requires.tree c.requires.rising c.args.root _ _ c.was_closed_early.ensures c.if-was_closed_early.false
    (sym c.host_of.ensures ∙ ap (option_map (λ (n : Bor NodeFacts). n.now)) c.in-Some.is)

pub returns-then-one : goal.returns-then-one
returns-then-one c =
    let so = c.loop-index.invariant in
    elim c.then-one.branch [
      | then-one-via-then-one w ↦ climb_closed _ c.requires.tree c.requires.rising c.args.root c.loop-index.index _ _ so c.loop-index-test.true c.loop-index.auto.index c.domain.ensures c.if-one-domain.true w.if-one.true
      | then-one-via-else-one+then-is_lost_by w ↦ climb_lost _ c.requires.tree c.requires.rising c.args.root c.loop-index.index _ _ so c.loop-index-test.true c.loop-index.auto.index c.domain.ensures c.if-one-domain.true
          _ w.is_lost_by.ensures w.if-is_lost_by.true
    ]

pub returns-in_default-host_of : goal.returns-in_default-host_of
returns-in_default-host_of c =
    climb_ends _ c.requires.tree c.requires.rising c.args.root c.loop-index.index _ _ c.loop-index.invariant c.loop-index-test.true c.loop-index.auto.index c.domain.ensures c.if-one-domain.true
    _ c.is_lost_by.ensures c.if-is_lost_by.false c.if-one.false
    (sym c.host_of-then-one-domain.ensures ∙ ap (option_map (λ (n : Bor NodeFacts). n.now)) c.in_default-host_of.is)

pub loop-index-preserved-then-one-domain : goal.loop-index-preserved-then-one-domain
loop-index-preserved-then-one-domain c =
    climb_goes_on _ c.requires.tree c.requires.rising c.args.root c.loop-index.index _ _ c.loop-index.invariant c.loop-index-test.true c.loop-index.auto.index c.domain.ensures c.if-one-domain.true
    _ _ c.is_lost_by.ensures c.if-is_lost_by.false c.if-one.false
    (sym c.host_of-then-one-domain.ensures ∙ ap (option_map (λ (n : Bor NodeFacts). n.now)) c.in-Some-host_of.is)

pub loop-index-preserved : goal.loop-index-preserved
loop-index-preserved c =
    climb_passes _ c.requires.tree c.requires.rising c.args.root c.loop-index.index _ _ c.loop-index.invariant c.loop-index-test.true c.loop-index.auto.index c.domain.ensures c.if-one-domain.false
