-- One domain after the other.
use Rattle.std.proofs.Common.{◌<◌, ◌≤◌, ◌&&◌, not, length, refl, sym, ◌∙◌, arith}
use Rattle.sysmem_alloc.specs.Sound.{roots_of}
use Rattle.sysmem_alloc.proofs.CallerLemmas.{many_roots}
use Rattle.sysmem_tree.specs.Domain.{has_failed}
use Rattle.sysmem_tree.specs.Path.{path_of}
use Rattle.script_replay.specs.Events.{becomes, events_of, failed}
use Rattle.script_replay.proofs.Failures.{unmarked_is}
use Rattle.script_replay.proofs.Walking.{all_added, passes_by, adds_one}
use Rattle.script_replay.proofs.failing.add_failed.Goals as goal

pub loop-index-init : goal.loop-index-init
loop-index-init c = λ old are. refl

pub loop-index-preserved-in_default : goal.loop-index-preserved-in_default
loop-index-preserved-in_default c = λ old are.
    let less : c.loop-index.index < length (roots_of c.args.tree.now) = omega (arith, c.loop-index-test.true, c.domain_count-index-end.ensures.number, many_roots c.args.tree.now) in
    passes_by (λ r. becomes (path_of c.args.tree.now.nodes r) failed) (λ r. has_failed c.args.tree.now r && not (has_failed old r)) (roots_of c.args.tree.now) c.loop-index.index _ _ less
    (unmarked_is old c.args.tree.now c.args.marks.now c.loop-index.index are ∙ (sym c.newly_failed_at.ensures.domain ∙ c.in_default.is)) (c.loop-index.invariant old are)

pub loop-index-preserved : goal.loop-index-preserved
loop-index-preserved c = λ old are.
    let less : c.loop-index.index < length (roots_of c.args.tree.now) = omega (arith, c.loop-index-test.true, c.domain_count-index-end.ensures.number, many_roots c.args.tree.now) in
    adds_one (λ r. becomes (path_of c.args.tree.now.nodes r) failed) (λ r. has_failed c.args.tree.now r && not (has_failed old r)) (roots_of c.args.tree.now) c.loop-index.index c.in-Some.domain (events_of c.loop-index.events) (events_of c.add_domain.new.self) _ less
    (unmarked_is old c.args.tree.now c.args.marks.now c.loop-index.index are ∙ (sym c.newly_failed_at.ensures.domain ∙ c.in-Some.is)) c.in_ok-add_domain.ensures (c.loop-index.invariant old are)

pub returns : goal.returns
returns c = λ old are.
    let past : length (roots_of c.args.tree.now) ≤ c.loop-index.index = omega (arith, c.loop-index-test.false, c.domain_count-index-end.ensures.number, many_roots c.args.tree.now) in
    all_added (λ r. becomes (path_of c.args.tree.now.nodes r) failed) (λ r. has_failed c.args.tree.now r && not (has_failed old r)) (roots_of c.args.tree.now) c.loop-index.index _ _ past (c.loop-index.invariant old are)
