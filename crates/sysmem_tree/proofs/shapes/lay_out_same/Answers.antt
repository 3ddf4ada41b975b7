-- See layouts/LaidSame.antt.
use Rattle.std.proofs.Common.{◌≡◌, ◌∙◌, ℕ, refl, sym, ap, arith, map}
use Rattle.sysmem_tree.specs.Forest.{Forest}
use Rattle.sysmem_tree.specs.Members.{shown_at}
use Rattle.sysmem_tree.proofs.layouts.GroupWalks.{place_there}
use Rattle.sysmem_tree.proofs.layouts.LaidSame.{same_on, differ_here, none_left, other_start}
use Rattle.sysmem_tree.proofs.layouts.Marking.{nowhere}
use Rattle.sysmem_tree.proofs.layouts.Picking.{all_of_layout}
use Rattle.sysmem_tree.proofs.shapes.lay_out_same.Goals as goal

pub returns-then-layout-other : goal.returns-then-layout-other
returns-then-layout-other c = λ d e laid its. (
  λ no. absurd (cc),
  λ same. absurd (other_start c.args.nodes.now c.args.others.now c.args.layout.now.places c.args.other.now.places (omega arith) (omega arith) c.args.layout.now.start c.args.other.now.start
      c.requires.own_start c.requires.other_start c.if-layout-other.true
      (ap (map (shown_at c.args.nodes.now)) (all_of_layout c.args.layout.now d (omega arith) laid) ∙ (same ∙ sym (ap (map (shown_at c.args.others.now)) (all_of_layout c.args.other.now e (omega arith) its))))),
)

pub show_same-requires-clause-own_there : goal.show_same-requires-clause-own_there
show_same-requires-clause-own_there c = place_there c.args.layout.now.places c.loop-at.at nowhere _ (omega (arith, c.loop-at-test.true)) (omega arith) c.requires.own_numbers

pub show_same-requires-clause-other_there : goal.show_same-requires-clause-other_there
show_same-requires-clause-other_there c = place_there c.args.other.now.places c.loop-at.at nowhere _ (omega (arith, c.loop-at-test.true)) (omega arith) c.requires.other_numbers

pub returns-then-not-show_same : goal.returns-then-not-show_same
returns-then-not-show_same c = λ d e laid its. (
  λ no. absurd (cc),
  λ same. absurd (differ_here c.args.nodes.now c.args.others.now c.args.layout.now.places c.args.other.now.places (omega arith) (omega arith) c.loop-at.at nowhere nowhere (omega (arith, c.loop-at-test.true))
      (λ e. let yes = c.show_same.ensures.1 e in let no = c.if-not-show_same.true in cc)
      (c.loop-at.invariant.1 (ap (map (shown_at c.args.nodes.now)) (all_of_layout c.args.layout.now d (omega arith) laid) ∙ (same ∙ sym (ap (map (shown_at c.args.others.now)) (all_of_layout c.args.other.now e (omega arith) its)))))),
)

pub returns : goal.returns
returns c = λ d e laid its. (
  λ yes. sym (ap (map (shown_at c.args.nodes.now)) (all_of_layout c.args.layout.now d (omega arith) laid))
      ∙ (c.loop-at.invariant.0 (none_left c.args.nodes.now c.args.others.now c.args.layout.now.places c.args.other.now.places (omega arith) (omega arith) c.loop-at.at (omega (arith, c.loop-at-test.false)))
      ∙ ap (map (shown_at c.args.others.now)) (all_of_layout c.args.other.now e (omega arith) its)),
  λ same. refl,
)
