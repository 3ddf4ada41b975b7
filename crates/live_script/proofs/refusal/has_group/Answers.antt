-- One node after the other.
use Rattle.std.proofs.Common.{◌≤◌, ◌∙◌, ap, arith, length, sym}
use Rattle.std.specs.List.{list_any}
use Rattle.std.proofs.lemmas.List.{take_all}
use Rattle.live_script.specs.Refusing.{is_group_of}
use Rattle.live_script.proofs.Refusing.{none_yet, one_is}
use Rattle.live_script.proofs.refusal.has_group.Goals as goal

pub loop-number-preserved : goal.loop-number-preserved
loop-number-preserved c = none_yet (is_group_of c.args.domain) c.args.tree.now.nodes c.loop-number.number (sym c.is_group_at.ensures ∙ c.if-is_group_at.false) c.loop-number.invariant

pub returns-then-is_group_at : goal.returns-then-is_group_at
returns-then-is_group_at c = sym (one_is (is_group_of c.args.domain) c.args.tree.now.nodes c.loop-number.number (sym c.is_group_at.ensures ∙ c.if-is_group_at.true))

pub returns : goal.returns
returns c =
    let nodes = c.args.tree.now.nodes in
    let all : length nodes ≤ c.loop-number.number = omega (arith, c.loop-number-test.false, c.node_count-number-end.ensures.number) in
    sym c.loop-number.invariant ∙ ap (list_any (is_group_of c.args.domain)) (take_all c.loop-number.number nodes all)
