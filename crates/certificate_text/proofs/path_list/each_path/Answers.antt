-- One path more.
use Rattle.std.proofs.Common.{◌++◌, [], ◌∷◌, ap, ◌∙◌}
use Rattle.certificate_text.specs.Said.{node_said}
use Rattle.certificate_text.proofs.EachPath.{one_said}
use Rattle.certificate_text.proofs.path_list.each_path.Goals as goal

pub loop-value-preserved : goal.loop-value-preserved
loop-value-preserved c =
    one_said node_said c.args.values.now c.loop-value.value-index c.value-item.result c.loop-value.paths _ _ _ c.loop-value-test.true c.value-item.is c.in_ok-read_path.ensures
    (c.in_ok-put.ensures.ok ∙ ap (λ p. c.loop-value.paths ++ p ∷ []) c.as_slice.ensures.value) c.loop-value.invariant
