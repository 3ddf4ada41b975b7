-- One path more is the same.
use Rattle.std.proofs.Common.{◌≡◌, sym, ◌∙◌}
use Rattle.std.proofs.lemmas.Bool.{not-false}
use Rattle.std.specs.Cmp.Lexicographic.{same_text}
use Rattle.verdict_claims.proofs.PathLists.{one_same}
use Rattle.verdict_claims.proofs.path_list.are_same.Goals as goal

pub loop-path-preserved : goal.loop-path-preserved
loop-path-preserved c =
    let both : c.ordinals.result.now ≡ c.ordinals-in-loop-path.result.now = same_text _ _ (sym (not-false _ (sym c.ne.ensures ∙ c.if-ne.false))) in
    let same : c.path-item.result ≡ c.in-Some.other.now = sym c.ordinals.ensures ∙ (both ∙ c.ordinals-in-loop-path.ensures) in
    one_same c.args.paths.now c.loop-path.left.now c.in-Some.behind.now c.args.others.now c.loop-path.path-index c.path-item.result c.in-Some.other.now
    c.loop-path-test.true c.path-item.is same c.in-Some.ensures.cases.0 c.loop-path.invariant
