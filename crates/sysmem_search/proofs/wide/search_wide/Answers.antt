-- The verdict is that on what workers found together.
use Rattle.std.proofs.Common.{sym, subst}
use Rattle.std.specs.Prelude.{IfSome, option_map}
use Rattle.verdict_claims.specs.Base.{terms_of}
use Rattle.verdict_claims.specs.Matter.{Matter}
use Rattle.verdict_claims.specs.Verdict.{IsOptimalIn}
use Rattle.sysmem_search.specs.Wide.{IsFirstOfAll}
use Rattle.sysmem_search.specs.declared.wide.Share.{Share}
use Rattle.sysmem_search.proofs.Sharing.{optimal_first}
use Rattle.sysmem_tree.specs.Shape.{shape_of}
use Rattle.sysmem_search.proofs.wide.search_wide.Goals as goal

pub returns-clause-optimal : goal.returns-clause-optimal
returns-clause-optimal g c =
    let base = option_map (λ b. b.now) c.args.base in
    let m : Matter = record { platform = c.args.platform.now; nodes = c.args.tree.now.nodes; domain = c.args.domain; base = base } in
    let first : IsFirstOfAll c.new-subject.result c.in-Some.all.chosen = subst (λ o. IfSome o (λ (all : Share). IsFirstOfAll c.new-subject.result all.chosen)) c.in-Some.is c.in_ok-all.ensures in
    subst (IsOptimalIn c.args.platform.now c.args.tree.now.nodes c.args.domain base) (sym c.into_found.ensures)
    (optimal_first m c.count_selections.result c.in-Some.all.chosen c.count_selections.ensures c.if-count_selections-gt-MOST_SELECTIONS.false
    (subst (λ (x : Matter). IsFirstOfAll x c.in-Some.all.chosen) c.new-subject.ensures first))

pub returns-clause-same : goal.returns-clause-same
returns-clause-same g c = λ v best.
    let base = option_map (λ b. b.now) c.args.base in
    c.one_answer.ensures c.args.platform.now (option_map (terms_of c.args.tree.now.nodes) base) (shape_of c.args.tree.now.nodes c.args.domain) c.into_found.result.verdict v
    (returns-clause-optimal g c) best
