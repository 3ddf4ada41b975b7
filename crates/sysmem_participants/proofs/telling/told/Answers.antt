use Rattle.std.proofs.Common.{◌≡◌, rules, tests, subst, sym}
use Rattle.std.specs.Prelude.{IfErr}
use Rattle.sysmem_room.specs.declared.outcome.Outcome.TheVariants as outcomes
use Rattle.sysmem_room.specs.Log.{shown_by}
use Rattle.sysmem_participants.specs.Told.{IsTold}
use Rattle.sysmem_participants.proofs.Ruled.{ruled, shown_at, refused_for}
use Rattle.sysmem_participants.proofs.telling.told.Goals as goal

pub returns-clause-shown : goal.returns-clause-shown
returns-clause-shown l c =
    let same : c.in-Decided.ruling.frozen.platform ≡ c.args.platform.now = search (rules, tests) in
    shown_at c.shown.result (λ v. v.ruling.now) c.in-Decided.ruling c.args.platform.now c.args.log.now.path (shown_by c.args.log.now).constraints
    (ruled c.in-Decided.ruling c.claim.result.now c.claim.ensures.claim c.claim.ensures.right) same c.shown.ensures.same c.shown.ensures.chosen c.shown.ensures.own

pub returns-clause-told : goal.returns-clause-told
returns-clause-told l c =
    let same : c.in-Decided.ruling.frozen.platform ≡ c.args.platform.now = search (rules, tests) in
    let is : c.args.outcome.now ≡ outcomes.Decided c.in-Decided.ruling = search (rules, tests) in
    subst (λ o. IfErr c.shown.result (IsTold c.args.platform.now c.args.log.now.path (shown_by c.args.log.now).constraints o)) (sym is)
    (refused_for c.shown.result c.in-Decided.ruling c.args.platform.now c.args.log.now.path (shown_by c.args.log.now).constraints same c.shown.ensures.told)
