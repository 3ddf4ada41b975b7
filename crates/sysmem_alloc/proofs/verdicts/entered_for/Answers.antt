-- See Apart.antt.
use Rattle.std.proofs.Common.{◌≡◌, Some, sym, ◌∙◌, ap, subst, arith, rules, tests}
use Rattle.std.specs.Prelude.{option_map}
use Rattle.std.specs.Arc.{arc_value}
use Rattle.std.specs.List.{filter_map}
use Rattle.sysmem_alloc.specs.Decision.{DomainVerdict, answer_of, decision_for}
use Rattle.sysmem_alloc.specs.Entry.{decision_in}
use Rattle.sysmem_alloc.proofs.Apart.{found}
use Rattle.sysmem_alloc.proofs.verdicts.entered_for.Goals as goal

pub returns-then-eq : goal.returns-then-eq
returns-then-eq c =
    let d : DomainVerdict = answer_of (record { domain = c.in-Decided.decided; claim = option_map (λ shared. arc_value shared) c.in-Decided.claim }) in
    let own : decision_in c.index-history-index.result ≡ Some d = ap decision_in c.in-Decided.is in
    let is : decision_for (filter_map decision_in c.args.history.now) c.in-Decided.decided ≡ Some d = found c.args.history.now _ c.index-history-index.result d c.requires (omega (arith, c.loop-index.auto.index, c.loop-index-test.true)) c.index-history-index.is own in
    let asked = sym c.eq.ensures ∙ c.if-eq.true in
    let same : c.in-Decided.decided ≡ c.args.domain = search (rules, tests, asked) in
    sym (ap (option_map (λ (x : DomainVerdict). x.verdict)) (subst (λ k. decision_for (filter_map decision_in c.args.history.now) k ≡ Some d) same is))
