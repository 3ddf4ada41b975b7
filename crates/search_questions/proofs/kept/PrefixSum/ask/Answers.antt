-- A sum tells it of its participants; with a base its settings are the answer, or there is none.
use Rattle.std.proofs.Common.{sym, ◌∙◌, ap, subst}
use Rattle.std.specs.Prelude.{option_map}
use Rattle.search_questions.specs.Kept.{IsKeptFor}
use Rattle.search_questions.proofs.Keeping.{base_best_as, base_none_as, sum_told}
use Rattle.sysmem_merge.specs.declared.asked.Asked.TheVariants as asked_as
use Rattle.verdict_claims.specs.Members.{participants}
use Rattle.search_questions.proofs.kept.PrefixSum.ask.Goals as goal

pub returns-in-Met-clause-known : goal.returns-in-Met-clause-known
returns-in-Met-clause-known c = λ ms keeps. sum_told c.args.whole c.args.subject.now ms c.args.self.now c.in-Sum.sum c.platform.result.now c.ask.result (asked_as.Met c.in-Met.settings)
    c.platform.ensures c.in-Sum.is c.in-Met.is c.ask.ensures keeps

pub returns-in-Unmet-clause-known : goal.returns-in-Unmet-clause-known
returns-in-Unmet-clause-known c = λ ms keeps. sum_told c.args.whole c.args.subject.now ms c.args.self.now c.in-Sum.sum c.platform.result.now c.ask.result (asked_as.Unmet c.in-Unmet.field-0)
    c.platform.ensures c.in-Sum.is c.in-Unmet.is c.ask.ensures keeps

pub returns-in-Open-clause-open : goal.returns-in-Open-clause-open
returns-in-Open-clause-open c = λ ms keeps. sum_told c.args.whole c.args.subject.now ms c.args.self.now c.in-Sum.sum c.platform.result.now c.ask.result (asked_as.Open c.in-Open.pair)
    c.platform.ensures c.in-Sum.is c.in-Open.is c.ask.ensures keeps

pub returns-then-suits-clause-known : goal.returns-then-suits-clause-known
returns-then-suits-clause-known c = λ ms keeps.
    let m = c.args.subject.now in
    let some = sym c.base.ensures ∙ ap (option_map (λ b. b.now)) c.in-Some.is in
    base_best_as m ms c.in-Some.base.now some c.settings-settings.result c.settings-settings.ensures c.in-OnBase.kept c.suits.result c.suits.ensures
    (subst (λ k. IsKeptFor m k (participants ms)) c.in-OnBase.is keeps) c.args.whole c.if-suits.true

pub returns-else-suits-clause-known : goal.returns-else-suits-clause-known
returns-else-suits-clause-known c = λ ms keeps.
    let m = c.args.subject.now in
    let some = sym c.base.ensures ∙ ap (option_map (λ b. b.now)) c.in-Some.is in
    base_none_as m ms c.in-Some.base.now some c.settings-settings.result c.settings-settings.ensures c.in-OnBase.kept c.suits.result c.suits.ensures
    (subst (λ k. IsKeptFor m k (participants ms)) c.in-OnBase.is keeps) c.args.whole c.if-suits.false
