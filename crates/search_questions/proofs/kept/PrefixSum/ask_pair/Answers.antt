-- The sum is looked at.
use Rattle.std.proofs.Common.{sym, subst}
use Rattle.search_questions.specs.Asking.{LooksAt}
use Rattle.search_questions.specs.declared.kept.PrefixSum.TheVariants as kept_as
use Rattle.search_questions.proofs.Keeping.{SumLooks, sum_looked}
use Rattle.search_questions.proofs.kept.PrefixSum.ask_pair.Goals as goal

pub returns-in-Sum : goal.returns-in-Sum
returns-in-Sum c =
    let looks = subst (λ p. SumLooks p c.args.index c.args.whole c.in-Sum.sum c.ask_pair.new.self c.ask_pair.result) c.platform.ensures
    (λ ps sums has open'. (c.ask_pair.ensures.best ps sums has open', c.ask_pair.ensures.none ps sums has open', c.ask_pair.ensures.sums ps sums has open')) in
    subst (λ k. LooksAt c.args.index c.args.whole c.args.subject.now k (kept_as.Sum c.ask_pair.new.self) c.ask_pair.result) (sym c.in-Sum.is)
    (sum_looked c.args.index c.args.whole c.args.subject.now c.in-Sum.sum c.ask_pair.new.self c.ask_pair.result looks c.ask_pair.ensures.same)
