-- The sum's pairs are joined.
use Rattle.std.proofs.Common.{sym, subst}
use Rattle.search_questions.specs.Asking.{JoinsPairs}
use Rattle.search_questions.specs.declared.kept.PrefixSum.TheVariants as kept_as
use Rattle.search_questions.proofs.Keeping.{sums_joined}
use Rattle.search_questions.proofs.kept.PrefixSum.join_pairs.Goals as goal

pub returns-in-Share : goal.returns-in-Share
returns-in-Share c =
    subst (λ k. JoinsPairs c.args.above.now c.args.part.now c.args.pairs k (kept_as.Sum c.join_pairs.new.self)) (sym c.in-Sum.is)
    (subst (λ a. JoinsPairs a c.args.part.now c.args.pairs (kept_as.Sum c.in-Sum.sum) (kept_as.Sum c.join_pairs.new.self)) (sym c.in-Sum-above.is)
    (subst (λ p. JoinsPairs (kept_as.Sum c.in-Sum-above.above) p c.args.pairs (kept_as.Sum c.in-Sum.sum) (kept_as.Sum c.join_pairs.new.self)) (sym c.in-Share.is)
    (sums_joined c.args.pairs c.in-Sum-above.above c.in-Sum.sum c.join_pairs.new.self c.in-Share.share c.join_pairs.ensures.sums c.join_pairs.ensures.joined)))
