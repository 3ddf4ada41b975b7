-- What was found among all choices for the first group.
use Rattle.std.proofs.Common.{◌≡◌, ◌<◌, ◌↔◌, Some, length, subst, arith}
use Rattle.std.specs.Prelude.{IfSome, IsTrue, option_map}
use Rattle.verdict_claims.specs.Matter.{forest}
use Rattle.search_questions.specs.Live.{SomeMeet}
use Rattle.search_questions.specs.Question.{MeetsSoFar}
use Rattle.search_questions.specs.Standing.{Standing}
use Rattle.sysmem_search.specs.Wide.{IsFirstIn, share_start}
use Rattle.sysmem_search.proofs.Sharing.{prefix_of, first_of_all, cut_at_once, share_none, share_all}
use Rattle.sysmem_tree.specs.Forest.{choices}
use Rattle.sysmem_tree.specs.Selection.{after}
use Rattle.sysmem_search.proofs.wide.search_together.Goals as goal

pub returns-then-not-is_met : goal.returns-then-not-is_met
returns-then-not-is_met g c = cut_at_once c.args.subject.now c.is_met.result c.cuts_lose_nothing.ensures c.if-not-is_met.true
    (subst (λ (s : Standing). IfSome (after (forest s.matter) s.choices) (λ d. IsTrue c.is_met.result ↔ SomeMeet (MeetsSoFar s.matter) d)) c.in_ok-question.ensures c.is_met.ensures.met)

pub search_shares-requires-clause-prefixes : goal.search_shares-requires-clause-prefixes
search_shares-requires-clause-prefixes g c κs within = λ i less. prefix_of c.args.subject.now c.in-Some.many i
    (subst (λ (s : Standing). IfSome (after (forest s.matter) s.choices) (λ d. option_map length (choices d) ≡ Some c.in-Some.many)) c.in_ok-question.ensures c.in-Some.ensures.number) less

pub returns : goal.returns
returns g c =
    let m = c.args.subject.now in
    let busy = c.max-busy.result in
    let many = c.in-Some.many in
    let some : 0 < busy = omega (arith, c.max-busy.ensures) in
    let found = c.in_ok-all.ensures m (share_start busy many) c.in_ok-search_shares.ensures.each in
    let whole = subst (λ k. IsFirstIn m k (share_start busy many busy) c.in_ok-all.all.chosen) (share_none busy many)
    (subst (λ k. IsFirstIn m (share_start busy many 0) (share_start busy many k) c.in_ok-all.all.chosen) c.in_ok-search_shares.ensures.len found) in
    first_of_all m many c.in_ok-all.all.chosen
    (subst (λ (s : Standing). IfSome (after (forest s.matter) s.choices) (λ d. option_map length (choices d) ≡ Some many)) c.in_ok-question.ensures c.in-Some.ensures.number)
    (subst (λ k. IsFirstIn m 0 k c.in_ok-all.all.chosen) (share_all busy many some) whole)
