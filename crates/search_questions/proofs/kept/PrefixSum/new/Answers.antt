-- Those that were accepted before are nodes of the tree, each once.
use Rattle.std.proofs.Common.{◌≤◌, ◌≢◌, [], sym, ◌∙◌, ap, subst, length, arith}
use Rattle.std.specs.Prelude.{All, option_map}
use Rattle.verdict_claims.specs.Base.{IsGivenBase}
use Rattle.search_questions.specs.declared.kept.PrefixSum.TheVariants as kept_as
use Rattle.search_questions.specs.Kept.{IsKeptOf, TakesBase}
use Rattle.verdict_claims.specs.Asked.{asked_in}
use Rattle.search_questions.proofs.kept.PrefixSum.new.Goals as goal
use Rattle.sysmem_tree.proofs.CallerLemmas.{few_different, named_there}
use Rattle.sysmem_tree.specs.Nodes.{HasNode}

pub behind-requires-clause-there : goal.behind-requires-clause-there
behind-requires-clause-there c =
    let m = c.args.subject.now in
    let some = sym c.base.ensures ∙ ap (option_map (λ b. b.now)) c.in-Some.is in
    let given = subst (IsGivenBase m.platform m.nodes m.domain) some c.recall.ensures.base in
    subst (λ nodes. All (HasNode nodes) c.accepted.result.now) (sym c.tree.ensures)
    (subst (All (HasNode m.nodes)) (sym c.accepted.ensures) (named_there m.nodes (λ n. n.domain ≢ m.domain) c.in-Some.base.now.accepted given.1.elsewhere))

pub behind-requires-clause-few : goal.behind-requires-clause-few
behind-requires-clause-few c =
    let m = c.args.subject.now in
    let some = sym c.base.ensures ∙ ap (option_map (λ b. b.now)) c.in-Some.is in
    let given = subst (IsGivenBase m.platform m.nodes m.domain) some c.recall.ensures.base in
    let few = few_different c.in-Some.base.now.accepted _ given.1.once (named_there m.nodes (λ n. n.domain ≢ m.domain) c.in-Some.base.now.accepted given.1.elsewhere) in
    subst (λ xs. length xs ≤ 128) (sym c.accepted.ensures) (omega (arith, few, c.recall.ensures.tree.few))

pub returns-in-Some-clause-kept : goal.returns-in-Some-clause-kept
returns-in-Some-clause-kept c =
    let m = c.args.subject.now in
    let base = c.in-Some.base.now in
    subst (λ o. IsKeptOf m.platform m.nodes o (kept_as.OnBase c.behind.result) []) (sym (ap (option_map (λ b. b.now)) c.in-Some.is) ∙ c.base.ensures)
    (subst (λ nodes. TakesBase m.platform base.settings (asked_in nodes base.accepted) c.behind.result []) c.tree.ensures
    (subst (λ xs. TakesBase m.platform base.settings (asked_in c.tree.result.now.nodes xs) c.behind.result []) c.accepted.ensures (c.behind.ensures m.platform base.settings)))
