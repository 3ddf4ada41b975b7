-- The count of a child of the root is how many nodes are below it.
use Rattle.std.proofs.Common.{◌≡◌, ◌≢◌, ◌∙◌, ◌<◌, Some, ap, arith, false, get_or, nat_le, rules, subst, sym, true}
use Rattle.std.specs.Prelude.{is_some}
use Rattle.sysmem_tree.specs.Domain.{TreeFacts}
use Rattle.sysmem_tree.specs.Nodes.{IsTree}
use Rattle.sysmem_tree.specs.Path.{path_of}
use Rattle.sysmem_tree.specs.Table.{makes}
use Rattle.node_limits.proofs.CallerLemmas.{unspent_by}
use Rattle.live_book.specs.Quota.{limits_of}
use Rattle.live_book.proofs.Quotas.{few_top, spent_is}
use Rattle.live_book.proofs.quota.is_spent.Goals as goal

pub returns-then-is_none : goal.returns-then-is_none
returns-then-is_none c =
    let none : is_some (makes c.args.kind) ≡ false = search rules in
    sym (unspent_by (limits_of (Some c.args.quota.now)) c.args.book.now.state.tree.nodes (path_of c.args.book.now.state.tree.nodes c.args.node) c.args.kind none)

pub below-requires : goal.below-requires
below-requires c =
    let tree : IsTree c.args.book.now.state.tree.nodes = subst (λ (t : TreeFacts). IsTree t.nodes) c.tree-tree.ensures c.recall_sound.ensures.tree in
    let other : c.args.node ≢ 0 = λ root. absurd (omega (arith, c.number_of-number.ensures.number, c.if-number-eq0.false, root)) in
    let top : c.top_of.result ≡ get_or c.args.quota.now.tops c.args.node 0 = c.top_of.ensures ∙ ap (λ i. get_or c.args.quota.now.tops i 0) c.number_of-number.ensures.number in
    subst (λ x. x < 128) (sym top) (few_top c.one_path.ensures c.args.book.now.state.tree.nodes c.args.quota.now c.args.node tree c.requires.quota c.requires.there other)

pub returns : goal.returns
returns c =
    let tree : IsTree c.args.book.now.state.tree.nodes = subst (λ (t : TreeFacts). IsTree t.nodes) c.tree-tree.ensures c.recall_sound.ensures.tree in
    let other : c.args.node ≢ 0 = λ root. absurd (omega (arith, c.number_of-number.ensures.number, c.if-number-eq0.false, root)) in
    let top : c.top_of.result ≡ get_or c.args.quota.now.tops c.args.node 0 = c.top_of.ensures ∙ ap (λ i. get_or c.args.quota.now.tops i 0) c.number_of-number.ensures.number in
    let made : is_some (makes c.args.kind) ≡ true = search rules in
    ap (nat_le c.args.quota.now.most) (c.below.ensures ∙ ap (λ x. get_or c.args.quota.now.offspring.counts x 0) top)
    ∙ spent_is c.one_path.ensures c.args.book.now.state.tree.nodes c.args.quota.now c.args.node c.args.kind tree c.requires.quota c.requires.there other made
