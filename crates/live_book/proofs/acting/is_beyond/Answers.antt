-- The limits refuse what the tree doesn't.
use Rattle.std.proofs.Common.{◌≡◌, ◌∙◌, None, rules, subst, sym, true}
use Rattle.std.specs.Prelude.{is_some}
use Rattle.std.specs.Result.{result_err}
use Rattle.node_limits.specs.Limits.{is_spent}
use Rattle.sysmem_tree.specs.ActionKind.{deed_of, kind_of}
use Rattle.sysmem_tree.specs.Path.{path_of}
use Rattle.sysmem_tree.specs.Tree.{applied}
use Rattle.live_book.specs.Quota.{limits_of}
use Rattle.live_book.proofs.Quotas.{beyond_limits, within_none, within_refused}
use Rattle.live_book.proofs.acting.is_beyond.Goals as goal

pub returns-in_default-clause-within : goal.returns-in_default-clause-within
returns-in_default-clause-within c = λ no.
    let none : c.args.quota.now ≡ None = search rules in
    within_none c.args.quota.now c.args.book.now.state.tree c.args.node (deed_of c.args.action.now) none

pub returns-clause-beyond : goal.returns-clause-beyond
returns-clause-beyond c = λ yes.
    let t = c.args.book.now.state.tree in
    let tested : c.is_spent.result ≡ true = search rules in
    let by_kind : is_spent (limits_of c.args.quota.now) t.nodes (path_of t.nodes c.args.node) c.kind.result ≡ true =
    subst (λ o. is_spent (limits_of o) t.nodes (path_of t.nodes c.args.node) c.kind.result ≡ true) (sym c.in-Some.is) (sym c.is_spent.ensures ∙ tested) in
    let spent : is_spent (limits_of c.args.quota.now) t.nodes (path_of t.nodes c.args.node) (kind_of (deed_of c.args.action.now)) ≡ true =
    subst (λ k. is_spent (limits_of c.args.quota.now) t.nodes (path_of t.nodes c.args.node) k ≡ true) c.kind.ensures by_kind in
    let none : result_err (applied t c.args.node (deed_of c.args.action.now)) ≡ None = search (rules, yes) in
    beyond_limits (limits_of c.args.quota.now) t c.args.node (deed_of c.args.action.now) spent none

pub returns-clause-within : goal.returns-clause-within
returns-clause-within c = λ no.
    let refused : is_some (result_err (applied c.args.book.now.state.tree c.args.node (deed_of c.args.action.now))) ≡ true = search (rules, no) in
    within_refused (limits_of c.args.quota.now) c.args.book.now.state.tree c.args.node (deed_of c.args.action.now) refused
