-- What the book refuses an action on the handle's own node for, where nothing is due, is answered as it is, unless the two disagree on whether the node is a member.
use Rattle.std.proofs.Common.{◌≡◌, ◌∙◌, ap, inr, refl, rules, subst, sym, true}
use Rattle.std.specs.Prelude.{Err, None, Some, option_map}
use Rattle.std.specs.Result.{result_err}
use Rattle.sysmem_alloc.specs.Book.{IsBook}
use Rattle.sysmem_tree.specs.ActionKind.{deed_of, kind_of}
use Rattle.sysmem_tree.specs.Nodes.{IsTree}
use Rattle.sysmem_tree.specs.Tree.{applied}
use Rattle.sysmem_room.specs.Agreeing.{IsOwn}
use Rattle.node_limits.specs.Limits.{is_spent}
use Rattle.sysmem_room.specs.Log.{LogFacts, shown_by}
use Rattle.sysmem_room.specs.Refusals.{IsUnforeseen, due}
use Rattle.sysmem_room.proofs.Disputing.{agrees_of, never_due, none_logged, strange_disputes}
use Rattle.node_limits.proofs.CallerLemmas.{few_logged}
use Rattle.sysmem_room.proofs.Logs.{open_for}
use Rattle.sysmem_room.proofs.room.Room.act.Goals as goal

pub returns-in-Some-due-clause-strange : goal.returns-in-Some-due-clause-strange
returns-in-Some-due-clause-strange g c = λ strange node own.
    let known = option_map (λ o. o.now) c.args.known in
    let due_now : due known c.args.log.now.path (shown_by c.args.log.now).state c.kind-kind.result ≡ Some c.in-Some-due.refusal = search rules in
    absurd (never_due known c.args.log.now.path (shown_by c.args.log.now).state c.kind-kind.result (due_now ∙ ap Some strange))

pub returns-in-Err-clause-strange : goal.returns-in-Err-clause-strange
returns-in-Err-clause-strange g c = λ strange node own.
    let known = option_map (λ o. o.now) c.args.known in
    let state = (shown_by c.args.log.now).state in
    let deed = deed_of c.args.action in
    let none_due : due known c.args.log.now.path state (kind_of deed) ≡ None = search rules in
    let refused : applied c.args.self.now.state.tree c.in-Some.node deed ≡ Err c.in-Err.refusal = search rules in
    let legal : IsBook c.args.self.now = subst IsBook c.self.view_is c.recall_legal.ensures in
    let its : IsOwn c.args.self.now c.args.log.now known c.in-Some.node = subst (λ (l : LogFacts). IsOwn c.args.self.now l known c.in-Some.node) c.log.view_is c.in-Some.ensures.own in
    strange_disputes c.args.self.now c.args.log.now.path state deed c.in-Err.refusal c.unforeseen.result known c.in-Some.node node (agrees_of c.legal_agrees.ensures c.args.self.now legal)
    c.in-Some.ensures.there its.stands.state its.agrees.verdict its.agrees.at own.agrees.at none_due refused
    (λ late. c.unforeseen.ensures.same (subst (λ k. IsUnforeseen known k c.in-Err.refusal) (sym c.kind-kind.ensures) late)) strange

pub returns-then-is_none-clause-told : goal.returns-then-is_none-clause-told
returns-then-is_none-clause-told g c = λ not_strange none.
    let known = option_map (λ o. o.now) c.args.known in
    let deed = deed_of c.args.action in
    let its : IsOwn c.args.self.now c.args.log.now known c.in-Some.node = subst (λ (l : LogFacts). IsOwn c.args.self.now l known c.in-Some.node) c.log.view_is c.in-Some.ensures.own in
    let allowed : result_err (applied c.args.self.now.state.tree c.in-Some.node deed) ≡ None = search rules in
    let spent : is_spent c.args.limits c.args.self.now.state.tree.nodes c.args.log.now.path (kind_of deed) ≡ true = search rules in
    inr (record { node = c.in-Some.node; own = its; allowed = allowed; spent = spent; named = refl })

pub push-requires-clause-few : goal.push-requires-clause-few
push-requires-clause-few g c =
    let tree : IsTree c.args.self.now.state.tree.nodes = search rules in
    few_logged c.args.self.now.state.tree.nodes c.in-Some.node (shown_by c.log.inside.account).state tree c.in-Some.ensures.there c.in-Some.ensures.own.stands.state

pub push-requires-clause-is_open : goal.push-requires-clause-is_open
push-requires-clause-is_open g c =
    let known = option_map (λ o. o.now) c.args.known in
    let state = (shown_by c.log.inside.account).state in
    let none_due : due known c.log.inside.account.path state (kind_of (deed_of c.args.action)) ≡ None = search rules in
    open_for state (kind_of (deed_of c.args.action)) (none_logged known c.log.inside.account.path state (kind_of (deed_of c.args.action)) none_due)
