-- A history stays eager where an action is made, and what is counted true.
use Rattle.std.proofs.Common.{◌≡◌, ◌∙◌, Err, None, Ok, subst, sym}
use Rattle.node_limits.specs.Limits.{applied_within}
use Rattle.sysmem_alloc.specs.State.{next_ready}
use Rattle.sysmem_tree.specs.ActionKind.{deed_of}
use Rattle.live_book.specs.Collection.{CollectionFacts}
use Rattle.live_book.proofs.Eager.{acted_by, none_waits}
use Rattle.live_book.proofs.acting.act.Goals as goal
use Rattle.live_book.proofs.acting.act.Goals.{in-Ok, in-Err}

pub invariant_of-collection : goal.invariant_of-collection
invariant_of-collection c =
    let (eager, _) = c.collection.invariant in (
      acted_by c.act_within.result c.collection.inside.book c.act_within.new.book c.args.number (deed_of c.args.action) c.recall_legal.ensures eager
          (sym c.is_waited_for.ensures ∙ c.if-is_waited_for.false) c.act_within.ensures.entered c.act_within.ensures.unchanged,
      c.act_within.ensures.counted,
    )

pub returns-clause-accepted : goal.returns-clause-accepted
returns-clause-accepted c = elim c.match-act_within.branch [
  | in-Ok w ↦ rw w.result-is (subst (λ (x : CollectionFacts). applied_within x.limits x.book.state.tree c.args.number (deed_of c.args.action) ≡ Ok (record { tree = c.act_within.new.book.state.tree; node = w.in-Ok.accepted.node }))
      c.collection.view_is w.in-Ok.ensures.accepted)
  | in-Err w ↦ rw w.result-is tt
]

pub returns-clause-denied : goal.returns-clause-denied
returns-clause-denied c = elim c.match-act_within.branch [
  | in-Ok w ↦ rw w.result-is tt
  | in-Err w ↦ (
      let idle : next_ready c.args.collection.now.book.state ≡ None =
      subst (λ (x : CollectionFacts). next_ready x.book.state ≡ None) c.collection.view_is (none_waits (next_ready c.collection.inside.book.state) (sym c.is_waited_for.ensures ∙ c.if-is_waited_for.false)) in
      let refused : applied_within c.args.collection.now.limits c.args.collection.now.book.state.tree c.args.number (deed_of c.args.action) ≡ Err w.in-Err.refusal =
      subst (λ (x : CollectionFacts). applied_within x.limits x.book.state.tree c.args.number (deed_of c.args.action) ≡ Err w.in-Err.refusal) c.collection.view_is w.in-Err.ensures.refused in
      rw w.result-is (idle, refused))
]
