-- See Reading.antt.
use Rattle.std.proofs.Common.{◌∙◌, eq-eqb, length, sym, arith}
use Rattle.std.proofs.lemmas.Bool.{eqb-true}
use Rattle.sysmem_room.proofs.Reading.{at_get, in_history, left_end, left_unread}
use Rattle.sysmem_room.proofs.agreeing.has_actions.Goals as goal

pub returns-in_default : goal.returns-in_default
returns-in_default c = (
  λ is. absurd (cc),
  λ is.
      let read = in_history c.tree-tree.result.now c.args.book.now.state.tree c.history-entries.result.now c.args.book.now.history c.args.node c.tree-tree.ensures c.history-entries.ensures.entries in
      let here = at_get c.history-entries.result.now c.loop-entry.entry-index _ c.loop-entry-test.true c.entry-item.is in
      absurd (left_unread c.tree-tree.result.now.nodes c.args.node c.history-entries.result.now c.args.actions.now c.loop-entry.entry-index c.loop-entry.at _ here (c.read_on.ensures.unread c.in_default.is) c.loop-entry.invariant.left (sym read ∙ is)),
)

pub returns : goal.returns
returns c =
    let read = in_history c.tree-tree.result.now c.args.book.now.state.tree c.history-entries.result.now c.args.book.now.history c.args.node c.tree-tree.ensures c.history-entries.ensures.entries in
    let all =
    left_end c.tree-tree.result.now.nodes c.args.node c.history-entries.result.now c.args.actions.now c.loop-entry.entry-index c.loop-entry.at (omega (arith, c.loop-entry-test.false)) c.loop-entry.invariant.within c.loop-entry.invariant.left in (
      λ is. read ∙ all.0 (eqb-true c.loop-entry.at (length c.args.actions.now) is),
      λ is. eq-eqb c.loop-entry.at (length c.args.actions.now) (all.1 (sym read ∙ is)),
    )
