-- How many entries are kept.
use Rattle.std.proofs.Common.{length, refl}
use Rattle.live_book.proofs.Settled.{cut_count, whole_count}
use Rattle.live_book.proofs.snapshot.settled_count.Goals as goal

pub returns-then-is_waited_for : goal.returns-then-is_waited_for
returns-then-is_waited_for c =
    let count = cut_count c.args.book.now c.args.book.now.state.tree.nodes c.history-history.result.now c.before_last_action.result c.is_waited_for.result c.history-history.ensures.book c.requires c.history-history.ensures.entries
    c.is_waited_for.ensures c.if-is_waited_for.true c.before_last_action.ensures.within c.before_last_action.ensures.action c.before_last_action.ensures.later in
    record { within = count.within; settled = count.settled; one_call = count.one_call; all = count.all }

pub returns-else-is_waited_for : goal.returns-else-is_waited_for
returns-else-is_waited_for c =
    let count = whole_count c.args.book.now c.args.book.now.state.tree.nodes c.history-history.result.now (length c.history-history.result.now) c.is_waited_for.result c.history-history.ensures.book c.requires c.history-history.ensures.entries
    c.is_waited_for.ensures c.if-is_waited_for.false refl in
    record { within = count.within; settled = count.settled; one_call = count.one_call; all = count.all }
