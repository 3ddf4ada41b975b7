-- One mark after the other.
use Rattle.std.proofs.Common.{refl, arith}
use Rattle.book_events.specs.Open.{is_open}
use Rattle.book_events.proofs.Marks.{set_none, none_of, set_all, open_past}
use Rattle.book_events.proofs.opening.open_nodes.Goals as goal

pub loop-number-init : goal.loop-number-init
loop-number-init c = set_none (is_open c.args.tree.now.nodes) _ refl none_of

pub returns : goal.returns
returns c = set_all (is_open c.args.tree.now.nodes) c.loop-number.marks c.loop-number.number
    (λ k more. open_past c.args.tree.now.nodes c.loop-number.number k (omega (arith, c.loop-number-test.false, c.node_count-number-end.ensures.number)) more) c.loop-number.invariant
