-- What is kept is the settled part.
use Rattle.std.proofs.Common.{◌≡◌, ◌≤◌, arith, length, length-take-le, refl, take}
use Rattle.live_book.proofs.Settled.{as_many, is_part}
use Rattle.live_book.proofs.snapshot.settled_history.Goals as goal

pub slice_bounds-part-end : goal.slice_bounds-part-end
slice_bounds-part-end c =
    let many : length c.history-history.result.now ≡ length c.args.book.now.history = as_many c.args.book.now.state.tree.nodes c.history-history.result.now c.args.book.now.history c.history-history.ensures.entries in
    let within : c.settled_count-count.result ≤ length c.history-history.result.now = omega (arith, c.settled_count-count.ensures.within, many) in
    let cut : length (take c.settled_count-count.result c.history-history.result.now) ≡ c.settled_count-count.result = length-take-le _ _ within in
    omega (arith, within, cut)

pub returns : goal.returns
returns c =
    let count = c.settled_count-count.ensures in
    let nodes = c.args.book.now.state.tree.nodes in
    is_part c.args.book.now nodes c.history-history.result.now (take c.settled_count-count.result c.history-history.result.now) c.in_ok-copy.copy.items c.settled_count-count.result c.history-history.ensures.entries refl
    (c.in_ok-copy.ensures nodes) (record { within = count.within; settled = count.settled; one_call = count.one_call; all = count.all })
