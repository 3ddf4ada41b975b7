-- One value more is that of the next item.
use Rattle.std.proofs.Common.{◌≤◌, length, arith}
use Rattle.record_writing.proofs.Lists.{map-more, map-left, all-more, all-left}
use Rattle.record_writing.proofs.listed.values_of.Goals as goal

pub loop-item-preserved : goal.loop-item-preserved
loop-item-preserved g c =
    let at = c.loop-item.item-index in
    let items = c.args.items.now in
    record {
      written = rw (c.in_ok-push.ensures.items) (map-more g.T.Listed.written items at c.item-item.result c.loop-item.values.items c.in_ok-value.field-0 c.loop-item-test.true c.item-item.is c.loop-item.invariant.written c.in_ok-value.ensures.written);
      in_range = all-more g.T.Listed.in_range items at c.item-item.result c.loop-item-test.true c.item-item.is c.loop-item.invariant.in_range c.in_ok-value.ensures.in_range;
    }

pub returns : goal.returns
returns g c =
    let at = c.loop-item.item-index in
    let items = c.args.items.now in
    let over : length items ≤ at = omega (arith, c.loop-item-test.false) in
    record {
      written = map-left g.T.Listed.written items at c.loop-item.values.items over c.loop-item.invariant.written;
      in_range = all-left g.T.Listed.in_range items at over c.loop-item.invariant.in_range;
    }
