-- The calls with one carried, on names at the new places.
use Rattle.std.proofs.Common.{subst, sym}
use Rattle.other_outcomes.specs.Moved.{IsMoved, as_they_are}
use Rattle.other_outcomes.proofs.groups.earlier.Goals as goal

pub returns : goal.returns
returns c = record {
  others = _;
  moved = subst (IsMoved c.args.calls.now) (sym c.deref.ensures.value) (c.in_ok-moved.ensures c.args.calls.now as_they_are);
  first = _;
  second = _;
  placed = c.in_ok-made.ensures;
}
