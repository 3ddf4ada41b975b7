-- The values are those of the items so far, whose numbers are of their types.
use Rattle.std.proofs.Common.{◌≡◌, take}
use Rattle.std.specs.Prelude.{All, map}
use Rattle.serde_json.specs.View.{view}
use Rattle.record_writing.proofs.listed.values_of.Given as goal

abbrev pub invariant-loop-item : goal.invariant-loop-item
invariant-loop-item g l =
    record {
      written : map view l.values.items ≡ map g.T.Listed.written (take l.item-index l.items);
      in_range : All g.T.Listed.in_range (take l.item-index l.items);
    }
