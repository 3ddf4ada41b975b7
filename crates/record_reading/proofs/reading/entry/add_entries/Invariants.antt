use Rattle.std.proofs.Common.{◌≡◌, take, ◌++◌}
use Rattle.std.specs.Prelude.{map}
use Rattle.record_reading.specs.Reading.Entries.{entry_with}
use Rattle.record_reading.proofs.reading.entry.add_entries.Given as goal

abbrev pub invariant-loop-pair : goal.invariant-loop-pair
invariant-loop-pair l = l.entries.items ≡ l.fn.entries.items ++ map (entry_with l.colours l.bounds) (take l.pair-index l.pairs)
