-- What was counted so far.
use Rattle.std.proofs.Common.{◌≤◌, ◌*◌, ◌^◌, take}
use Rattle.sysmem_counts.specs.Bounds.{IsTallyOf}
use Rattle.sysmem_counts.specs.Tally.{sum_of}
use Rattle.value_sources.specs.Sources.{counts_of}
use Rattle.value_sources.proofs.counting.bounds_of.Given as goal

abbrev pub invariant-loop-one : goal.invariant-loop-one
invariant-loop-one l = record {
  stands : IsTallyOf l.bounds (counts_of (take l.one-index l.some));
  few : sum_of l.bounds ≤ l.one-index * 2 ^ 33;
}
