-- What was added up so far.
use Rattle.std.proofs.Common.{◌≡◌, ◌≤◌, ◌*◌, ◌^◌, sum_by, take}
use Rattle.value_sources.specs.Sources.{part_of}
use Rattle.value_sources.proofs.counting.total.Given as goal

abbrev pub invariant-loop-participant : goal.invariant-loop-participant
invariant-loop-participant l = record {
  few : l.sum ≤ l.participant-index * 2 ^ 32;
  is : l.participant-index ≤ 128 → l.sum ≡ sum_by (part_of l.part) (take l.participant-index l.participants);
}
