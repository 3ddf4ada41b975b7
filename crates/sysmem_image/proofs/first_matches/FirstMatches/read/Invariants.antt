use Rattle.std.proofs.Common.{◌≡◌, length}
use Rattle.sysmem_image.specs.declared.first_matches.TheConstants.{SLOTS}
use Rattle.sysmem_image.proofs.Slots.{AreFirstUpTo}
use Rattle.sysmem_image.proofs.first_matches.FirstMatches.read.Given as goal

-- each slot has the first of the entries so far
abbrev pub invariant-loop-index : goal.invariant-loop-index
invariant-loop-index l = record {
  entries : l.self-inside.entries.now ≡ l.entries;
  room : length l.self-inside.first ≡ SLOTS;
  first : AreFirstUpTo l.entries l.index l.self-inside.first;
}
