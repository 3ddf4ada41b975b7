use Rattle.std.proofs.Common.{◌≡◌, take}
use Rattle.sysmem_merge.proofs.joined.copied_offers.Given as goal

abbrev pub invariant-loop-one : goal.invariant-loop-one
invariant-loop-one l = l.copy.items ≡ take l.one-index l.kept
