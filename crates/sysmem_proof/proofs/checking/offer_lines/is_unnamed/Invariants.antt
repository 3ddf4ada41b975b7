-- Nobody so far names it.
use Rattle.std.specs.List.{filter_map}
use Rattle.offer_fits.specs.Demands.{offer_demands}
use Rattle.sysmem_merge.specs.Reasons.{IsUnnamedLine}
use Rattle.verdict_claims.specs.Roll.{asked_on}
use Rattle.verdict_claims.proofs.Marked.{below}
use Rattle.sysmem_proof.proofs.checking.offer_lines.is_unnamed.Given as goal

abbrev pub invariant-loop-number : goal.invariant-loop-number
invariant-loop-number l = IsUnnamedLine l.field l.offer (offer_demands (filter_map (asked_on l.roll) (below l.number)))
