-- Each of those so far takes the offer's colour space.
use Rattle.std.proofs.Common.{take}
use Rattle.std.specs.Prelude.{All}
use Rattle.sysmem_counts.specs.declared.field.Field.TheVariants.{ColorSpaces}
use Rattle.offer_fits.specs.Demands.{offer_demand}
use Rattle.verdict_claims.specs.Members.{members_at, participants}
use Rattle.conflict_finding.specs.Reading.{TakesIn}
use Rattle.conflict_finding.proofs.first_refusing.first_without_colour.Given as goal

abbrev pub invariant-loop-node : goal.invariant-loop-node
invariant-loop-node l = All (λ p. TakesIn ColorSpaces l.offer (offer_demand p)) (participants (members_at l.tree.nodes (take l.node-index l.nodes)))
