-- The roll is that of its parts.
use Rattle.std.proofs.Common.{◌≡◌, subst, slice_get}
use Rattle.std.specs.Prelude.{option_and_then}
use Rattle.std.specs.List.{filter_map}
use Rattle.verdict_claims.specs.Members.{participants}
use Rattle.verdict_claims.specs.Roll.{RollFacts, listed, numbers_on}
use Rattle.verdict_claims.proofs.Rolls.{asked_by_numbers}
use Rattle.sysmem_proof.proofs.roll.Roll.by_numbers.Goals as goal

pub returns : goal.returns
returns c = subst (λ (r : RollFacts). participants (listed r) ≡ filter_map (λ i. option_and_then (λ n. n.constraints) (slice_get r.nodes i)) (numbers_on r)) c.self.view_is
    (asked_by_numbers c.self.inside.tree.now.nodes c.self.invariant.1.tree c.one_path.ensures c.self.inside.domain c.self.invariant.0
    (c.one_forest.ensures c.self.inside.tree.now.nodes c.self.inside.domain) c.self.inside.prefix.now c.self.inside.accepted.now c.self.invariant.2)
