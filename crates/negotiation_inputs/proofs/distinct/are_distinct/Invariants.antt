-- Those so far are distinct.
use Rattle.std.proofs.Common.{◌≡◌, false, take}
use Rattle.std.specs.Prelude.{AllPairs}
use Rattle.negotiation_inputs.proofs.distinct.are_distinct.Given as goal

abbrev pub invariant-loop-index : goal.invariant-loop-index
invariant-loop-index g l = AllPairs (λ a b. g.T.Distinct.same a b ≡ false) (take l.index l.items)
