-- What nodes ask, by their numbers.
use Rattle.std.specs.Prelude.{ℕ, List, Option, option_and_then, slice_get}
use Rattle.std.specs.List.{filter_map}
use Rattle.negotiation_inputs.specs.Participant.{Participant}
use Rattle.sysmem_tree.specs.Node.{NodeFacts}

-- what a node asks, if it has constraints
abbrev pub asks_at : List NodeFacts → ℕ → Option Participant
asks_at nodes i = option_and_then (λ n. n.constraints) (slice_get nodes i)

-- what the participants among nodes ask
abbrev pub asked_in : List NodeFacts → List ℕ → List Participant
asked_in nodes numbers = filter_map (asks_at nodes) numbers
