-- Whom a line may name.
use Rattle.std.specs.Prelude.{ℕ, ◌++◌, ◌==◌, List, [], Option, None, option_and_then}
use Rattle.std.specs.Prelude.{slice_get, unwrap_or, if◌then◌else◌}
use Rattle.std.specs.List.{filter_map, list_any}
use Rattle.negotiation_inputs.specs.Participant.{Participant}
use Rattle.sysmem_tree.specs.Node.{NodeFacts}
use Rattle.sysmem_tree.specs.Selection.{settled_by}
use Rattle.sysmem_tree.specs.Shape.{Member, members_of, shape_of}
use Rattle.verdict_claims.specs.Members.{members_at}
use Rattle.verdict_claims.specs.Naming.{asked_at}

-- choices in a domain of these nodes, and nodes that were accepted before
pub record RollFacts : Type 0 where
  pub nodes : List NodeFacts
  pub domain : ℕ
  pub choices : List ℕ
  pub accepted : List ℕ

-- the members that the choices settle, behind those accepted before
abbrev pub listed : RollFacts → List Member
listed roll =
    members_at roll.nodes roll.accepted
    ++ unwrap_or (settled_by (shape_of roll.nodes roll.domain) roll.choices) []

-- the numbers of those members
abbrev pub numbers_on : RollFacts → List ℕ
numbers_on roll = roll.accepted ++ members_of roll.nodes roll.domain roll.choices

-- what the node of this number asks, if it is one of them
abbrev pub asked_on : RollFacts → ℕ → Option Participant
asked_on roll i =
    if list_any (λ j. j == i) (numbers_on roll)
    then option_and_then (λ n. n.constraints) (slice_get roll.nodes i)
    else None

-- what the participants among some members ask whom paths name
abbrev pub asked_by : List Member → List (List ℕ) → List Participant
asked_by ms paths = filter_map (asked_at ms) paths
