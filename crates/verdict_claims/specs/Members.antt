-- The members of a domain, and what those of them with constraints ask.
use Rattle.std.specs.Prelude.{◌≡◌, ℕ, List, Option, option_map, slice_get}
use Rattle.std.specs.List.{filter_map}
use Rattle.negotiation_inputs.specs.Participant.{Participant}
use Rattle.sysmem_tree.specs.Laws.{PathsDiffer}
use Rattle.sysmem_tree.specs.Node.{NodeFacts}
use Rattle.sysmem_tree.specs.Path.{path_of}
use Rattle.sysmem_tree.specs.Shape.{Member, by_path}
use Rattle.sysmem_tree.specs.Sublist.{IsSublist}

-- what the participants among the members ask: those with constraints, in the order of the members
abbrev pub participants : List Member → List Participant
participants ms = filter_map (λ m. m.constraints) ms

-- what a shape shows of node i
abbrev pub member_at : List NodeFacts → ℕ → Option Member
member_at nodes i = option_map (by_path i (path_of nodes i)) (slice_get nodes i)

-- of nodes by their numbers
abbrev pub members_at : List NodeFacts → List ℕ → List Member
members_at nodes numbers = filter_map (member_at nodes) numbers

-- some members stand for all: they are the participants among them, in their order
pub record StandFor (some all : List Member) : Type 0 where
  pub among : IsSublist some all
  pub same : participants some ≡ participants all
  pub apart : PathsDiffer all
