-- Paths of nodes.
use Rattle.std.specs.Prelude.{ℕ, List, [], slice_get}
use Rattle.std.specs.Option.{option_map_or}
use Rattle.std.specs.String.{string_bytes}
use Rattle.script_story.specs.declared.story.Node.{Node}

-- the path of the node of a number, as a report has it
abbrev pub path_at : List Node → ℕ → List ℕ
path_at nodes number = option_map_or (λ node. string_bytes node.path) (slice_get nodes number) []
