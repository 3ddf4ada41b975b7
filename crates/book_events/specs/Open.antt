-- Which nodes are open.
use Rattle.std.specs.Prelude.{ℕ, Bool, false, List, option_map, slice_get, unwrap_or}
use Rattle.sysmem_tree.specs.Node.{NodeFacts}

-- whether the node of this number is open; false where there is none
abbrev pub is_open : List NodeFacts → ℕ → Bool
is_open nodes i = unwrap_or (option_map (λ n. n.state.is_open) (slice_get nodes i)) false
