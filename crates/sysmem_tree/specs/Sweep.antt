-- All domains at once, in order of creation of their roots: which have failed, and which are ready.
use Rattle.std.specs.Prelude.{ℕ, Bool, false, ◌&&◌, ◌||◌, List, Option, Some, None, get_or, map}
use Rattle.std.specs.Prelude.{option_map, unwrap_or, slice_get}
use Rattle.sysmem_tree.specs.declared.domain.Decision.{Decision}
use Rattle.sysmem_tree.specs.declared.domain.Decision.TheVariants.{Undecided}
use Rattle.sysmem_tree.specs.Domain.{TreeFacts, has_failed, is_chosen, is_none_chosen, is_ready}
use Rattle.sysmem_tree.specs.Node.{NodeFacts}

-- whether the k-th domain has failed
abbrev pub failed_at : TreeFacts → ℕ → Bool
failed_at t k =
    unwrap_or (option_map (has_failed t) (slice_get (map (λ d. d.root) t.domains) k)) false

-- whether the k-th domain is ready
abbrev pub ready_at : TreeFacts → ℕ → Bool
ready_at t k = unwrap_or (option_map (is_ready t) (slice_get (map (λ d. d.root) t.domains) k)) false

-- whether a decision of its domain is one without the node
abbrev pub is_lost_by : Decision → NodeFacts → Bool
is_lost_by decision n = is_none_chosen decision || (is_chosen decision && n.is_left_out)

-- a domain with this host fails with it: the host's domain has failed or was decided without the
-- host, both read by the numbers of roots
abbrev pub fails_with : List Bool → List Decision → Option NodeFacts → Bool
fails_with failed decisions None = false
fails_with failed decisions (Some host) =
    get_or failed host.domain false || is_lost_by (get_or decisions host.domain Undecided) host
