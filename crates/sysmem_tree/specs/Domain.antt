-- Domains: whether one has failed, and whether it is ready.
use Rattle.std.specs.Prelude.{◌≡◌, ℕ, zero, suc, ◌+◌, ◌==◌, Bool, true, false, ◌&&◌, ◌||◌, not}
use Rattle.std.specs.Prelude.{List, [], ◌∷◌, Option, Some, None, IsSomeAnd, map, filter, option_map}
use Rattle.std.specs.Prelude.{option_and_then, unwrap_or, slice_get, if◌then◌else◌}
use Rattle.std.specs.List.{list_all, list_any}
use Rattle.sysmem_tree.specs.declared.domain.Decision.{Decision}
use Rattle.sysmem_tree.specs.declared.domain.Decision.TheVariants.{Undecided, Chosen, NoneChosen}
use Rattle.sysmem_tree.specs.declared.domain.Domain.{Domain}
use Rattle.sysmem_tree.specs.declared.fate.Fate.{Fate}
use Rattle.sysmem_tree.specs.declared.fate.Fate.TheVariants as fates
use Rattle.sysmem_tree.specs.Node.{NodeFacts, is_awaited}
use Rattle.sysmem_tree.specs.Nodes.{IsTree, AreProper}
use Rattle.sysmem_tree.specs.Path.{birth_of}
use Rattle.sysmem_tree.specs.declared.tree.TheConstants.{MOST_NODES}

-- the nodes in order of creation, the root first, and the domains in order of their roots
pub record TreeFacts : Type 0 where
  pub nodes : List NodeFacts
  pub domains : List Domain

-- node r roots a domain
abbrev pub HasDomain : List NodeFacts → ℕ → Type 0
HasDomain nodes r = IsSomeAnd (slice_get nodes r) (λ n. n.domain ≡ r)

abbrev pub is_chosen : Decision → Bool
is_chosen Chosen = true
is_chosen _ = false

abbrev pub is_none_chosen : Decision → Bool
is_none_chosen NoneChosen = true
is_none_chosen _ = false

abbrev pub is_undecided : Decision → Bool
is_undecided Undecided = true
is_undecided _ = false

-- whether a node of the domain of this root was closed before it was ready
abbrev pub was_closed_early : List Domain → ℕ → Bool
was_closed_early domains r = list_any (λ d. (d.root == r) && d.is_closed_early) domains

-- its decision
abbrev pub decision_of : List Domain → ℕ → Decision
decision_of [] r = Undecided
decision_of (d ∷ ds) r = if d.root == r then d.decision else decision_of ds r

-- the host of a domain, the collection to which its root was attached; the initial domain has none
abbrev pub host_node : List NodeFacts → ℕ → Option NodeFacts
host_node nodes r = option_and_then (λ n. option_and_then (λ b. slice_get nodes b.parent) n.birth)
    (slice_get nodes r)

-- the host's number
abbrev pub host_number : List NodeFacts → ℕ → Option ℕ
host_number nodes r = option_map (λ b. b.parent) (birth_of nodes r)

-- a node is selected where its domain was decided Chosen with the node among the members
abbrev pub is_selected : List Domain → NodeFacts → Bool
is_selected domains n = is_chosen (decision_of domains n.domain) && not n.is_left_out

-- a node is lost where its domain was decided without it
abbrev pub is_lost : List Domain → NodeFacts → Bool
is_lost domains n =
    is_none_chosen (decision_of domains n.domain)
    || (is_chosen (decision_of domains n.domain) && n.is_left_out)

-- the host is selected, where there is one
abbrev pub is_host_selected : List Domain → Option NodeFacts → Bool
is_host_selected domains None = true
is_host_selected domains (Some host) = is_selected domains host

-- there is a host, and it is lost
abbrev pub is_host_lost : List Domain → Option NodeFacts → Bool
is_host_lost domains None = false
is_host_lost domains (Some host) = is_lost domains host

-- a domain and those above it, each the domain of the host of the one before; at most so many
abbrev pub up_from : ℕ → List NodeFacts → ℕ → List ℕ
up_from zero nodes r = []
up_from (suc many) nodes r =
    r ∷ unwrap_or (option_map (λ host. up_from many nodes host.domain) (host_node nodes r)) []

-- a domain fails by itself where it was closed early, or its host was lost
abbrev pub fails : TreeFacts → ℕ → Bool
fails t r = was_closed_early t.domains r || is_host_lost t.domains (host_node t.nodes r)

-- a domain has failed where it, or one above it, fails by itself
abbrev pub has_failed : TreeFacts → ℕ → Bool
has_failed t r = list_any (fails t) (up_from MOST_NODES t.nodes r)

-- what a decision makes of its domain
abbrev pub fate_by : Decision → Fate
fate_by Undecided = fates.Undecided
fate_by Chosen = fates.Chosen
fate_by NoneChosen = fates.NoneChosen

-- what became of a domain
abbrev pub fate_of : TreeFacts → ℕ → Fate
fate_of t r = if has_failed t r then fates.Failed else fate_by (decision_of t.domains r)

-- the domains that one event made fail, in order of creation of their roots: those
-- that have failed and hadn't before
abbrev pub newly_failed : TreeFacts → TreeFacts → List ℕ
newly_failed old new =
    filter (λ r. has_failed new r && not (has_failed old r)) (map (λ d. d.root) new.domains)

-- no node of the domain is awaited
abbrev pub is_complete : List NodeFacts → ℕ → Bool
is_complete nodes r = list_all (λ n. not ((n.domain == r) && is_awaited n.state)) nodes

-- a domain is ready where its nodes are complete, it hasn't failed, and its
-- host, if it has one, is selected
abbrev pub is_ready : TreeFacts → ℕ → Bool
is_ready t r =
    is_complete t.nodes r
    && (not (has_failed t r) && is_host_selected t.domains (host_node t.nodes r))

-- the nodes that root a domain, from number i on
abbrev pub roots_from : ℕ → List NodeFacts → List ℕ
roots_from i [] = []
roots_from i (n ∷ nodes) =
    if n.domain == i then i ∷ roots_from (i + 1) nodes else roots_from (i + 1) nodes

-- each such node has its domain, in order of creation
abbrev pub AreDomains : TreeFacts → Type 0
AreDomains t = map (λ d. d.root) t.domains ≡ roots_from 0 t.nodes

-- what is decided is a domain of the tree that is ready
pub record IsDecidedReady (t : TreeFacts) (r : ℕ) : Type 0 where
  pub there : HasDomain t.nodes r
  pub ready : is_ready t r ≡ true

abbrev pub DecidedAreReady : TreeFacts → Type 0
DecidedAreReady t = (r : ℕ) → is_undecided (decision_of t.domains r) ≡ false → IsDecidedReady t r

-- a node that was left out is one of a domain that was decided Chosen
abbrev pub LeftOutAreChosen : TreeFacts → Type 0
LeftOutAreChosen t = (k : ℕ) (n : NodeFacts) → slice_get t.nodes k ≡ Some n → n.is_left_out ≡ true
    → is_chosen (decision_of t.domains n.domain) ≡ true

-- what is true of each tree: its nodes are one, and proper; its domains stand in order of their
-- roots; what is decided is ready; and none but a selection leaves a node out
pub record IsSoundTree (t : TreeFacts) : Type 0 where
  pub tree : IsTree t.nodes
  pub proper : AreProper t.nodes
  pub domains : AreDomains t
  pub decided : DecidedAreReady t
  pub left_out : LeftOutAreChosen t
