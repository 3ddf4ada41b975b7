-- What was compared of a node and a log.
use Rattle.std.proofs.Common.{◌≡◌, ◌==◌, ℕ, Bool, List, Option, None, Some, slice_get, refl, sym, ◌∙◌, ap, subst}
use Rattle.std.specs.Prelude.{IfSome}
use Rattle.sysmem_tree.specs.declared.state.NodeState.{NodeState}
use Rattle.sysmem_tree.specs.Node.{NodeFacts}
use Rattle.sysmem_tree.specs.Nodes.{HasNode}
use Rattle.node_limits.proofs.CallerLemmas.{not_past}
use Rattle.sysmem_room.specs.Agreeing.{StandsAs}
use Rattle.sysmem_room.specs.Log.{LogFacts}

-- a node stands as a log makes it where its state is the log's
pub as_logged : (o : Option NodeFacts) (s t : NodeState) → IfSome o (λ n. s ≡ n.state) → s ≡ t → IfSome o (λ n. n.state ≡ t)
as_logged None s t of is = tt
as_logged (Some n) s t of is = sym of ∙ is

-- and roots its domain where the log says so
pub as_rooted : (o : Option NodeFacts) (domain i : ℕ) (root : Bool) → IfSome o (λ n. domain ≡ n.domain) → (domain == i) ≡ root → IfSome o (λ n. (n.domain == i) ≡ root)
as_rooted None domain i root of is = tt
as_rooted (Some n) domain i root of is = subst (λ d. (d == i) ≡ root) of is

-- where a node stands as the log says, it roots its domain where the log says so
pub rooted_as : (nodes : List NodeFacts) (log : LogFacts) (i domain : ℕ) → HasNode nodes i → IfSome (slice_get nodes i) (λ n. domain ≡ n.domain) → StandsAs nodes log i
    → (domain == i) ≡ log.begun.is_domain_root
rooted_as nodes log i domain there of stands = by (slice_get nodes i) refl of stands.root where
  by : (o : Option NodeFacts) → slice_get nodes i ≡ o → IfSome o (λ n. domain ≡ n.domain) → IfSome o (λ n. (n.domain == i) ≡ log.begun.is_domain_root) → (domain == i) ≡ log.begun.is_domain_root
  by None at one two = absurd (not_past nodes i there at)
  by (Some n) at one two = ap (λ d. d == i) one ∙ two
