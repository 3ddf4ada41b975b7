-- What an attached domain is decided on.
use Rattle.std.specs.Prelude.{◌≡◌, ◌≢◌, ◌^◌, ◌<◌, ◌≤◌, ℕ, List, length, Option, Some, None, All}
use Rattle.std.specs.Prelude.{AllPairs, IsSome, IsSomeAnd, slice_get}
use Rattle.sysmem_counts.specs.declared.bounds.TheConstants.{BUFFER_COUNT_LIMIT}
use Rattle.sysmem_image.specs.Bounds.{IsInRange}
use Rattle.sysmem_merge.specs.declared.settings.Settings.{Settings}
use Rattle.negotiation_inputs.specs.Platform.{PlatformFacts}
use Rattle.sysmem_tree.specs.Domain.{host_number}
use Rattle.sysmem_tree.specs.Node.{NodeFacts}
use Rattle.sysmem_tree.specs.Shape.{Member}
use Rattle.verdict_claims.specs.Members.{members_at}

-- the settings of the host's domain, and the nodes that were accepted before, by their numbers
pub record BaseFacts : Type 0 where
  pub settings : Settings
  pub accepted : List ℕ

-- the same without numbers: the settings are fixed, and the members that were
-- accepted before take part in their count
pub record Terms : Type 0 where
  pub settings : Settings
  pub accepted : List Member

-- the terms of a base in a tree of these nodes
abbrev pub terms_of : List NodeFacts → BaseFacts → Terms
terms_of nodes base = record { settings = base.settings; accepted = members_at nodes base.accepted }

-- the node is there, and in another domain
abbrev pub IsElsewhere : List NodeFacts → ℕ → ℕ → Type 0
IsElsewhere nodes domain i = IsSomeAnd (slice_get nodes i) (λ n. n.domain ≢ domain)

-- a base for a domain: settings that fit their types, with a count from 1 to 128 and a heap of the
-- platform; and nodes of the tree, each once and none of that domain
pub record IsBase (platform : PlatformFacts) (nodes : List NodeFacts) (domain : ℕ)
    (base : BaseFacts) : Type 0 where
  pub some : 1 ≤ base.settings.count
  pub few : base.settings.count ≤ BUFFER_COUNT_LIMIT
  pub heap : base.settings.place.heap < length platform.heaps
  pub size : base.settings.size_bytes < 2 ^ 64
  pub bounds : IsInRange base.settings.bounds
  pub elsewhere : All (IsElsewhere nodes domain) base.accepted
  pub once : AllPairs (λ i j. i ≢ j) base.accepted

-- a base is given exactly for an attached domain
abbrev pub IsGivenBase : PlatformFacts → List NodeFacts → ℕ → Option BaseFacts → Type 0
IsGivenBase platform nodes domain None = host_number nodes domain ≡ None
IsGivenBase platform nodes domain (Some base) =
    IsSome (host_number nodes domain) × IsBase platform nodes domain base
