-- What a decision is made from.
use Rattle.std.specs.Prelude.{◌≡◌, ℕ, Option, Some, option_map}
use Rattle.verdict_claims.specs.Base.{BaseFacts, IsGivenBase, terms_of}
use Rattle.negotiation_inputs.specs.Platform.{PlatformFacts}
use Rattle.sysmem_tree.specs.Domain.{TreeFacts}
use Rattle.sysmem_tree.specs.Shape.{shape_of}
use Rattle.sysmem_alloc.specs.Book.{BookFacts}
use Rattle.sysmem_alloc.specs.Sound.{MayWait}
use Rattle.sysmem_alloc.specs.State.{base_of, next_ready}

-- the platform, the tree, the domain that is to be decided, and what it is decided on
pub record FrozenFacts : Type 0 where
  pub platform : PlatformFacts
  pub tree : TreeFacts
  pub domain : ℕ
  pub base : Option BaseFacts

-- the domain may wait for a decision, and what it is decided on is a base for it
pub record IsFrozen (f : FrozenFacts) : Type 0 where
  pub waits : MayWait f.tree f.domain
  pub given : IsGivenBase f.platform f.tree.nodes f.domain f.base

-- what a book has for the decision of the domain that is next; none where no domain waits
abbrev pub frozen_of : BookFacts → Option FrozenFacts
frozen_of b = option_map
    (λ r.
    record { platform = b.platform; tree = b.state.tree; domain = r; base = base_of b.state r })
    (next_ready b.state)

-- what was frozen still is what a book has for the decision of the domain that is next: the
-- platform, the domain with its shape, and its terms
pub record IsStill (b : BookFacts) (f : FrozenFacts) : Type 0 where
  pub next : next_ready b.state ≡ Some f.domain
  pub platform : b.platform ≡ f.platform
  pub shape : shape_of b.state.tree.nodes f.domain ≡ shape_of f.tree.nodes f.domain
  pub terms : option_map (terms_of b.state.tree.nodes) (base_of b.state f.domain)
      ≡ option_map (terms_of f.tree.nodes) f.base
