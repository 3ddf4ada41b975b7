-- What is asked of a search, and what a verdict is checked against.
use Rattle.std.specs.Prelude.{ℕ, List, Option, option_map}
use Rattle.negotiation_inputs.specs.Platform.{PlatformFacts}
use Rattle.sysmem_tree.specs.Forest.{Forest}
use Rattle.sysmem_tree.specs.Node.{NodeFacts}
use Rattle.sysmem_tree.specs.Shape.{Member, shape_of}
use Rattle.verdict_claims.specs.Base.{BaseFacts, Terms, terms_of}

-- a domain of a tree of these nodes on a platform, with its base where it is an attached one
pub record Matter : Type 0 where
  pub platform : PlatformFacts
  pub nodes : List NodeFacts
  pub domain : ℕ
  pub base : Option BaseFacts

-- the domain's shape
abbrev pub forest : Matter → Forest Member
forest m = shape_of m.nodes m.domain

-- the terms of its base
abbrev pub terms : Matter → Option Terms
terms m = option_map (terms_of m.nodes) m.base
