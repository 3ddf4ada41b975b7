-- What conflicts are looked for in.
use Rattle.sysmem_tree.specs.Domain.{HasDomain}
use Rattle.sysmem_tree.specs.Nodes.{IsTree}
use Rattle.verdict_claims.specs.Base.{IsGivenBase}
use Rattle.verdict_claims.specs.Matter.{Matter}

-- the nodes are a tree's, which has the domain; and a base is given exactly where that is an
-- attached one
pub record IsSubject (m : Matter) : Type 0 where
  pub tree : IsTree m.nodes
  pub domain : HasDomain m.nodes m.domain
  pub base : IsGivenBase m.platform m.nodes m.domain m.base
