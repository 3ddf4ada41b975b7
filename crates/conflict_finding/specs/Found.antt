-- What a finder is given, and what it gives.
use Rattle.std.specs.Prelude.{ℕ, ◌≤◌, ◌++◌, List, All, Option, length}
use Rattle.sysmem_merge.specs.declared.settings.Settings.{Settings}
use Rattle.negotiation_inputs.specs.Platform.{PlatformFacts}
use Rattle.sysmem_tree.specs.Forest.{Forest, settled}
use Rattle.sysmem_tree.specs.Node.{NodeFacts}
use Rattle.sysmem_tree.specs.Nodes.{HasNode}
use Rattle.sysmem_tree.specs.Selection.{IsSelection}
use Rattle.sysmem_tree.specs.Shape.{Member}
use Rattle.sysmem_tree.specs.declared.tree.TheConstants.{MOST_NODES}
use Rattle.verdict_claims.specs.Base.{Terms}
use Rattle.verdict_claims.specs.Members.{members_at, StandFor}
use Rattle.verdict_claims.specs.Verdict.{IsBestFor}

-- the choices are a selection, for whose members the settings are the best
pub record IsBestChoice (platform : PlatformFacts) (terms : Option Terms) (d : Forest Member)
    (selection : List ℕ) (s : Settings) : Type 0 where
  pub members : Forest Member
  pub selects : IsSelection d selection members
  pub best : IsBestFor platform terms (settled members) s

-- behind those accepted before, these nodes are the participants that are settled
pub record AreSettledAt (nodes : List NodeFacts) (d : Forest Member)
    (accepted found : List ℕ) : Type 0 where
  pub there : All (HasNode nodes) (accepted ++ found)
  pub few : length (accepted ++ found) ≤ MOST_NODES
  pub stand : StandFor (members_at nodes (accepted ++ found))
      (members_at nodes accepted ++ settled d)
